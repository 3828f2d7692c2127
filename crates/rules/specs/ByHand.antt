-- RULES 12: the starred numbers, and the whole run file, computed.
use Rattle.std.specs.Prelude.{ℕ, ◌≡◌, refl, Bool, true, false, List, [], ◌∷◌, ◌++◌, map, ℤ, pos, negsuc, get_or}
use Rattle.rules.specs.declared.Vote.{Vote}
use Rattle.rules.specs.declared.Vote.TheVariants.{Count, None}
use Rattle.rules.specs.Counting.{count_below, largest_below, least, or_else, count_or0, same, rows}
use Rattle.rules.specs.Parameters.{c0, restart, digits_in, binary_digits}
use Rattle.rules.specs.Groups.{read_vote, word_of, bit_of, heard_in}
use Rattle.rules.specs.OneBeat.{Standing, sent_by, enough, most_sent, most_frequent, vote, follows, cooldown, span, pointer, step0}
use Rattle.rules.specs.OneBeat.{step1, step2, supported, obeyed, gained, leaf_next, group_next, padded, next_record, shown_count}
use Rattle.rules.specs.WholeBeat.{is_broken, broken_below, bad_set, heard_on_beat, held_record, record_after, table_after}
use Rattle.rules.specs.Lag.{nearest, lag_of}
use Rattle.rules.specs.Text.{digit_of, is_digit, value_of, hex_of, number_at, all_digits, well_formed, words_at, line_feed, one_more}
use Rattle.rules.specs.Text.{in_front}
use Rattle.rules.specs.Text.{lines_of}
use Rattle.rules.specs.RunFile.{header_of, header_refusal, start_line_refusal, beat_line_refusal, shown_word, output_line, refusal_line}
use Rattle.rules.specs.RunFile.{or_refused, take_line, at_end, continued, run_lines, run_text}

-- what a definition gives, and what the rules print for it
pub record Case : Type 0 where
  pub got : ℤ
  pub printed : ℤ

abbrev pub is : ℕ → ℕ → Case
is got printed = record { got = pos got; printed = pos printed }

-- what the cards 0, 1, .. sent
abbrev pub sent : List Vote → ℕ → Vote
sent votes u = get_or votes u None

-- two cards with f = 0 and modulus 3, by their words
abbrev pub flat : List ℕ → ℕ → ℕ
flat words card = get_or (next_record 2 0 3 (heard_in 1 words) card) 0 9

-- the words a and b after a step of n = 4, f = 1, c = 8
abbrev pub a_after : Standing → ℕ
a_after s = word_of (gained 8 s.a)

abbrev pub standing : Vote → Bool → Standing
standing a b = record { a = a; b = b }

-- the word that stands for none, as the rules print it
abbrev pub none : ℕ
none = 65535

-- the starred cases
pub starred : List Case
starred =
    is (flat (2 ∷ 1 ∷ []) 0) 0
    ∷ is (flat (2 ∷ 1 ∷ []) 1) 0
    ∷ is (flat (7 ∷ 1 ∷ []) 0) 1
    ∷ is (flat (7 ∷ 1 ∷ []) 1) 1
    ∷ is (word_of (vote 4 1 18 (sent (Count 5 ∷ Count 5 ∷ Count 5 ∷ Count 9 ∷ [])))) 5
    ∷ is (word_of (vote 4 1 18 (sent (Count 5 ∷ Count 5 ∷ Count 9 ∷ Count 9 ∷ [])))) none
    ∷ is (most_frequent 18 2 (sent (Count 3 ∷ Count 8 ∷ []))) 3
    ∷ is (cooldown (c0 1) (restart 1) (Count 17) (Count 0) 5) 4
    ∷ is (cooldown (c0 1) (restart 1) (Count 17) (Count 17) 5) 108
    ∷ is (word_of (pointer (span 0 1) (Count 8))) 0
    ∷ is (word_of (pointer (span 0 1) (Count 9))) 1
    ∷ is (word_of (pointer (span 1 1) (Count 26))) 0
    ∷ is (word_of (pointer (span 1 1) (Count 27))) 1
    ∷ is (a_after (step0 4 1 (sent (Count 3 ∷ Count 3 ∷ Count 3 ∷ Count 6 ∷ [])) (standing (Count 3) true))) 4
    ∷ is (a_after (step1 4 1 8 (sent (Count 3 ∷ Count 3 ∷ Count 6 ∷ None ∷ [])) (standing (Count 3) true))) 4
    ∷ is (bit_of (step1 4 1 8 (sent (Count 3 ∷ Count 3 ∷ Count 6 ∷ None ∷ [])) (standing (Count 3) true)).b) 0
    ∷ is (a_after (step2 None (standing None false))) 1
    ∷ is (bit_of (step2 None (standing None false)).b) 1
    ∷ record { got = lag_of 8 1 7; printed = pos 2 }
    ∷ record { got = lag_of 8 7 1; printed = negsuc 1 }
    ∷ []

pub starred_hold : map (λ (k : Case). k.got) starred ≡ map (λ (k : Case). k.printed) starred
unfolding starred count_below largest_below least or_else count_or0 same digits_in binary_digits read_vote word_of sent_by enough
    most_sent most_frequent vote follows cooldown pointer step0 step1 step2 supported obeyed gained leaf_next group_next padded
    next_record nearest lag_of
starred_hold = refl

-- a line of a run file, by its number of digits and the number that they make
abbrev pub line : ℕ → ℕ → List ℕ
line digits number = hex_of digits number ++ (line_feed ∷ [])

-- line 1, line 2 and the output for line 2
abbrev pub opening : List ℕ
opening = line 12 0x020000030000 ++ line 12 0x000000020001

abbrev pub started : List ℕ
started = line 12 0x000000020001

-- the whole case, and the same with `0002` as the third line
pub worked_run :
    (run_text (opening ++ line 4 1 ++ line 4 2) ≡ started ++ line 12 0x000100000000 ++ line 12 0x000200010001)
    × (run_text (opening ++ line 4 2 ++ line 4 2) ≡ started ++ line 14 0xffff000000030b)
unfolding count_below largest_below least or_else count_or0 same rows digits_in binary_digits read_vote word_of leaf_next group_next
    padded next_record shown_count is_broken broken_below bad_set heard_on_beat held_record record_after table_after digit_of is_digit
    value_of hex_of number_at all_digits well_formed words_at one_more in_front lines_of header_of header_refusal start_line_refusal
    beat_line_refusal shown_word output_line refusal_line or_refused take_line at_end continued run_lines run_text
worked_run = (refl, refl)
