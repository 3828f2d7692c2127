-- RULES 6: the whole beat.
use Rattle.std.specs.Prelude.{ℕ, ◌*◌, ◌/◌, ◌%◌, ◌^◌, Bool, cond, ◌||◌, List, eqb, ltb, leb, get_or}
use Rattle.rules.specs.Counting.{count_below, rows, tabulate}
use Rattle.rules.specs.Parameters.{record_words}
use Rattle.rules.specs.Groups.{place, heard_in}
use Rattle.rules.specs.OneBeat.{next_record}

-- RULES 6: "bit v is 1 if card v is broken"
unfoldable pub is_broken : ℕ → ℕ → Bool
is_broken set v = eqb (set / 2 ^ v % 2) 1

-- how many broken cards there are below v
unfoldable pub broken_below : ℕ → ℕ → ℕ
broken_below set v = count_below v (is_broken set)

-- RULES 9.1, refusal 7: "the broken set names a card at or above n, or more than f cards"
unfoldable pub bad_set : ℕ → ℕ → ℕ → Bool
bad_set n f set = leb (2 ^ n) set || ltb f (broken_below set n)

-- how many words the broken cards send. RULES 6: "There are n·(broken)·W of them"
abbrev pub sent_words : ℕ → ℕ → ℕ → ℕ
sent_words n f set = n * (broken_below set n) * record_words f

-- What the receiver v hears from u. RULES 6: "for each receiver in order, for each broken card in order, W words"; "A sound card is
-- heard as held"
unfoldable pub heard_on_beat : ℕ → ℕ → ℕ → List ℕ → List ℕ → ℕ → ℕ → ℕ → ℕ
heard_on_beat n f set held sent v u j =
    cond (is_broken set u)
    (get_or sent (place (record_words f) (place (broken_below set n) v (broken_below set u)) j) 0)
    (heard_in (record_words f) held u j)

-- the record that the card v holds
unfoldable pub held_record : ℕ → List ℕ → ℕ → List ℕ
held_record w held v = tabulate w (λ (j : ℕ). heard_in w held v j)

-- the record of the card v after the beat. RULES 6: "Broken cards' held records stay unchanged."
unfoldable pub record_after : ℕ → ℕ → ℕ → ℕ → List ℕ → List ℕ → ℕ → List ℕ
record_after n f c set held sent v =
    cond (is_broken set v) (held_record (record_words f) held v) (next_record n f c (heard_on_beat n f set held sent v) v)

-- the n records after the beat
unfoldable pub table_after : ℕ → ℕ → ℕ → ℕ → List ℕ → List ℕ → List ℕ
table_after n f c set held sent = rows n (record_after n f c set held sent)
