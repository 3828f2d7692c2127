-- Laws of the output line: a card's word is read in its record, and the line is stored part by part.
use mathlib.Core.Path.{◌≡◌, refl, sym, ◌∙◌}
use mathlib.Core.Bool.{Bool, true, false}
use mathlib.Core.List.{List, [], ◌∷◌, ◌++◌}
use Prim.Native.Nat.{ℕ, ◌+◌, ◌*◌, ◌≤◌, ◌<◌}
use native.Mathlib.Omega.{arith}
use borrow.Author.Tests.{eq-eqb}
use borrow.Rule.Slice.PartMut.{put_mid, mid_of}
use lib.ListN.{length, get_or, take, drop, set, length-append}
use lib.Seq.{sets, length-sets, get_or-take, get_or-drop}
use Rattle.rules.specs.Counting.{rows}
use Rattle.std.specs.Prelude.{Result, Ok, Err}
use Rattle.std.specs.Result.{result_unwrap_or}
use Rattle.rules.specs.declared.Refusal.{Refusal}
use Rattle.rules.specs.declared.Vote.{Vote}
use Rattle.rules.specs.declared.Vote.TheVariants.{None}
use Rattle.rules.specs.Parameters.{record_words, bad_cards, bad_broken, bad_modulus, none_word}
use Rattle.rules.specs.Groups.{word_of, output_place}
use Rattle.rules.specs.OneBeat.{shown_count}
use Rattle.rules.specs.WholeBeat.{is_broken, bad_set}
use Rattle.rules.specs.Refusals.{given, wrong, counter_refusal, value_in}
use Rattle.rules.specs.Calls.{shown_answer}
use Rattle.rules.specs.Text.{hex_of, line_feed}
use Rattle.rules.specs.RunFile.{Header, header_tests, start_words, shown_word, output_line, refusal_line}
use Rattle.rules.proofs.Lists.{part_length, part_back, rows_length, rows_same}
use Rattle.rules.proofs.Records.{output_inside}
use Rattle.rules.proofs.Shapes.{counter_passed}
use Rattle.digits.proofs.Hexadecimal.{hex_length}
use Rattle.digits.proofs.Stores.{sets_append}
use Rattle.rack.proofs.Accepted.{record_inside}
use Rattle.frames.proofs.Stores.{first_stored}

-- refusals 1 to 3 are not given
counter_part : (s t u b : Bool) → given 1 s (given 2 t (given 3 u (given 7 b 0))) ≡ 0 → given 1 s (given 2 t (given 3 u 0)) ≡ 0
counter_part true t u b e = e
counter_part false true u b e = e
counter_part false false true b e = e
counter_part false false false b e = refl

pub counter_none : (h : Header) → header_tests h ≡ 0 → counter_refusal h.n h.f h.c 0 ≡ 0
counter_none h e = counter_part (bad_cards h.n) (bad_broken h.n h.f) (bad_modulus h.c) (bad_set h.n h.f h.set) e

-- the value of an answer
pub unwrapped : (nothing : Vote) (r : Result Vote Refusal) → result_unwrap_or r nothing ≡ value_in nothing r
unwrapped nothing (Ok vote) = refl
unwrapped nothing (Err refusal) = refl

-- the shown count of a sound card
pub shown_sound : (h : Header) (table : List ℕ) (v w : ℕ) → header_tests h ≡ 0
    → w ≡ record_words h.f → v * w + w ≤ length table → is_broken h.set v ≡ false
    → (words : List ℕ) → words ≡ take w (drop (v * w) table) → length words ≡ w
    → word_of (shown_answer h.n h.f h.c words) ≡ shown_word h table v
unfolding shown_answer shown_count shown_word
shown_sound h table v w e q l b words p n =
    let size = record_words h.f in
    let at = output_place h.f in
    let none = counter_passed h.n h.f h.c (given 5 (wrong (length words) size) 0) _ (sym (counter_none h e)) refl in
    rw (
      none,
      eq-eqb (length words) size (n ∙ q),
      b,
      p,
      get_or-take w (drop (v * w) table) at 0 (omega (arith, output_inside h.f)),
      get_or-drop (v * w) table at 0,
      q,
    )

pub shown_broken : (h : Header) (table : List ℕ) (v : ℕ) → is_broken h.set v ≡ true → word_of None ≡ shown_word h table v
unfolding shown_word word_of
shown_broken h table v b = rw b

-- the text of the cards' words
abbrev pub shown_text : Header → List ℕ → ℕ → List ℕ
shown_text h table v = hex_of 4 (shown_word h table v)

pub shown_length : (h : Header) (table : List ℕ) (k : ℕ) → length (rows k (shown_text h table)) ≡ k * 4
shown_length h table k = rows_length k 4 (shown_text h table) (λ v l. hex_length 4 (shown_word h table v))

-- the line is stored part by part
pub line_length_lem : (h : Header) (beat : ℕ) (table : List ℕ) → length (output_line h beat table) ≡ 5 + 4 * h.n
unfolding output_line
line_length_lem h beat table = simp (length-append, hex_length, shown_length) (omega arith)

pub line_stored : (h : Header) (beat end : ℕ) (table out : List ℕ) → end ≡ 4 + 4 * h.n
    → set (sets (sets out 0 (hex_of 4 beat)) 4 (rows h.n (shown_text h table))) end line_feed ≡ sets out 0 (output_line h beat table)
unfolding output_line
line_stored h beat end table out e =
    let beats = hex_of 4 beat in
    let shown = rows h.n (shown_text h table) in
    let at : 0 + length (beats ++ shown) ≡ end = omega (arith, length-append beats shown, hex_length 4 beat, shown_length h table h.n) in
    rw (sets_append (beats ++ shown) (line_feed ∷ []) out 0, at, sets_append beats shown out 0, hex_length 4 beat)

pub refusal_length : (number refusal : ℕ) → length (refusal_line number refusal) ≡ 15
unfolding refusal_line
refusal_length number refusal = simp (length-append, hex_length)

pub refusal_stored : (number refusal : ℕ) (out : List ℕ)
    → set (sets (sets (sets out 0 (hex_of 4 none_word)) 4 (hex_of 8 number)) 12 (hex_of 2 refusal)) 14 line_feed
    ≡ sets out 0 (refusal_line number refusal)
unfolding refusal_line
refusal_stored number refusal out =
    let none = hex_of 4 none_word in
    let line = hex_of 8 number in
    let why = hex_of 2 refusal in
    let first : 0 + length (none ++ line) ≡ 12 = omega (arith, length-append none line, hex_length 4 none_word, hex_length 8 number) in
    let both : 0 + length (none ++ line ++ why) ≡ 14 = omega (arith, length-append (none ++ line) why, hex_length 2 refusal) in
    rw (
      sets_append (none ++ line ++ why) (line_feed ∷ []) out 0,
      both,
      sets_append (none ++ line) why out 0,
      first,
      sets_append none line out 0,
      hex_length 4 none_word,
    )

-- each part of it is as long as the place that it fills
pub refusal_written : (number refusal : ℕ) (out none line why : List ℕ) → length out ≡ 69 → none ≡ hex_of 4 none_word
    → line ≡ hex_of (length (mid_of 4 8 (put_mid 0 4 out none))) number
    → why ≡ hex_of (length (mid_of 12 2 (put_mid 4 8 (put_mid 0 4 out none) line))) refusal
    → set (put_mid 12 2 (put_mid 4 8 (put_mid 0 4 out none) line) why) 14 line_feed ≡ sets out 0 (refusal_line number refusal)
refusal_written number refusal out none line why l p q r =
    let first = sets out 0 none in
    let s = part_back none out 0 4 (rw p (hex_length 4 none_word)) (omega arith) in
    let q : line ≡ hex_of 8 number = q ∙ rw (s, part_length first 4 8 (omega (arith, length-sets out 0 none))) in
    let both = sets first 4 line in
    let t = part_back line first 4 8 (rw q (hex_length 8 number)) (omega (arith, length-sets out 0 none)) in
    let long : length both ≡ 69 = length-sets first 4 line ∙ length-sets out 0 none ∙ l in
    let r : why ≡ hex_of 2 refusal = r ∙ rw (s, t, part_length both 12 2 (omega arith)) in
    let u = part_back why both 12 2 (rw r (hex_length 2 refusal)) (omega arith) in
    rw (s, t, u, p, q, r) (refusal_stored number refusal out)

-- only the n records matter
pub line_same : (h : Header) (beat : ℕ) (s t : List ℕ) → ((j : ℕ) → j < start_words h → get_or s j 0 ≡ get_or t j 0)
    → output_line h beat s ≡ output_line h beat t
unfolding output_line shown_word shown_count
line_same h beat s t e =
    rw (rows_same h.n (shown_text h s) (shown_text h t) (λ v l.
    rw (e (v * record_words h.f + output_place h.f) (omega (arith, record_inside v h.n (record_words h.f) l, output_inside h.f)))))

-- the line of a table that is stored in a buffer
pub line_of_stored : (h : Header) (beat : ℕ) (buffer table : List ℕ) → length table ≡ start_words h → start_words h ≤ length buffer
    → output_line h beat (sets buffer 0 table) ≡ output_line h beat table
line_of_stored h beat buffer table e l =
    line_same h beat (sets buffer 0 table) table (λ j b. first_stored buffer table j (omega arith) (omega arith))
