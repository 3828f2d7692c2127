-- Laws of one line of the output: its digits, the numbers that they make, and that it is one line.
use mathlib.Core.Path.{◌≡◌, ◌∙◌}
use mathlib.Core.Logic.{⊎_elim}
use mathlib.Core.Bool.{true, false}
use mathlib.Core.List.{List, [], ◌∷◌, ◌++◌}
use Prim.Native.Nat.{ℕ, ◌+◌, ◌*◌, ◌≤◌, ◌<◌}
use native.Mathlib.Omega.{arith}
use borrow.Author.Tests.{ne_eqb, eq-eqb}
use Rattle.std.proofs.lemmas.Bool.{and_parts, and_from}
use lib.Dec.{eqb}
use lib.ListN.{length, length-append}
use lib.Seq.{append_snoc}
use Rattle.rules.specs.Counting.{rows}
use Rattle.rules.specs.Parameters.{none_word}
use Rattle.rules.specs.WholeBeat.{is_broken}
use Rattle.rules.specs.Text.{hex_of, is_digit, all_digits, well_formed, line_feed, lines_of}
use Rattle.rules.specs.RunFile.{Header, frame_digits, beat_of, last_beat, shown_word, output_line, refusal_line}
use Rattle.rules.proofs.Lists.{behind_seam, rows_length, rows_at}
use Rattle.rules.proofs.Lines.{no_feed, no_lines, line_first}
use Rattle.digits.proofs.Hexadecimal.{digit_cases, digits_append, digits_rows, hex_length, hex_digits}
use Rattle.digits.proofs.Hexadecimal.{number_same, number_front, number_of_hex}
use Rattle.end_to_end.specs.RunFiles.{card_word, Shows}

-- a line feed is no digit
digits_no_feed : (text : List ℕ) → all_digits text ≡ true → no_feed text
unfolding all_digits no_feed
digits_no_feed [] e = tt
digits_no_feed (ch ∷ text) e =
    let both = and_parts (is_digit ch) (all_digits text) e in (
      ⊎_elim
          (λ (p : (48 ≤ ch) × (ch ≤ 57)). ne_eqb ch line_feed (omega arith))
          (λ (p : (97 ≤ ch) × (ch ≤ 102)). ne_eqb ch line_feed (omega arith))
          (digit_cases ch both.0),
      digits_no_feed text both.1,
    )

-- a text of digits that a line feed ends is one line
one_line : (line rest : List ℕ) → all_digits line ≡ true → lines_of (line ++ (line_feed ∷ rest)) ≡ line ∷ lines_of rest
one_line line rest e = line_first line rest (digits_no_feed line e)

-- a beat and a word for each of n cards
abbrev pub frame : ℕ → ℕ → (ℕ → ℕ) → List ℕ
frame n beat word = hex_of 4 beat ++ rows n (λ (v : ℕ). hex_of 4 (word v))

module _ (n beat : ℕ) (word : ℕ → ℕ) where
  words_length : length (rows n (λ (v : ℕ). hex_of 4 (word v))) ≡ n * 4
  words_length = rows_length n 4 _ (λ v l. hex_length 4 (word v))

  frame_digits_lem : all_digits (frame n beat word) ≡ true
  frame_digits_lem = digits_append (hex_of 4 beat) _ (hex_digits 4 beat) (digits_rows n _ (λ v. hex_digits 4 (word v)))

  pub frame_formed : well_formed (frame_digits n) (frame n beat word) ≡ true
  unfolding well_formed
  frame_formed =
      let size = length-append (hex_of 4 beat) (rows n (λ (v : ℕ). hex_of 4 (word v))) in
      and_from (eqb _ (frame_digits n)) _
      (eq-eqb _ (frame_digits n) (omega (arith, size, hex_length 4 beat, words_length)))
      frame_digits_lem

  pub frame_beat : beat ≤ none_word → beat_of (frame n beat word) ≡ beat
  frame_beat l = number_front (hex_of 4 beat) _ 4 (omega (arith, hex_length 4 beat)) ∙ number_of_hex 4 beat (omega arith)

  pub frame_word : (v : ℕ) → v < n → word v ≤ none_word → card_word (frame n beat word) v ≡ word v
  frame_word v l fits =
      number_same (frame n beat word) (hex_of 4 (word v)) (4 + 4 * v) 0 4 (λ j lj.
      let e : 4 + 4 * v + j ≡ 4 + (v * 4 + j) = omega arith in
      let z : 0 + j ≡ j = omega arith in
      rw (e, z) (behind_seam (hex_of 4 beat) _ 4 (v * 4 + j) (hex_length 4 beat) ∙ rows_at n 4 _ (λ i l. hex_length 4 (word i)) v j l lj))
      ∙ number_of_hex 4 (word v) (omega arith)

-- the line of a beat: where all sound cards show one count, it shows that count
abbrev pub shown_line : Header → ℕ → List ℕ → List ℕ
shown_line h beat table = frame h.n beat (shown_word h table)

pub line_shows : (h : Header) (beat count : ℕ) (table : List ℕ) → beat ≤ last_beat → count ≤ none_word
    → ((v : ℕ) → v < h.n → is_broken h.set v ≡ false → shown_word h table v ≡ count)
    → Shows h beat count (shown_line h beat table)
unfolding shown_word
line_shows h beat count table lb lc same =
    let word = shown_word h table in
    record {
      formed = frame_formed h.n beat word;
      on_beat = frame_beat h.n beat word (omega arith);
      sound = λ v lv sv. let e = same v lv sv in frame_word h.n beat word v lv (rw e lc) ∙ e;
      broken = λ v lv bv. let e : word v ≡ none_word = rw bv in frame_word h.n beat word v lv (rw e (omega arith)) ∙ e;
    }

-- it is the first of the lines, and those of the rest follow
pub shown_first : (h : Header) (beat : ℕ) (table rest : List ℕ)
    → lines_of (output_line h beat table ++ rest) ≡ shown_line h beat table ∷ lines_of rest
unfolding output_line
shown_first h beat table rest =
    let line = shown_line h beat table in
    rw (append_snoc line line_feed rest) (one_line line rest (frame_digits_lem h.n beat (shown_word h table)))

-- the line of a refusal, which is the last one, begins with ffff
pub refusal_alone : (k refusal : ℕ) → (line : List ℕ) × (lines_of (refusal_line k refusal) ≡ line ∷ []) × (beat_of line ≡ none_word)
unfolding refusal_line
refusal_alone k refusal =
    let none = hex_of 4 none_word in
    let both = none ++ hex_of 8 k in
    let digits = digits_append none _ (hex_digits 4 none_word) (hex_digits 8 k) in (
      both ++ hex_of 2 refusal,
      one_line (both ++ hex_of 2 refusal) [] (digits_append both _ digits (hex_digits 2 refusal)) ∙ rw no_lines,
      number_front both _ 4 (omega (arith, length-append none (hex_of 8 k), hex_length 4 none_word))
          ∙ number_front none _ 4 (omega (arith, hex_length 4 none_word))
          ∙ number_of_hex 4 none_word (omega arith),
    )
