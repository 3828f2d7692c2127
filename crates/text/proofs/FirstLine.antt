-- Laws of the lines of a text: the first one and the others, line k and whether it is there.
use mathlib.Core.Path.{◌≡◌, refl, sym, ap, ◌∙◌}
use mathlib.Core.Logic.{⊎_elim}
use mathlib.Core.Bool.{Bool, true, false}
use mathlib.Core.List.{List, [], ◌∷◌}
use Prim.Native.Nat.{ℕ, suc, ◌+◌, ◌-◌, ◌≤◌, ◌<◌}
use native.Mathlib.Nat.{add-zero}
use native.Mathlib.Omega.{arith}
use borrow.Author.Tests.{le-leb, lt-leb, ltb-false}
use lib.Dec.{eqb, leb, ltb}
use Rattle.std.proofs.lemmas.Bool.{cases_Bool}
use Rattle.std.specs.Prelude.{position}
use Rattle.std.specs.Option.{unwrap_or}
use Rattle.std.specs.List.{position_or_len}
use Rattle.std.proofs.lemmas.List.Recursion.{is_position_or_len}
use lib.ListN.{length, get_or, take, drop, length-drop}
use lib.Seq.{drop-drop, get_or-drop, length-take-le}
use Rattle.rules.specs.Text.{line_feed, one_more, in_front, lines_of, has_line, line_at, span_of, start_of}
use Rattle.text.specs.Lines.{line_length, end_from, Stands}

length_fits : (t : List ℕ) → line_length t ≤ length t
unfolding line_length
length_fits [] = omega arith
length_fits (ch ∷ rest) = ⊎_elim
    (λ e. rw e (omega arith))
    (λ e. rw e (omega (arith, length_fits rest)))
    (cases_Bool (eqb ch line_feed))

abbrev pub is_feed : ℕ → Bool
is_feed ch = eqb ch line_feed

-- what the search for a line feed tells: how long the line is
length_is : (t : List ℕ) → line_length t ≡ position_or_len is_feed t
unfolding line_length
length_is t =
    is_position_or_len line_length is_feed refl
    (λ ch rest. let e : suc (line_length rest) ≡ 1 + line_length rest = omega arith in rw e) t

pub feed_at : (t : List ℕ) → unwrap_or (position is_feed t) (length t) ≡ line_length t
feed_at t =
    let p = position_or_len is_feed t in
    ⊎_elim
    (λ b. rw b (sym (length_is t)))
    (λ b. rw b (omega (arith, ltb-false p (length t) b, length_is t, length_fits t)))
    (cases_Bool (ltb p (length t)))

pub end_within : (text : List ℕ) (start : ℕ) → start ≤ length text → end_from text start ≤ length text
end_within text start l = omega (arith, length_fits (drop start text), length-drop start text)

part_length : (text : List ℕ) (start : ℕ) → start ≤ length text
    → length (take (end_from text start - start) (drop start text)) ≡ end_from text start - start
part_length text start l =
    length-take-le (end_from text start - start) (drop start text) (omega (arith, length-drop start text, end_within text start l))

-- the first line of a text that has a character, and the others
first_line : (t : List ℕ) → 0 < length t → lines_of t ≡ take (line_length t) t ∷ lines_of (drop (suc (line_length t)) t)
unfolding line_length lines_of in_front one_more
first_line [] l = absurd (omega arith)
first_line (ch ∷ []) l = ⊎_elim (λ e. rw e) (λ e. rw e) (cases_Bool (eqb ch line_feed))
first_line (ch ∷ x ∷ rest) l = ⊎_elim
    (λ e. rw e)
    (λ e. rw (e, first_line (x ∷ rest) (omega arith)))
    (cases_Bool (eqb ch line_feed))

-- the same from a place on
pub lines_from : (text : List ℕ) (start : ℕ) → start < length text
    → lines_of (drop start text) ≡ take (end_from text start - start) (drop start text) ∷ lines_of (drop (end_from text start + 1) text)
lines_from text start l =
    let t = drop start text in
    let e : end_from text start - start ≡ line_length t = omega arith in
    let q : start + suc (line_length t) ≡ end_from text start + 1 = omega arith in
    rw (e, first_line t (omega (arith, length-drop start text)), drop-drop (suc (line_length t)) start text, q)

-- one line is passed, with its line feed
pub one_passed : (text : List ℕ) (start left m : ℕ) → start < length text → suc m ≡ left
    → (drop m (lines_of (drop (end_from text start + 1) text)) ≡ drop left (lines_of (drop start text)))
    × (end_from text start + 1 + span_of (take m (lines_of (drop (end_from text start + 1) text)))
    ≡ start + span_of (take left (lines_of (drop start text))))
unfolding span_of
one_passed text start left m l e = rw (← e, lines_from text start l) (refl, omega (arith, part_length text start (omega arith)))

-- line k, where k - 1 lines are passed and one is left
line_there : (k : ℕ) (text line : List ℕ) (others : List (List ℕ)) → 0 < k → drop (k - 1) (lines_of text) ≡ line ∷ others
    → (has_line k text ≡ true) × (line_at k text ≡ line)
unfolding has_line line_at
line_there k text line others l e =
    let n : length (lines_of text) - (k - 1) ≡ suc (length others) = sym (length-drop (k - 1) (lines_of text)) ∙ ap length e in
    let h : leb k (length (lines_of text)) ≡ true = le-leb k (length (lines_of text)) (omega arith) in
    let g : get_or (drop (k - 1) (lines_of text)) 0 [] ≡ get_or (lines_of text) (k - 1) [] =
    rw add-zero at (get_or-drop (k - 1) (lines_of text) 0 []) in
    (rw (le-leb 1 k l, h), rw (le-leb 1 k l, h) (sym g ∙ ap (λ (ls : List (List ℕ)). get_or ls 0 []) e))

-- no line k, where none is left
pub no_line : (k : ℕ) (text : List ℕ) → 0 < k → drop (k - 1) (lines_of text) ≡ [] → has_line k text ≡ false
unfolding has_line
no_line k text l e =
    let n : length (lines_of text) - (k - 1) ≡ 0 = sym (length-drop (k - 1) (lines_of text)) ∙ ap length e in
    rw (le-leb 1 k l, lt-leb k (length (lines_of text)) (omega arith))

pub no_line_0 : (text : List ℕ) (k : ℕ) → k ≡ 0 → has_line k text ≡ false
unfolding has_line
no_line_0 text k e = rw e

-- where line k stands, once the k - 1 lines before it are passed
pub line_stands : (k : ℕ) (text : List ℕ) (start left : ℕ) → 0 < k → start < length text → left ≡ 0
    → drop left (lines_of (drop start text)) ≡ drop (k - 1) (lines_of text)
    → start + span_of (take left (lines_of (drop start text))) ≡ span_of (take (k - 1) (lines_of text))
    → Stands k text (record { start = start; end = end_from text start })
unfolding start_of span_of
line_stands k text start left l inside none here passed =
    let t = line_there k text _ _ l (sym (rw none at here) ∙ lines_from text start inside) in
    let begins : start + 0 ≡ span_of (take (k - 1) (lines_of text)) = rw none at passed in
    let size = part_length text start (omega arith) in
    record {
      found = t.0;
      start = rw t.0 (omega arith);
      end = rw (t.0, t.1) (omega arith);
      ordered = omega arith;
      within = end_within text start (omega arith);
      part = sym t.1;
    }
