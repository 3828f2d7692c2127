-- Laws of run files: what a header that passes its tests and a frame that is not refused say.
use mathlib.Core.Path.{◌≡◌, refl, ◌∙◌}
use mathlib.Core.Bool.{Bool, true, false, not, ◌&&◌}
use mathlib.Core.List.{List}
use Prim.Native.Nat.{ℕ, ◌+◌, ◌≤◌}
use native.Mathlib.Omega.{arith}
use lib.Dec.{eqb, leb}
use borrow.Author.Tests.{eq-eqb, eqb-true, leb-true, not-false}
use Rattle.std.proofs.lemmas.Bool.{and_parts}
use Rattle.rules.specs.Parameters.{bad_cards, bad_broken, bad_modulus}
use Rattle.rules.specs.WholeBeat.{bad_set}
use Rattle.rules.specs.Text.{well_formed}
use Rattle.rules.specs.Refusals.{given, beat_refusal}
use Rattle.rules.specs.RunFile.{Header, header_tests, frame_digits, beat_of, start_words, beat_words, last_beat}
use Rattle.rules.specs.RunFile.{start_line_refusal, beat_line_refusal}
use Rattle.rules.proofs.Shapes.{not_given}

-- where 1, 2, 3 and 7 are not given, what comes after them decides
tests_passed : (s t u b : Bool) (others : ℕ) → given 1 s (given 2 t (given 3 u (given 7 b 0))) ≡ 0
    → given 1 s (given 2 t (given 3 u (given 7 b others))) ≡ others
tests_passed true t u b others e = absurd (omega arith)
tests_passed false true u b others e = absurd (omega arith)
tests_passed false false true b others e = absurd (omega arith)
tests_passed false false false true others e = absurd (omega arith)
tests_passed false false false false others e = refl

-- so a beat of such a header is refused for its lengths alone
pub beat_passed : (h : Header) → header_tests h ≡ 0
    → (held sent out : ℕ) → held ≡ start_words h → sent ≡ beat_words h → out ≡ start_words h
    → beat_refusal h.n h.f h.c h.set held sent out ≡ 0
beat_passed h e held sent out p q r =
    tests_passed (bad_cards h.n) (bad_broken h.n h.f) (bad_modulus h.c) (bad_set h.n h.f h.set) _ e
    ∙ rw (eq-eqb held (start_words h) p, eq-eqb sent (beat_words h) q, eq-eqb out (start_words h) r)

-- a frame that is not refused is well formed
pub start_formed : (h : Header) (line : List ℕ) → start_line_refusal h line ≡ 0 → well_formed (frame_digits (start_words h)) line ≡ true
unfolding start_line_refusal
start_formed h line e =
    let formed = well_formed (frame_digits (start_words h)) line in
    not-false formed (not_given 10 (not formed) _ (omega arith) e).0

-- and its beat is the next, which is none after the last
pub beat_formed : (h : Header) (beat : ℕ) (line : List ℕ) → beat_line_refusal h beat line ≡ 0
    → (well_formed (frame_digits (beat_words h)) line ≡ true) × (beat + 1 ≤ last_beat)
unfolding beat_line_refusal
beat_formed h beat line e =
    let formed = well_formed (frame_digits (beat_words h)) line in
    let p = not_given 10 (not formed) _ (omega arith) e in
    let same = eqb (beat_of line) (beat + 1) in
    let q = not-false _ (not_given 11 (not (same && leb (beat_of line) last_beat)) 0 (omega arith) p.1).0 in
    let both = and_parts same (leb (beat_of line) last_beat) q in
    let b : beat_of line ≡ beat + 1 = eqb-true (beat_of line) (beat + 1) both.0 in
    (not-false formed p.0, rw b at (leb-true (beat_of line) last_beat both.1))
