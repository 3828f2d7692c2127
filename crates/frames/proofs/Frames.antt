-- Laws of a frame: its refusals 10 and 11, and the last beat.
use mathlib.Core.Path.{◌≡◌}
use mathlib.Core.Logic.{⊎_elim}
use mathlib.Core.Bool.{Bool, true, false, not, ◌&&◌}
use Prim.Native.Nat.{ℕ}
use lib.Dec.{eqb, leb}
use Rattle.std.proofs.lemmas.Bool.{cases_Bool}
use Rattle.rules.specs.Refusals.{given}
use Rattle.rules.specs.RunFile.{last_beat}

-- 10, or 11 where the beat is another
abbrev pub of_frame : Bool → ℕ → ℕ → ℕ
of_frame malformed beat next = given 10 malformed (given 11 (not (eqb beat next)) 0)

-- the same where no beat comes after the last
abbrev pub of_beat : Bool → ℕ → ℕ → ℕ
of_beat malformed beat next = given 10 malformed (given 11 (not (eqb beat next && leb beat last_beat)) 0)

pub frame_refused : (malformed : Bool) (beat next r : ℕ) → r ≡ of_frame malformed beat next → (r ≡ 0 → ⊥) → r ≡ of_beat malformed beat next
frame_refused true beat next r e h = e
frame_refused false beat next r e h = ⊎_elim
    (λ (z : eqb beat next ≡ true). absurd (h (rw z at e)))
    (λ (z : eqb beat next ≡ false). rw z (rw z at e))
    (cases_Bool (eqb beat next))
