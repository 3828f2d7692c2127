-- The row of parameters of a split group, by the formulas.
use mathlib.Core.Path.{◌≡◌, refl}
use Prim.Native.Nat.{ℕ, zero, suc, ◌≤◌}
use native.Mathlib.Omega.{arith}
use borrow.Author.Tests.{ne_eqb}
use Rattle.rules.specs.Parameters.{turn, c0, c1, restart, most_broken}
use Rattle.rules.specs.Groups.{half_modulus}
use Rattle.rules.specs.Calls.{row_of}
use Rattle.params.specs.Answers.{row_read}
use Rattle.params.specs.declared.Row.{Row}
use Rattle.level.specs.declared.group.Group.{Group}
use Rattle.level.specs.Groups.{HalfAsks, LevelAsks}
use Rattle.level.proofs.Places.{split_narrow}

pub record RowOf (f : ℕ) (row : Row) : Type 0 where
  pub t : row.turn ≡ turn f
  pub m0 : row.c0 ≡ c0 f
  pub m1 : row.c1 ≡ c1 f
  pub again : row.restart ≡ restart f

pub row_is : (f : ℕ) (row : Row) → 1 ≤ f → row ≡ row_read f → RowOf f row
unfolding row_of
row_is zero row l e = absurd (omega arith)
row_is (suc f) row l e = rw e (record { t = refl; m0 = refl; m1 = refl; again = refl })

pub row_asked : {g : Group} {card : ℕ} {row : Row} → LevelAsks g card row → RowOf g.f row
row_asked {g = g} {row = row} a = row_is g.f row a.split.some a.row_is

-- so each half can be made with its modulus of the row
pub halves_asked : {g : Group} {card : ℕ} {row : Row} → LevelAsks g card row
    → (HalfAsks 0 g row.c0) × (HalfAsks 1 g row.c1)
halves_asked a =
    let some = a.split.some in
    let r = row_asked a in (
      record { some = some; narrow = split_narrow a.split; ends = omega arith; modulus = r.m0 },
      record { some = some; narrow = split_narrow a.split; ends = a.split.fits.small; modulus = r.m1 },
    )

-- a tally has room for it
pub modulus_small : (i f : ℕ) → f ≤ most_broken → half_modulus i f ≤ 128
modulus_small zero f l = omega arith
modulus_small (suc i) f l = rw (ne_eqb (suc i) 0 (omega arith)) (omega arith)
