-- What is known of the inputs of a lag that is not refused.
use mathlib.Core.Path.{◌≡◌}
use mathlib.Core.Bool.{◌||◌}
use Prim.Native.Nat.{ℕ, ◌≤◌, ◌<◌}
use native.Mathlib.Omega.{arith}
use lib.Dec.{leb}
use borrow.Author.Tests.{leb-false}
use Rattle.rules.specs.Parameters.{least_modulus, most_modulus, bad_modulus}
use Rattle.rules.specs.Refusals.{lag_refusal}
use Rattle.std.proofs.lemmas.Bool.{or_parts}
use Rattle.rules.proofs.Shapes.{not_given, good_modulus}

pub record Inputs (c x y : ℕ) : Type 0 where
  pub x_below : x < c
  pub y_below : y < c
  pub least : least_modulus ≤ c
  pub most : c ≤ most_modulus

pub accepted : (c x y : ℕ) → lag_refusal c x y ≡ 0 → Inputs c x y
accepted c x y e =
    let p = not_given 3 (bad_modulus c) _ (omega arith) e in
    let q = not_given 9 (leb c x || leb c y) 0 (omega arith) p.1 in
    let t = or_parts (leb c x) (leb c y) q.0 in
    let m = good_modulus c p.0 in
    record { x_below = leb-false c x t.0; y_below = leb-false c y t.1; least = m.0; most = m.1 }
