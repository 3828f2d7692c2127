-- Laws of storing lists one after the other.
use mathlib.Core.Path.{◌≡◌, ◌∙◌}
use mathlib.Core.List.{List, [], ◌∷◌, ◌++◌}
use Prim.Native.Nat.{ℕ, suc, ◌+◌, ◌*◌}
use native.Mathlib.Nat.{add-zero}
use native.Mathlib.Numerals.{add-one}
use native.Mathlib.Omega.{arith}
use lib.ListN.{length, set}
use lib.Seq.{sets}
use Rattle.rules.specs.Counting.{rows}
use Rattle.rules.proofs.Lists.{rows_length}

-- a list is stored part by part
pub sets_append : (p q l : List ℕ) (i : ℕ) → sets l i (p ++ q) ≡ sets (sets l i p) (i + length p) q
sets_append [] q l i = rw (add-zero i)
sets_append (a ∷ p) q l i =
    let e : suc i + length p ≡ i + suc (length p) = omega arith in
    sets_append p q (set l i a) (suc i) ∙ rw e

-- one row more
pub rows_more : (l : List ℕ) (at i w p : ℕ) (g : ℕ → List ℕ) → ((j : ℕ) → length (g j) ≡ w) → at + i * w ≡ p
    → sets (sets l at (rows i g)) p (g i) ≡ sets l at (rows (i + 1) g)
unfolding rows
rows_more l at i w p g h e =
    let q : at + length (rows i g) ≡ p = omega (arith, rows_length i w g (λ j b. h j)) in
    rw (add-one i, sets_append (rows i g) (g i) l at, q)
