-- Laws of the broken set.
use mathlib.Core.Path.{◌≡◌}
use mathlib.Core.Logic.{⊎_elim}
use mathlib.Core.Bool.{true, false}
use Prim.Native.Nat.{ℕ, ◌+◌, ◌-◌, ◌/◌, ◌^◌, ◌≤◌, ◌<◌}
use native.Mathlib.Nat.{div-eq_of_lt, lt-div-mul-add}
use native.Mathlib.Omega.{arith}
use lib.Pow.{pow_pos}
use Rattle.rules.specs.WholeBeat.{is_broken, broken_below}
use Rattle.rules.proofs.Tests.{le_or_lt}
use Rattle.rules.proofs.Counting.{count_yes, count_no, count_le, count_split}

-- a set names a card at or above n where something is left past its n lowest bits
pub beyond : (n set : ℕ) → (set / 2 ^ n ≡ 0 → ⊥) → 2 ^ n ≤ set
beyond n set h = ⊎_elim (λ (l : 2 ^ n ≤ set). l) (λ (l : set < 2 ^ n). absurd (h (div-eq_of_lt l))) (le_or_lt (2 ^ n) set)

pub within : (n set : ℕ) → set / 2 ^ n ≡ 0 → set < 2 ^ n
within n set e = omega (arith, rw e at (lt-div-mul-add {a = set} (pow_pos n)))

-- one card more
pub one_broken : (set u : ℕ) → is_broken set u ≡ true → broken_below set (u + 1) ≡ broken_below set u + 1
unfolding broken_below
one_broken set u e = count_yes u (is_broken set) e

pub one_sound : (set u : ℕ) → is_broken set u ≡ false → broken_below set (u + 1) ≡ broken_below set u
unfolding broken_below
one_sound set u e = count_no u (is_broken set) e

-- there are no more broken cards than cards
pub broken_most : (set n : ℕ) → broken_below set n ≤ n
unfolding broken_below
broken_most set n = count_le n (is_broken set)

-- a broken card is one of those counted
pub broken_before : (set u n : ℕ) → u < n → is_broken set u ≡ true → broken_below set u < broken_below set n
unfolding broken_below
broken_before set u n l e =
    let whole : (u + 1) + (n - (u + 1)) ≡ n = omega arith in
    omega (arith, count_yes u (is_broken set) e, rw whole at (count_split (u + 1) (n - (u + 1)) (is_broken set)))
