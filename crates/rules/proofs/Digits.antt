-- Laws of the number of binary digits of f, and so of a record's size.
use mathlib.Core.Path.{◌≡◌, refl, sym, ap}
use Prim.Native.Nat.{ℕ, zero, suc, ◌+◌, ◌/◌, ◌≤◌, ◌<◌}
use native.Mathlib.Omega.{arith}
use lib.Arith.{half_le}
use Rattle.rules.specs.Parameters.{digits_in, binary_digits}

pub no_digits : (m : ℕ) → digits_in m 0 ≡ 0
unfolding digits_in
no_digits zero = refl
no_digits (suc m) = refl

-- any number of rounds that is enough gives the same
enough : (m k n : ℕ) → n ≤ m → n ≤ k → digits_in m n ≡ digits_in k n
unfolding digits_in
enough zero k zero l h = sym (no_digits k)
enough zero k (suc n) l h = absurd (omega arith)
enough (suc m) k zero l h = sym (no_digits k)
enough (suc m) zero (suc n) l h = absurd (omega arith)
enough (suc m) (suc k) (suc n) l h = ap suc (enough m k (suc n / 2) (half_le l) (half_le h))

-- a number has one digit more than its half
pub digits_half : (f : ℕ) → 0 < f → binary_digits f ≡ binary_digits (f / 2) + 1
unfolding binary_digits digits_in
digits_half zero h = absurd (omega arith)
digits_half (suc n) h = omega (arith, enough n (suc n / 2) (suc n / 2) (omega arith) (omega arith))

mono : (m a b : ℕ) → a ≤ b → digits_in m a ≤ digits_in m b
unfolding digits_in
mono zero a b l = omega arith
mono (suc m) zero b l = omega arith
mono (suc m) (suc a) zero l = omega arith
mono (suc m) (suc a) (suc b) l = omega (arith, mono m (suc a / 2) (suc b / 2) (omega arith))

pub digits_mono : (a b : ℕ) → a ≤ b → binary_digits a ≤ binary_digits b
unfolding binary_digits
digits_mono a b l = omega (arith, enough a b a (omega arith) l, mono b a b l)
