-- An integer is its gain less its loss: sums, multiples, order and equality of integers, read off those two numbers.
use mathlib.Core.Path.{◌≡◌, refl, ap}
use mathlib.Core.Logic.{⊎_elim}
use mathlib.Core.Bool.{true, false}
use Prim.Native.Nat.{ℕ, zero, suc, ◌+◌, ◌*◌, ◌≤◌, ◌<◌}
use native.Mathlib.Omega.{arith}
use lib.Dec.{ltb, leb→le, le→leb, ltb→lt, lt→ltb}
use borrow.Author.Tests.{ltb-true, ltb-false}
use lib.IntN.{ℤ, pos, negsuc, neg_ℤ, sub_ℕ, ◌+ℤ◌, ◌*ℤ◌}
use lib.Signed.{◌<ℤ◌, ◌≤ℤ◌}
use Rattle.std.proofs.lemmas.Bool.{cases_Bool}

abbrev pub gain : ℤ → ℕ
gain (pos n) = n
gain (negsuc n) = 0

abbrev pub loss : ℤ → ℕ
loss (pos n) = 0
loss (negsuc n) = suc n

-- the opposite of a number
pub opposite_gain : (n : ℕ) → gain (neg_ℤ (pos n)) ≡ 0
opposite_gain zero = refl
opposite_gain (suc n) = refl

pub opposite_loss : (n : ℕ) → loss (neg_ℤ (pos n)) ≡ n
opposite_loss zero = refl
opposite_loss (suc n) = refl

-- a difference of two numbers
difference : (a b : ℕ) → gain (sub_ℕ a b) + b ≡ a + loss (sub_ℕ a b)
difference a b = ⊎_elim
    (λ (t : ltb a b ≡ true). rw t (omega (arith, ltb-true a b t)))
    (λ (t : ltb a b ≡ false). rw t (omega (arith, ltb-false a b t)))
    (cases_Bool (ltb a b))

pub sum : (a b : ℤ) → gain (a +ℤ b) + loss a + loss b ≡ gain a + gain b + loss (a +ℤ b)
sum (pos a) (pos b) = omega arith
sum (pos a) (negsuc b) = omega (arith, difference a (suc b))
sum (negsuc a) (pos b) = omega (arith, difference b (suc a))
sum (negsuc a) (negsuc b) = omega arith

pub multiple : (k : ℤ) (c : ℕ) → gain (k *ℤ pos c) + loss k * c ≡ gain k * c + loss (k *ℤ pos c)
multiple (pos k) c = omega arith
multiple (negsuc k) c = omega (arith, opposite_gain (suc k * c), opposite_loss (suc k * c))

pub equal : (a b : ℤ) → gain a + loss b ≡ gain b + loss a → a ≡ b
equal (pos a) (pos b) e = ap pos (omega arith)
equal (pos a) (negsuc b) e = absurd (omega arith)
equal (negsuc a) (pos b) e = absurd (omega arith)
equal (negsuc a) (negsuc b) e = ap negsuc (omega arith)

-- order, either way
pub below : (a b : ℤ) → a <ℤ b → gain a + loss b < gain b + loss a
below (pos a) (pos b) h = omega (arith, ltb→lt a b h.lt)
below (pos a) (negsuc b) h = absurd h.lt
below (negsuc a) (pos b) h = omega arith
below (negsuc a) (negsuc b) h = omega (arith, ltb→lt b a h.lt)

pub is_below : (a b : ℤ) → gain a + loss b < gain b + loss a → a <ℤ b
is_below (pos a) (pos b) h = record { lt = lt→ltb a b (omega arith) }
is_below (pos a) (negsuc b) h = absurd (omega arith)
is_below (negsuc a) (pos b) h = record { lt = tt }
is_below (negsuc a) (negsuc b) h = record { lt = lt→ltb b a (omega arith) }

pub most : (a b : ℤ) → a ≤ℤ b → gain a + loss b ≤ gain b + loss a
most (pos a) (pos b) h = omega (arith, leb→le a b h.le)
most (pos a) (negsuc b) h = absurd h.le
most (negsuc a) (pos b) h = omega arith
most (negsuc a) (negsuc b) h = omega (arith, leb→le b a h.le)

pub is_most : (a b : ℤ) → gain a + loss b ≤ gain b + loss a → a ≤ℤ b
is_most (pos a) (pos b) h = record { le = le→leb a b (omega arith) }
is_most (pos a) (negsuc b) h = absurd (omega arith)
is_most (negsuc a) (pos b) h = record { le = tt }
is_most (negsuc a) (negsuc b) h = record { le = le→leb b a (omega arith) }
