-- The lag of x against y is the one number congruent to x - y modulo c that is above -c/2 and at most c/2; and its values
-- at 0, at half a turn and at both ends.
use mathlib.Core.Path.{◌≡◌, ap}
use mathlib.Core.Logic.{⊎_elim}
use Prim.Native.Nat.{ℕ, ◌+◌, ◌*◌, ◌-◌, ◌/◌, ◌≤◌, ◌<◌}
use native.Mathlib.Nat.{add-mul, suc-mul, mul-le-mul_right}
use native.Mathlib.Omega.{arith}
use borrow.Author.Tests.{le-leb, lt-leb}
use lib.IntN.{ℤ, pos, negsuc, neg_ℤ, ◌+ℤ◌, ◌-ℤ◌, ◌*ℤ◌}
use lib.Signed.{◌<ℤ◌, ◌≤ℤ◌}
use Rattle.rules.specs.Lag.{ahead, nearest, lag_of}
use Rattle.rules.proofs.Tests.{le_or_lt}
use Rattle.lag.proofs.Parts.{gain, loss, opposite_gain, opposite_loss, sum, multiple, equal, below, is_below, most, is_most}

-- z is congruent to x - y modulo c
abbrev pub Congruent : ℕ → ℕ → ℕ → ℤ → Type 0
Congruent c x y z = (k : ℤ) × (z ≡ (pos x -ℤ pos y) +ℤ k *ℤ pos c)

-- how far it is from y on to x: directly, or past the end of the turn
ahead_on : (c x y d : ℕ) → y + d ≡ x → ahead c x y ≡ d
ahead_on c x y d e = rw (le-leb y x (omega arith)) (omega arith)

ahead_round : (c x y d : ℕ) → x < y → y + d ≡ x + c → ahead c x y ≡ d
ahead_round c x y d l e = rw (lt-leb y x l) (omega arith)

-- the lag is that way, or the way back
lag_on : (c x y d : ℕ) → ahead c x y ≡ d → 2 * d ≤ c → lag_of c x y ≡ pos d
unfolding lag_of nearest
lag_on c x y d e l = rw (e, le-leb (2 * d) c l)

lag_back : (c x y d b : ℕ) → ahead c x y ≡ d → c < 2 * d → d + b ≡ c → lag_of c x y ≡ neg_ℤ (pos b)
unfolding lag_of nearest
lag_back c x y d b e l s = let r : c - d ≡ b = omega arith in rw (e, lt-leb (2 * d) c l, r)

-- z is x - y and k turns, within half a turn: the three properties by the parts of z and k
record Placed (c x y : ℕ) (z k : ℤ) : Type 0 where
  turned : gain z + y + loss k * c ≡ x + loss z + gain k * c
  over : 2 * loss z < c + 2 * gain z
  within : 2 * gain z ≤ c + 2 * loss z

-- the lag lies so: i turns are right for the way on, j for the way back
either_way : (c x y d : ℕ) (i j : ℤ) → ahead c x y ≡ d → d < c
    → d + y + loss i * c ≡ x + gain i * c → d + y + loss j * c ≡ x + c + gain j * c → (k : ℤ) × Placed c x y (lag_of c x y) k
either_way c x y d i j e h p q = ⊎_elim
    (λ (l : 2 * d ≤ c). (i, rw (lag_on c x y d e l) (omega arith)))
    (λ (l : c < 2 * d). (j, rw (lag_back c x y d (c - d) e l (omega arith)) (omega (arith, opposite_gain (c - d), opposite_loss (c - d)))))
    (le_or_lt (2 * d) c)

placed : (c x y : ℕ) → x < c → y < c → (k : ℤ) × Placed c x y (lag_of c x y) k
placed c x y lx ly = ⊎_elim
    (λ (l : y ≤ x). let d = x - y in
    either_way c x y d (pos 0) (negsuc 0) (ahead_on c x y d (omega arith)) (omega arith) (omega arith) (omega arith))
    (λ (l : x < y). let d = x + c - y in
    either_way c x y d (pos 1) (pos 0) (ahead_round c x y d l (omega arith)) (omega arith) (omega arith) (omega arith))
    (le_or_lt y x)

-- numbers that are less than c apart and differ by turns of c are equal
no_turn : (c u v m n : ℕ) → v < u + c → u + m * c ≡ v + n * c → ¬ (n < m)
no_turn c u v m n p e l = omega (arith, suc-mul n c, mul-le-mul_right c l)

same_turn : (c u v m n : ℕ) → u < v + c → v < u + c → u + m * c ≡ v + n * c → u ≡ v
same_turn c u v m n p q e =
    let a = no_turn c u v m n q e in
    let b = no_turn c v u n m p (omega arith) in
    let s : m ≡ n = omega arith in
    omega (arith, ap (λ (i : ℕ). i * c) s)

-- so there is one place
one_place : (c x y : ℕ) (z k w h : ℤ) → Placed c x y z k → Placed c x y w h → z ≡ w
one_place c x y z k w h p q =
    equal z w
    (same_turn c (gain z + loss w) (gain w + loss z) (loss k + gain h) (gain k + loss h) (omega arith) (omega arith)
    (omega (arith, add-mul (loss k) (gain h) c, add-mul (gain k) (loss h) c)))

-- x - y and k turns, by parts
turns : (c x y : ℕ) (k : ℤ) → let z = (pos x -ℤ pos y) +ℤ k *ℤ pos c in gain z + y + loss k * c ≡ x + loss z + gain k * c
turns c x y k =
    omega (arith, sum (pos x -ℤ pos y) (k *ℤ pos c), sum (pos x) (neg_ℤ (pos y)), multiple k c, opposite_gain y, opposite_loss y)

module _ (c x y : ℕ) (lx : x < c) (ly : y < c) where
  pub congruent : Congruent c x y (lag_of c x y)
  congruent = let p = placed c x y lx ly in (p.0, equal _ _ (omega (arith, turns c x y p.0)))

  -- above -c/2
  pub above : neg_ℤ (pos c) <ℤ (lag_of c x y +ℤ lag_of c x y)
  above = is_below _ _ (omega (arith, (placed c x y lx ly).1, sum (lag_of c x y) (lag_of c x y), opposite_gain c, opposite_loss c))

  -- at most c/2
  pub at_most : (lag_of c x y +ℤ lag_of c x y) ≤ℤ pos c
  at_most = is_most _ _ (omega (arith, (placed c x y lx ly).1, sum (lag_of c x y) (lag_of c x y)))

  -- and no other number is all three
  pub only : (z : ℤ) → Congruent c x y z → neg_ℤ (pos c) <ℤ (z +ℤ z) → (z +ℤ z) ≤ℤ pos c → z ≡ lag_of c x y
  only z (k, e) a m =
      let p = placed c x y lx ly in
      let t : gain z + y + loss k * c ≡ x + loss z + gain k * c = rw e (turns c x y k) in
      one_place c x y z k (lag_of c x y) p.0
      (omega (arith, sum z z, below _ _ a, most _ _ m, opposite_gain c, opposite_loss c)) p.1

-- two like counts
pub lag_same : (c x : ℕ) → x < c → lag_of c x x ≡ pos 0
lag_same c x l = lag_on c x x 0 (ahead_on c x x 0 (omega arith)) (omega arith)

-- half a turn is positive either way
pub lag_half : (c h y : ℕ) → c ≡ 2 * h → y + h < c → (lag_of c (y + h) y ≡ pos h) × (lag_of c y (y + h) ≡ pos h)
lag_half c h y e l = (
  lag_on c (y + h) y h (ahead_on c (y + h) y h (omega arith)) (omega arith),
  lag_on c y (y + h) h (ahead_round c y (y + h) h (omega arith) (omega arith)) (omega arith),
)

-- both ends are reached by counts below c
pub lag_most : (c : ℕ) → 2 ≤ c → (c / 2 < c) × (lag_of c (c / 2) 0 ≡ pos (c / 2))
lag_most c l = (omega arith, lag_on c (c / 2) 0 (c / 2) (ahead_on c (c / 2) 0 (c / 2) (omega arith)) (omega arith))

pub lag_least : (c : ℕ) → 2 ≤ c → ((c - 1) / 2 < c) × (lag_of c 0 ((c - 1) / 2) ≡ neg_ℤ (pos ((c - 1) / 2)))
lag_least c l =
    let b = (c - 1) / 2 in (
      omega arith,
      ⊎_elim
          (λ (s : c ≤ 2). let z : b ≡ 0 = omega arith in rw z (lag_same c 0 (omega arith)))
          (λ (s : 2 < c). lag_back c 0 b (c - b) b (ahead_round c 0 b (c - b) (omega arith) (omega arith)) (omega arith) (omega arith))
          (le_or_lt c 2),
    )
