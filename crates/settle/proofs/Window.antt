-- The window: in 9t beats of counters modulo 2t and 6t lie t on which both point to one half.
use mathlib.Core.Path.{◌≡◌}
use Prim.Native.Nat.{ℕ, ◌+◌, ◌*◌, ◌-◌, ◌≤◌, ◌<◌}
use native.Mathlib.Omega.{arith}
use Rattle.settle.proofs.Inc.{Counts, comes_to, hits}

-- what a counter is on the beats after one at which it is x, for as long as it does not reach its modulus
climbs : (m : ℕ) (D : ℕ → ℕ) (from len : ℕ) → Counts m D from len
    → (g x r : ℕ) → from ≤ g → g ≤ r → r < from + len → D g ≡ x → x + (r - g) < m → D r ≡ x + (r - g)
climbs m D from len counts g x r l k h e b = comes_to m D from len counts 0 g r (x + (r - g)) l k h (omega arith) b

-- F counts modulo 6t and G modulo 2t: for t beats F is in the 3t counts from x on, and G in the t counts from y on. Take
-- the first beat g at which F is x, and the first from there on at which G is y
shared : (t R x y : ℕ) (F G : ℕ → ℕ) → 0 < t → x + 3 * t ≤ 6 * t → y + t ≤ 2 * t → Counts (6 * t) F R (9 * t) → Counts (2 * t) G R (9 * t)
    → (s : ℕ) × (R ≤ s) × (s + t ≤ R + 9 * t)
    × ((r : ℕ) → s ≤ r → r < s + t → (x ≤ F r) × (F r < x + 3 * t) × (y ≤ G r) × (G r < y + t))
shared t R x y F G pos lx ly ff gg =
    let g = hits (6 * t) F R (9 * t) ff R x (omega arith) (omega arith) (omega arith) in
    let s = hits (2 * t) G R (9 * t) gg g.0 y (omega arith) (omega arith) (omega arith) in (
      s.0,
      omega arith,
      omega arith,
      λ r a b.
          let p = climbs (6 * t) F R (9 * t) ff g.0 x r (omega arith) (omega arith) (omega arith) g.3 (omega arith) in
          let q = climbs (2 * t) G R (9 * t) gg s.0 y r (omega arith) (omega arith) (omega arith) s.3 (omega arith) in
          omega arith,
    )

-- half 0 is the good one, D its counter: both point to half 0
pub window_zero : (t R : ℕ) (D E : ℕ → ℕ) → 0 < t → Counts (2 * t) D R (9 * t) → Counts (6 * t) E R (9 * t)
    → (s : ℕ) × (R ≤ s) × (s + t ≤ R + 9 * t) × ((r : ℕ) → s ≤ r → r < s + t → (D r < t) × (E r < 3 * t))
window_zero t R D E pos dd ee =
    let w = shared t R 0 0 E D pos (omega arith) (omega arith) ee dd in
    (w.0, w.1, w.2, λ r a b. omega (arith, w.3 r a b))

-- half 1 is the good one, D its counter: both point to half 1
pub window_one : (t R : ℕ) (D E : ℕ → ℕ) → 0 < t → Counts (6 * t) D R (9 * t) → Counts (2 * t) E R (9 * t)
    → (s : ℕ) × (R ≤ s) × (s + t ≤ R + 9 * t) × ((r : ℕ) → s ≤ r → r < s + t → (3 * t ≤ D r) × (D r < 6 * t) × (t ≤ E r))
window_one t R D E pos dd ee =
    let w = shared t R (3 * t) t D E pos (omega arith) (omega arith) dd ee in
    (w.0, w.1, w.2, λ r a b. omega (arith, w.3 r a b))
