-- Counting modulo m one beat at a time: one more, many more, and where a counter comes to.
use mathlib.Core.Path.{◌≡◌, sym}
use mathlib.Core.Logic.{⊎_elim}
use mathlib.Core.Bool.{cond}
use Prim.Native.Nat.{ℕ, zero, suc, ◌+◌, ◌*◌, ◌-◌, ◌%◌, ◌≤◌, ◌<◌}
use native.Mathlib.Nat.{add-zero, eq-or-lt_of_le, mod-eq_of_lt, mod_self, mod-add-mod, add-mul-mod_self_right}
use native.Mathlib.Omega.{arith}
use lib.Dec.{eqb}
use borrow.Author.Tests.{eq-eqb, ne_eqb}
use Rattle.rules.specs.OneBeat.{plus_one}
use Rattle.rules.proofs.Tests.{le_or_lt}

-- one more, modulo m
unfoldable pub inc : ℕ → ℕ → ℕ
inc m x = cond (eqb (x + 1) m) 0 (x + 1)

-- where it does not wrap, and where it does
pub inc_up : (m x : ℕ) → x + 1 < m → inc m x ≡ x + 1
unfolding inc
inc_up m x l = rw (ne_eqb (x + 1) m (omega arith))

pub inc_wrap : (m x : ℕ) → x + 1 ≡ m → inc m x ≡ 0
unfolding inc
inc_wrap m x e = rw (eq-eqb (x + 1) m e)

pub inc_less : (m x : ℕ) → x < m → inc m x < m
inc_less m x l = ⊎_elim
    (λ (e : x + 1 ≡ m). omega (arith, inc_wrap m x e))
    (λ (k : x + 1 < m). omega (arith, inc_up m x k))
    (eq-or-lt_of_le (omega arith))

-- it is "plus 1, modulo m" of the rules
pub plus_one_lem : (m x : ℕ) → x < m → plus_one m x ≡ inc m x
plus_one_lem m x l = ⊎_elim
    (λ (e : x + 1 ≡ m). rw (inc_wrap m x e, e, mod_self))
    (λ (k : x + 1 < m). rw (inc_up m x k, mod-eq_of_lt k))
    (eq-or-lt_of_le (omega arith))

-- k more, modulo m
unfoldable pub advance : ℕ → ℕ → ℕ → ℕ
advance m x zero = x
advance m x (suc k) = inc m (advance m x k)

pub advance_less : (m x k : ℕ) → x < m → advance m x k < m
unfolding advance
advance_less m x zero l = l
advance_less m x (suc k) l = inc_less m (advance m x k) (advance_less m x k l)

pub advance_mod : (m x k : ℕ) → x < m → advance m x k ≡ (x + k) % m
unfolding advance
advance_mod m x zero l = rw (add-zero x) (sym (mod-eq_of_lt l))
advance_mod m x (suc k) l =
    let e : x + suc k ≡ x + k + 1 = omega arith in
    rw (e, ← plus_one_lem m (advance m x k) (advance_less m x k l), advance_mod m x k l, mod-add-mod (x + k) m 1)

-- D counts modulo m on the len beats from `from` on
pub record Counts (m : ℕ) (D : ℕ → ℕ) (from len : ℕ) : Type 0 where
  pub below : (r : ℕ) → from ≤ r → r < from + len → D r < m
  pub next : (r : ℕ) → from ≤ r → r + 1 < from + len → D (r + 1) ≡ inc m (D r)

module _ (m : ℕ) (D : ℕ → ℕ) (from len : ℕ) (counts : Counts m D from len) where
  -- i beats on it is i more
  pub advanced : (q i : ℕ) → from ≤ q → q + i < from + len → D (q + i) ≡ advance m (D q) i
  unfolding advance
  advanced q zero l h = rw (add-zero q)
  advanced q (suc i) l h =
      let e : q + suc i ≡ q + i + 1 = omega arith in
      rw (e, counts.next (q + i) (omega arith) (omega arith), advanced q i l (omega arith))

  -- from q to r, round j times: x is what it comes to
  pub comes_to : (j q r x : ℕ) → from ≤ q → q ≤ r → r < from + len → D q + r ≡ x + q + j * m → x < m → D r ≡ x
  comes_to j q r x l k h e b =
      let p : q + (r - q) ≡ r = omega arith in
      let a : D r ≡ advance m (D q) (r - q) = rw p at (advanced q (r - q) l (omega arith)) in
      let g : D q + (r - q) ≡ x + j * m = omega arith in
      rw (a, advance_mod m (D q) (r - q) (counts.below q l (omega arith)), g, add-mul-mod_self_right x j m, mod-eq_of_lt b)

  -- among m beats in a row there is one at which it is x
  pub hits : (q x : ℕ) → from ≤ q → q + m ≤ from + len → x < m → (g : ℕ) × (q ≤ g) × (g < q + m) × (D g ≡ x)
  hits q x l h b =
      let d = counts.below q l (omega arith) in
      ⊎_elim
      (λ (a : D q ≤ x).
      let g = q + (x - D q) in
      (g, omega arith, omega arith, comes_to 0 q g x l (omega arith) (omega arith) (omega arith) b))
      (λ (a : x < D q).
      let g = q + (m + x - D q) in
      (g, omega arith, omega arith, comes_to 1 q g x l (omega arith) (omega arith) (omega arith) b))
      (le_or_lt (D q) x)
