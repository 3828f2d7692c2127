-- A turn: in t beats of a phase that counts modulo t some sound king has its three steps in one piece.
use mathlib.Core.Path.{◌≡◌}
use mathlib.Core.Logic.{◌⊎◌, ⊎_elim}
use mathlib.Core.Bool.{Bool, true, not}
use Prim.Native.Nat.{ℕ, ◌+◌, ◌*◌, ◌-◌, ◌/◌, ◌%◌, ◌≤◌, ◌<◌}
use native.Mathlib.Nat.{dvd-mul_left, mod-lt, mod-add-mod, mod-mod_of_dvd}
use native.Mathlib.Omega.{arith}
use Rattle.rules.specs.Counting.{count_below}
use Rattle.rules.specs.Parameters.{turn}
use Rattle.rules.proofs.Tests.{le_or_lt}
use Rattle.rules.proofs.Counting.{count_le, count_not, count_some, count_split}
use Rattle.settle.specs.Run.{Cards}
use Rattle.settle.proofs.Inc.{inc, plus_one_lem, Counts, comes_to}

-- one more modulo j·t is one more modulo t
inc_phase : (t j x : ℕ) → 0 < t → x < j * t → inc (j * t) x % t ≡ inc t (x % t)
inc_phase t j x pos l =
    rw (← plus_one_lem (j * t) x l, mod-mod_of_dvd t (x + 1) (dvd-mul_left t j), ← plus_one_lem t (x % t) (mod-lt x pos), mod-add-mod x t 1)

-- the phase of a counter modulo 2t or 6t counts modulo t
pub phase_counts : (t m s : ℕ) (D : ℕ → ℕ) → 0 < t → (m ≡ 2 * t) ⊎ (m ≡ 6 * t) → Counts m D s t → Counts t (λ r. D r % t) s t
phase_counts t m s D pos or counts = ⊎_elim (by 2) (by 6) or
  where
    by : (j : ℕ) → m ≡ j * t → Counts t (λ r. D r % t) s t
    by j e =
        record {
          below = λ r a b. mod-lt (D r) pos;
          next = λ r a b. rw (counts.next r a b, e) (inc_phase t j (D r) pos (rw e at (counts.below r a (omega arith))));
        }

module _ (n f : ℕ) (sound : ℕ → Bool) (cards : Cards n f sound) (some : 1 ≤ f) where
  -- of the f + 2 kings at least two are sound
  two_sound : 2 ≤ count_below (f + 2) sound
  two_sound =
      let e : f + 2 + (n - (f + 2)) ≡ n = omega arith in
      let h = rw e at (count_split (f + 2) (n - (f + 2)) (λ u. not (sound u))) in
      omega (arith, count_not (f + 2) sound)

  -- Of the kings only e / 3 is cut in two by a start at the phase e. So the turn of a sound one lies in the t beats from s on
  -- in one piece: its first beat is r, and before r the phase wraps j times
  uncut : (s e : ℕ) → e < turn f
      → (j k r : ℕ) × (k < f + 2) × (sound k ≡ true) × (s ≤ r) × (r + 3 ≤ s + turn f) × (e + r ≡ 3 * k + s + j * turn f)
  uncut s e l =
      let q = e / 3 in
      let p : q + 1 + (f + 1 - q) ≡ f + 2 = omega arith in
      let h = rw p at (count_split (q + 1) (f + 1 - q) sound) in
      ⊎_elim
      (λ (z : count_below q sound ≤ 0).
      let u = count_some (f + 1 - q) (λ u. sound (q + 1 + u))
      (omega (arith, two_sound, count_split q 1 sound, count_le 1 (λ u. sound (q + u)))) in
      (0, q + 1 + u.0, s + (3 * (q + 1 + u.0) - e), omega arith, u.2, omega arith, omega arith, omega arith))
      (λ (z : 0 < count_below q sound).
      let u = count_some q sound z in
      (1, u.0, s + (turn f + 3 * u.0 - e), omega arith, u.2, omega arith, omega arith, omega arith))
      (le_or_lt (count_below q sound) 0)

-- some sound king's whole turn lies in t beats of a phase that counts modulo t
pub whole_turn : (n f : ℕ) (sound : ℕ → Bool) → Cards n f sound → 1 ≤ f → (d : ℕ → ℕ) (s : ℕ) → Counts (turn f) d s (turn f)
    → (k r : ℕ) × (k < n) × (sound k ≡ true) × (s ≤ r) × (r + 3 ≤ s + turn f)
    × (d r ≡ 3 * k) × (d (r + 1) ≡ 3 * k + 1) × (d (r + 2) ≡ 3 * k + 2)
whole_turn n f sound cards some d s counts =
    let (j, k, r, lk, sk, l, h, e) = uncut n f sound cards some s (d s) (counts.below s (omega arith) (omega arith)) in
    let at : (q x : ℕ) → s ≤ q → q < s + turn f → d s + q ≡ x + s + j * turn f → x < turn f → d q ≡ x
    = λ q x. comes_to (turn f) d s (turn f) counts j s q x (omega arith) in (
      k,
      r,
      omega arith,
      sk,
      l,
      h,
      at r (3 * k) l (omega arith) e (omega arith),
      at (r + 1) (3 * k + 1) (omega arith) (omega arith) (omega arith) (omega arith),
      at (r + 2) (3 * k + 2) (omega arith) (omega arith) (omega arith) (omega arith),
    )
