-- Cards that show one common count, one more each beat: what settled means, and what it gives.
use mathlib.Core.Path.{◌≡◌}
use mathlib.Core.Bool.{Bool, true}
use Prim.Native.Nat.{ℕ, ◌+◌, ◌%◌, ◌≤◌, ◌<◌}
use native.Mathlib.Omega.{arith}
use Rattle.rules.specs.declared.Vote.{Vote}
use Rattle.rules.specs.declared.Vote.TheVariants.{Count}
use Rattle.settle.proofs.Inc.{inc, Counts, advanced, advance_mod}

-- from the beat T on all sound cards of n show one count below c, one more each beat
pub record Stable (n c T : ℕ) (sound : ℕ → Bool) (out : ℕ → ℕ → Vote) : Type 0 where
  pub x : ℕ → ℕ
  pub below : (r : ℕ) → T ≤ r → x r < c
  pub counts : (r : ℕ) → T ≤ r → x (r + 1) ≡ inc c (x r)
  pub shown : (r v : ℕ) → T ≤ r → v < n → sound v ≡ true → out r v ≡ Count (x r)

module _ (n c T : ℕ) (sound : ℕ → Bool) (out : ℕ → ℕ → Vote) (S : Stable n c T sound out) where
  -- and so from every later beat on
  pub later : (T' : ℕ) → T ≤ T' → Stable n c T' sound out
  later T' l =
      record {
        x = S.x;
        below = λ r k. S.below r (omega arith);
        counts = λ r k. S.counts r (omega arith);
        shown = λ r v k lv sv. S.shown r v (omega arith) lv sv;
      }

  pub stable_counts : (from len : ℕ) → T ≤ from → Counts c S.x from len
  stable_counts from len l = record { below = λ r a b. S.below r (omega arith); next = λ r a b. S.counts r (omega arith) }

  -- k beats on it is k more
  pub stable_shown : (k v : ℕ) → v < n → sound v ≡ true → out (T + k) v ≡ Count ((S.x T + k) % c)
  stable_shown k v lv sv =
      let b : T ≤ T = omega arith in
      let e = advanced c S.x T (k + 1) (stable_counts T (k + 1) b) T k (omega arith) (omega arith) in
      rw (← advance_mod c (S.x T) k (S.below T b), ← e) (S.shown (T + k) v (omega arith) lv sv)
