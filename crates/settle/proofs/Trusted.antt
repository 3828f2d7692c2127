-- Reading a half's counter: a vote that counts on is trusted in the end, and what is trusted anywhere in a window is one
-- counter, whether the half is as it should be or not.
use mathlib.Core.Path.{◌≡◌, refl, sym, ap, ◌∙◌}
use mathlib.Core.Logic.{⊎_elim}
use mathlib.Core.Bool.{Bool, true, false, cond, ◌&&◌}
use Prim.Native.Nat.{ℕ, zero, suc, ◌+◌, ◌-◌, ◌≤◌, ◌<◌}
use native.Mathlib.Nat.{add-zero}
use native.Mathlib.Omega.{arith}
use lib.Dec.{eqb, ltb}
use borrow.Author.Tests.{eqb-true, eq-eqb, ltb-true, lt-ltb}
use Rattle.std.proofs.lemmas.Bool.{and_parts, and_from}
use Rattle.rules.specs.declared.Vote.{Vote}
use Rattle.rules.specs.declared.Vote.TheVariants.{Count, None}
use Rattle.rules.specs.Counting.{count_below}
use Rattle.rules.specs.OneBeat.{plus_one, follows, cooldown}
use Rattle.rules.proofs.Tests.{le_or_lt}
use Rattle.rules.proofs.Counting.{count_some, count_pos}
use Rattle.settle.proofs.Inc.{inc, plus_one_lem, advance, advance_less, Counts}

-- a count and one more
pub follows_next : (m i : ℕ) (x y : Vote) → i < m → x ≡ Count i → y ≡ Count (inc m i) → follows m x y ≡ true
unfolding follows
follows_next m i x y l p q = rw (p, q) (eq-eqb (inc m i) (plus_one m i) (sym (plus_one_lem m i l)))

follows_is : (m : ℕ) (x y : Vote) → follows m x y ≡ true → (i : ℕ) × (x ≡ Count i) × (y ≡ Count (plus_one m i))
unfolding follows
follows_is m (Count i) (Count j) e = (i, refl, ap Count (eqb-true j (plus_one m i) e))
follows_is m (Count i) None e = let z : ◌≡◌ {A = ℕ} 0 1 = cc in absurd (omega arith)
follows_is m None (Count j) e = let z : ◌≡◌ {A = ℕ} 0 1 = cc in absurd (omega arith)
follows_is m None None e = let z : ◌≡◌ {A = ℕ} 0 1 = cc in absurd (omega arith)

-- from e at the beat b on, one more each beat
counting : (m e b len : ℕ) → e < m → Counts m (λ r. advance m e (r - b)) b len
unfolding advance
counting m e b len l =
    record {
      below = λ r a k. advance_less m e (r - b) l;
      next = λ r a k. let s : r + 1 - b ≡ suc (r - b) = omega arith in rw s;
    }

-- what the cards make of one half's counter modulo m: M is the vote, w the cooldown, which restarts at `again`
pub record Reads (n m again : ℕ) (sound : ℕ → Bool) : Type 0 where
  pub M : ℕ → ℕ → Vote
  pub w : ℕ → ℕ → ℕ
  pub most : (r v : ℕ) → w r v ≤ again
  pub below : (r v i : ℕ) → v < n → sound v ≡ true → M r v ≡ Count i → i < m
  pub alike : (r u v i j : ℕ) → 1 ≤ r → u < n → sound u ≡ true → v < n → sound v ≡ true → M r u ≡ Count i → M r v ≡ Count j → i ≡ j
  pub tick : (r v : ℕ) → v < n → sound v ≡ true → w (r + 1) v ≡ cooldown m again (M r v) (M (r + 1) v) (w r v)

module _ (n m again : ℕ) (sound : ℕ → Bool) (R : Reads n m again sound) where
  -- one beat on
  on : (r v : ℕ) → v < n → sound v ≡ true → follows m (R.M r v) (R.M (r + 1) v) ≡ true → R.w (r + 1) v ≡ R.w r v - 1
  unfolding cooldown
  on r v lv sv e = rw e at (R.tick r v lv sv)

  fallen : (T v i : ℕ) → v < n → sound v ≡ true → ((r : ℕ) → T ≤ r → follows m (R.M r v) (R.M (r + 1) v) ≡ true)
      → R.w (T + i) v ≤ again - i
  fallen T v zero lv sv h = omega (arith, R.most (T + 0) v)
  fallen T v (suc i) lv sv h =
      let e : T + suc i ≡ T + i + 1 = omega arith in
      rw e (omega (arith, on (T + i) v lv sv (h (T + i) (omega arith)), fallen T v i lv sv h))

  -- a card whose vote counts on from T on trusts it after `again` beats
  pub trusts : (T r v : ℕ) → v < n → sound v ≡ true → ((q : ℕ) → T ≤ q → follows m (R.M q v) (R.M (q + 1) v) ≡ true)
      → T + again ≤ r → R.w r v ≡ 0
  trusts T r v lv sv h l =
      let e : T + (r - T) ≡ r = omega arith in
      let a : R.w r v ≤ again - (r - T) = rw e at (fallen T v (r - T) lv sv h) in
      omega arith

  -- one beat back: a cooldown below its start was not restarted
  back : (q r v k : ℕ) → q + 1 ≡ r → v < n → sound v ≡ true → R.w r v ≤ k → k < again
      → (i : ℕ) × (R.M q v ≡ Count i) × (R.M r v ≡ Count (plus_one m i)) × (R.w q v ≤ k + 1)
  unfolding cooldown
  back q r v k e lv sv h l = go (follows m (R.M q v) (R.M r v)) refl (rw e at (R.tick q v lv sv))
    where
      go : (t : Bool) → follows m (R.M q v) (R.M r v) ≡ t
          → R.w r v ≡ cond (follows m (R.M q v) (R.M r v)) (R.w q v - 1) again
          → (i : ℕ) × (R.M q v ≡ Count i) × (R.M r v ≡ Count (plus_one m i)) × (R.w q v ≤ k + 1)
      go true t a =
          let g : R.w r v ≡ R.w q v - 1 = rw t at a in
          let i = follows_is m (R.M q v) (R.M r v) t in
          (i.0, i.1, i.2, omega arith)
      go false t a = let g : R.w r v ≡ again = rw t at a in absurd (omega arith)

  -- No restart for as long as w says: a card whose cooldown is k at the beat b + i has counted on since b
  history : (b v i k : ℕ) → 1 ≤ b → v < n → sound v ≡ true → R.w (b + i) v ≤ k → k + i < again
      → (e : ℕ) × (R.M b v ≡ Count e) × (R.M (b + i) v ≡ Count (advance m e i))
  unfolding advance
  history b v zero k l lv sv h small =
      let a = back (b - 1) b v k (omega arith) lv sv (rw (add-zero b) at h) (omega arith) in
      (plus_one m a.0, a.2, ap (λ (r : ℕ). R.M r v) (add-zero b) ∙ a.2)
  history b v (suc i) k l lv sv h small =
      let a = back (b + i) (b + suc i) v k (omega arith) lv sv h (omega arith) in
      let ih = history b v i (k + 1) l lv sv a.3 (omega arith) in
      let s : a.0 ≡ advance m ih.0 i = cc (a.1, ih.2) in
      let below = R.below b v ih.0 lv sv ih.1 in (
        ih.0,
        ih.1,
        a.2 ∙ ap Count (ap (plus_one m) s ∙ plus_one_lem m (advance m ih.0 i) (advance_less m ih.0 i below)),
      )

  -- does some sound card trust its vote at the beat r?
  some_one : ℕ → Bool
  some_one r = ltb 0 (count_below n (λ v. sound v && eqb (R.w r v) 0))

  -- what all sound cards that trust their vote somewhere on the len beats from b on had for it at b
  base : (b len : ℕ) → 1 ≤ b → len ≤ again → 0 < m
      → (e : ℕ) × (e < m) × ((i v : ℕ) → i < len → v < n → sound v ≡ true → R.w (b + i) v ≡ 0 → R.M (b + i) v ≡ Count (advance m e i))
  unfolding some_one
  base b len l small pos = ⊎_elim none some (le_or_lt (count_below len (λ i. some_one (b + i))) 0)
    where
      Goal : Type 0
      Goal =
          (e : ℕ) × (e < m)
          × ((i v : ℕ) → i < len → v < n → sound v ≡ true → R.w (b + i) v ≡ 0 → R.M (b + i) v ≡ Count (advance m e i))

      none : count_below len (λ i. some_one (b + i)) ≤ 0 → Goal
      none h = (
        0,
        pos,
        λ i v li lv sv z.
            let trusts = and_from (sound v) (eqb (R.w (b + i) v) 0) sv (eq-eqb _ 0 z) in
            let a = count_pos n (λ v. sound v && eqb (R.w (b + i) v) 0) v lv trusts in
            absurd (omega (arith, count_pos len (λ i. some_one (b + i)) i li (lt-ltb 0 _ a))),
      )

      some : 0 < count_below len (λ i. some_one (b + i)) → Goal
      some h =
          let a = count_some len (λ i. some_one (b + i)) h in
          let u = count_some n (λ v. sound v && eqb (R.w (b + a.0) v) 0) (ltb-true 0 _ a.2) in
          let trusts = and_parts (sound u.0) (eqb (R.w (b + a.0) u.0) 0) u.2 in
          let su = trusts.0 in
          let zu = eqb-true (R.w (b + a.0) u.0) 0 trusts.1 in
          let p = history b u.0 a.0 0 l u.1 su (omega arith) (omega arith) in (
            p.0,
            R.below b u.0 p.0 u.1 su p.1,
            λ i v li lv sv z.
                let q = history b v i 0 l lv sv (omega arith) (omega arith) in
                rw (R.alike b u.0 v p.0 q.0 l u.1 su lv sv p.1 q.1) q.2,
          )

  -- One virtual counter: on the len beats from b on, every vote that a sound card trusts is that of a single counter
  pub virtual : (b len : ℕ) → 1 ≤ b → len ≤ again → 0 < m
      → (E : ℕ → ℕ) × Counts m E b len
      × ((r v : ℕ) → b ≤ r → r < b + len → v < n → sound v ≡ true → R.w r v ≡ 0 → R.M r v ≡ Count (E r))
  virtual b len l small pos =
      let e = base b len l small pos in (
        λ r. advance m e.0 (r - b),
        counting m e.0 b len e.1,
        λ r v k h lv sv z.
            let p : b + (r - b) ≡ r = omega arith in
            rw p at (e.2 (r - b) v (omega arith) lv sv (rw p z)),
      )
