-- The phase king: one sound king's three steps make the sound cards agree, and agreement stays.
use mathlib.Core.Path.{◌≡◌, refl}
use mathlib.Core.Bool.{Bool, true, false, cond}
use Prim.Native.Nat.{ℕ, ◌+◌, ◌*◌, ◌/◌, ◌%◌, ◌≤◌, ◌<◌}
use native.Mathlib.Nat.{mod-lt}
use native.Mathlib.Omega.{arith}
use lib.Dec.{eqb, ltb}
use borrow.Author.Tests.{eq-eqb, ne_eqb, leb-true, ltb-true, lt-ltb}
use Rattle.rules.specs.declared.Vote.{Vote}
use Rattle.rules.specs.declared.Vote.TheVariants.{Count, None}
use Rattle.rules.specs.Counting.{count_below, count_or0, same}
use Rattle.rules.specs.OneBeat.{plus_one, sent_by, enough, supported, obeyed, gained, Standing, step0, step1, step2, three_steps}
use Rattle.rules.proofs.Votes.{same_true}
use Rattle.rules.proofs.Counting.{count_apart, least_is, least_some}
use Rattle.settle.specs.Run.{Cards}
use Rattle.settle.proofs.Quorum.{sound_one, carry, quorum, all_enough}
use Rattle.settle.proofs.Inc.{inc, inc_less, plus_one_lem}

-- what a card's a and b become on a beat, at the phase d
unfoldable pub stepped : ℕ → ℕ → ℕ → (ℕ → Vote) → ℕ → Standing → Standing
stepped n f c heard d s = record { a = gained c (three_steps n f c heard d s).a; b = (three_steps n f c heard d s).b }

-- One beat: what sound cards hear of sound cards is so, and each sound card takes its step, at its own phase
pub record Beat (n f c : ℕ) (sound : ℕ → Bool) (d : ℕ → ℕ) (s : ℕ → Standing) (hear : ℕ → ℕ → Vote) (s' : ℕ → Standing) : Type 0 where
  pub heard : (v u : ℕ) → v < n → sound v ≡ true → u < n → sound u ≡ true → hear v u ≡ (s u).a
  pub moved : (v : ℕ) → v < n → sound v ≡ true → s' v ≡ stepped n f c (hear v) (d v) (s v)

-- all sound cards hold the count x, and b = 1
pub record Agreed (n c : ℕ) (sound : ℕ → Bool) (x : ℕ) (s : ℕ → Standing) : Type 0 where
  pub a : (v : ℕ) → v < n → sound v ≡ true → (s v).a ≡ Count x
  pub b : (v : ℕ) → v < n → sound v ≡ true → (s v).b ≡ true
  pub below : x < c

module _ (n f : ℕ) (sound : ℕ → Bool) (cards : Cards n f sound) (c : ℕ) where
  -- a count that a card finds supported lies below c, more than f cards sent it, and a sound one did
  supported_is : (heard : ℕ → Vote) (i : ℕ) → supported n f c heard ≡ Count i
      → (i < c) × (f < sent_by n heard (Count i)) × ((u : ℕ) × (u < n) × (sound u ≡ true) × (heard u ≡ Count i))
  unfolding supported sent_by
  supported_is heard i e =
      let r = least_is c (λ x. ltb f (count_below n (λ u. same (heard u) (Count x)))) i e in
      let m = ltb-true f _ r.1 in
      let u = sound_one n f sound cards (λ u. same (heard u) (Count i)) m in
      (r.0, m, (u.0, u.1, u.2, same_true (heard u.0) (Count i) u.3))

  -- where n-f cards send one card a count, any other card finds some count supported
  enough_supported : (x y : ℕ → Vote) (i : ℕ) → ((u : ℕ) → u < n → sound u ≡ true → x u ≡ y u) → i < c
      → enough n f (sent_by n x (Count i)) ≡ true → (j : ℕ) × (supported n f c y ≡ Count j)
  unfolding supported sent_by enough
  enough_supported x y i h l e =
      least_some c (λ z. ltb f (count_below n (λ u. same (y u) (Count z)))) i l
      (lt-ltb f _
      (carry n f sound cards (λ u. same (x u) (Count i)) (λ u. same (y u) (Count i)) (leb-true n _ e) (λ u lu su t. rw (h u lu su) at t)))

  -- a count that all sound cards send is the one found
  all_supported : (heard : ℕ → Vote) (x : ℕ) → x < c → ((u : ℕ) → u < n → sound u ≡ true → heard u ≡ Count x)
      → supported n f c heard ≡ Count x
  all_supported heard x l h =
      let r = enough_supported heard heard x (λ u lu su. refl) l (all_enough n f sound cards heard (Count x) h) in
      let u = (supported_is heard r.0 r.1).2 in
      cc (r.1, u.3, h u.0 u.1 u.2)

-- agreement stays, whatever step each card takes
pub persist : (n f c : ℕ) (sound : ℕ → Bool) → Cards n f sound
    → (d : ℕ → ℕ) (s : ℕ → Standing) (hear : ℕ → ℕ → Vote) (s' : ℕ → Standing) (x : ℕ)
    → Beat n f c sound d s hear s' → Agreed n c sound x s → Agreed n c sound (inc c x) s'
unfolding stepped three_steps gained step0 step1 step2 obeyed
persist n f c sound cards d s hear s' x beat agreed =
    record {
      a = λ v lv sv. rw (beat.moved v lv sv, (kept v lv sv (eqb (d v % 3) 0) (eqb (d v % 3) 1)).0, plus_one_lem c x agreed.below);
      b = λ v lv sv. rw (beat.moved v lv sv) (kept v lv sv (eqb (d v % 3) 0) (eqb (d v % 3) 1)).1;
      below = inc_less c x agreed.below;
    }
  where
    -- each sound card hears x from every sound card
    told : (v : ℕ) → v < n → sound v ≡ true → (u : ℕ) → u < n → sound u ≡ true → hear v u ≡ Count x
    told v lv sv u lu su = cc (beat.heard v u lv sv lu su, agreed.a u lu su)

    -- so enough cards sent what it holds itself
    own : (v : ℕ) → v < n → sound v ≡ true → enough n f (sent_by n (hear v) (s v).a) ≡ true
    own v lv sv = rw (agreed.a v lv sv) (all_enough n f sound cards (hear v) (Count x) (told v lv sv))

    -- none of the three steps changes a or b, whichever the tests on the phase pick
    kept : (v : ℕ) → v < n → sound v ≡ true → (zeroth first : Bool)
        → let o = cond zeroth (step0 n f (hear v) (s v)) (cond first (step1 n f c (hear v) (s v)) (step2 (hear v (d v / 3)) (s v))) in
        (o.a ≡ Count x) × (o.b ≡ true)
    kept v lv sv true first = (rw (own v lv sv, agreed.a v lv sv), agreed.b v lv sv)
    kept v lv sv false true = (all_supported n f sound cards c (hear v) x agreed.below (told v lv sv), own v lv sv)
    kept v lv sv false false = (rw (agreed.a v lv sv, agreed.b v lv sv), refl)

-- a count after the beat was a count before, one less
gained_is : (c : ℕ) (y : Vote) (i : ℕ) → gained c y ≡ Count i → (j : ℕ) × (y ≡ Count j) × (i ≡ plus_one c j)
unfolding gained
gained_is c (Count j) i e = (j, refl, cc)
gained_is c None i e = let z : ◌≡◌ {A = ℕ} 0 1 = cc in absurd (omega arith)

-- a count that step 0 leaves was there before, and the test was passed
kept_is : (t : Bool) (y : Vote) (i : ℕ) → cond t y None ≡ Count i → (t ≡ true) × (y ≡ Count i)
kept_is true y i e = (refl, e)
kept_is false y i e = let z : ◌≡◌ {A = ℕ} 0 1 = cc in absurd (omega arith)

-- n-f cards that send none leave at most f to send a count
none_apart : (n f : ℕ) (heard : ℕ → Vote) (i : ℕ) → enough n f (sent_by n heard None) ≡ true → f < sent_by n heard (Count i) → ⊥
unfolding sent_by enough
none_apart n f heard i e l =
    omega (
      arith,
      leb-true n _ e,
      count_apart n (λ u. same (heard u) None) (λ u. same (heard u) (Count i))
          (λ u p q. let z : ◌≡◌ {A = ℕ} 0 1 = cc (same_true (heard u) None p, same_true (heard u) (Count i) q) in omega arith),
    )

-- Three beats on which all sound cards take the steps 0, 1 and 2 of the sound king k
module _ (n f c : ℕ) (sound : ℕ → Bool) (cards : Cards n f sound) (two : 2 ≤ c) (k : ℕ) (lk : k < n) (sk : sound k ≡ true)
    (d0 d1 d2 : ℕ → ℕ) (s0 s1 s2 s3 : ℕ → Standing) (h0 h1 h2 : ℕ → ℕ → Vote)
    (b0 : Beat n f c sound d0 s0 h0 s1) (b1 : Beat n f c sound d1 s1 h1 s2) (b2 : Beat n f c sound d2 s2 h2 s3)
    (p0 : (v : ℕ) → v < n → sound v ≡ true → d0 v ≡ 3 * k)
    (p1 : (v : ℕ) → v < n → sound v ≡ true → d1 v ≡ 3 * k + 1)
    (p2 : (v : ℕ) → v < n → sound v ≡ true → d2 v ≡ 3 * k + 2) where
  -- what each beat makes of a and b: step 0, step 1, step 2
  at_first : (v : ℕ) → v < n → sound v ≡ true → s1 v ≡ record { a = gained c (step0 n f (h0 v) (s0 v)).a; b = (s0 v).b }
  unfolding stepped three_steps step0
  at_first v lv sv = rw (b0.moved v lv sv, eq-eqb (d0 v % 3) 0 (omega (arith, p0 v lv sv)))

  at_second : (v : ℕ) → v < n → sound v ≡ true
      → s2 v ≡ record { a = gained c (supported n f c (h1 v)); b = enough n f (sent_by n (h1 v) (s1 v).a) }
  unfolding stepped three_steps step1
  at_second v lv sv =
      rw (b1.moved v lv sv, ne_eqb (d1 v % 3) 0 (omega (arith, p1 v lv sv)), eq-eqb (d1 v % 3) 1 (omega (arith, p1 v lv sv)))

  at_third : (v : ℕ) → v < n → sound v ≡ true → s3 v ≡ record { a = gained c (obeyed (s2 v).a (s2 v).b (h2 v k)); b = true }
  unfolding stepped three_steps step2
  at_third v lv sv =
      let e : d2 v / 3 ≡ k = omega (arith, p2 v lv sv) in
      rw (b2.moved v lv sv, ne_eqb (d2 v % 3) 0 (omega (arith, p2 v lv sv)), ne_eqb (d2 v % 3) 1 (omega (arith, p2 v lv sv)), e)

  -- after step 0 no two sound cards have different counts
  held_same : (v w i j : ℕ) → v < n → sound v ≡ true → w < n → sound w ≡ true → (s1 v).a ≡ Count i → (s1 w).a ≡ Count j → i ≡ j
  unfolding step0
  held_same v w i j lv sv lw sw p q =
      let x = from v i lv sv p in
      let y = from w j lw sw q in
      let e = quorum n f sound cards (h0 v) (h0 w) (s0 v).a (s0 w).a
      (λ u lu su. cc (b0.heard v u lv sv lu su, b0.heard w u lw sw lu su)) x.1 y.1 in
      cc (x.2, y.2, x.3, y.3, e)
    where
      from : (v i : ℕ) → v < n → sound v ≡ true → (s1 v).a ≡ Count i
          → (j : ℕ) × (enough n f (sent_by n (h0 v) (s0 v).a) ≡ true) × ((s0 v).a ≡ Count j) × (i ≡ plus_one c j)
      from v i lv sv p =
          let t = enough n f (sent_by n (h0 v) (s0 v).a) in
          let x = gained_is c (cond t (s0 v).a None) i (rw (at_first v lv sv) at p) in
          let y = kept_is t (s0 v).a x.0 x.1 in
          (x.0, y.0, y.1, x.2)

  -- what a sound card finds in step 1, a sound card holds
  holder : (v i : ℕ) → v < n → sound v ≡ true → supported n f c (h1 v) ≡ Count i
      → (u : ℕ) × (u < n) × (sound u ≡ true) × ((s1 u).a ≡ Count i)
  holder v i lv sv p =
      let u = (supported_is n f sound cards c (h1 v) i p).2 in
      (u.0, u.1, u.2, cc (u.3, b1.heard v u.0 lv sv u.1 u.2))

  -- so it is the same as any count that a sound card holds
  found_same : (v w i j : ℕ) → v < n → sound v ≡ true → w < n → sound w ≡ true
      → supported n f c (h1 v) ≡ Count i → (s1 w).a ≡ Count j → i ≡ j
  found_same v w i j lv sv lw sw p q =
      let u = holder v i lv sv p in
      held_same u.0 w i j u.1 u.2 lw sw u.3 q

  -- where a sound card finds i, and sets b, the king finds i
  king_finds : (v i : ℕ) → v < n → sound v ≡ true → supported n f c (h1 v) ≡ Count i → enough n f (sent_by n (h1 v) (s1 v).a) ≡ true
      → supported n f c (h1 k) ≡ Count i
  king_finds v i lv sv p m = go (s1 v).a refl
    where
      found : (i < c) × (f < sent_by n (h1 v) (Count i))
      found = let r = supported_is n f sound cards c (h1 v) i p in (r.0, r.1)

      go : (y : Vote) → (s1 v).a ≡ y → supported n f c (h1 k) ≡ Count i
      go (Count j) e =
          let ij : i ≡ j = found_same v v i j lv sv lv sv p e in
          let r = enough_supported n f sound cards c (h1 v) (h1 k) j
          (λ u lu su. cc (b1.heard v u lv sv lu su, b1.heard k u lk sk lu su)) (omega (arith, found.0)) (rw e at m) in
          let u = holder k r.0 lk sk r.1 in
          cc (r.1, found_same v u.0 i r.0 lv sv u.1 u.2 p u.3)
      go None e = absurd (none_apart n f (h1 v) i (rw e at m) found.1)

  -- every sound card takes in step 2 what the king shows, 0 for none
  obeys : (v : ℕ) → v < n → sound v ≡ true → obeyed (s2 v).a (s2 v).b (h2 v k) ≡ Count (count_or0 (gained c (supported n f c (h1 k))))
  unfolding gained obeyed count_or0
  obeys v lv sv =
      rw (b2.heard v k lv sv lk sk, at_second v lv sv, at_second k lk sk)
      (go (supported n f c (h1 v)) (enough n f (sent_by n (h1 v) (s1 v).a)) refl refl)
    where
      go : (y : Vote) (t : Bool) → supported n f c (h1 v) ≡ y → enough n f (sent_by n (h1 v) (s1 v).a) ≡ t
          → obeyed (gained c y) t (gained c (supported n f c (h1 k))) ≡ Count (count_or0 (gained c (supported n f c (h1 k))))
      go (Count i) true p q = rw (king_finds v i lv sv p q)
      go (Count i) false p q = refl
      go None true p q = refl
      go None false p q = refl

  -- so all sound cards agree
  pub agree : (x : ℕ) × Agreed n c sound x s3
  unfolding gained
  agree =
      let x = count_or0 (gained c (supported n f c (h1 k))) in (
        plus_one c x,
        record {
          a = λ v lv sv. rw (at_third v lv sv, obeys v lv sv);
          b = λ v lv sv. rw (at_third v lv sv);
          below = mod-lt (x + 1) (omega arith);
        },
      )
