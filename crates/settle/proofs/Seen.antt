-- How the sound cards of a split group read a half, and that a settled half is seen and trusted: m, then M, then w = 0.
use mathlib.Core.Path.{◌≡◌, ap, ◌∙◌}
use mathlib.Core.Logic.{◌⊎◌, inl, inr, ⊎_elim}
use mathlib.Core.Bool.{Bool, true}
use Prim.Native.Nat.{ℕ, ◌+◌, ◌-◌, ◌≤◌, ◌<◌}
use native.Mathlib.Omega.{arith}
use lib.Dec.{eqb}
use borrow.Author.Tests.{eqb-true, eq-eqb}
use Rattle.std.proofs.lemmas.Bool.{cases_Bool}
use Rattle.rules.specs.declared.Vote.{Vote}
use Rattle.rules.specs.declared.Vote.TheVariants.{Count, None}
use Rattle.rules.specs.Parameters.{c1, restart, none_word}
use Rattle.rules.specs.Groups.{half_cards, half_first, half_broken, half_modulus, heard_in_half}
use Rattle.rules.specs.Groups.{read_vote, output_of, output_place, sent_m, kept_vote, kept_wait}
use Rattle.rules.specs.OneBeat.{trusted, next_m, next_vote, kept_d}
use Rattle.rules.proofs.Votes.{read_is, read_below}
use Rattle.settle.specs.Run.{Cards, Run}
use Rattle.settle.proofs.Inc.{Counts}
use Rattle.rules.proofs.Halves.{half_inside, half_modulus_lem}
use Rattle.settle.proofs.Halves.{half_sound}
use Rattle.settle.proofs.Majority.{vote_alike, vote_all, most_frequent_lem}
use Rattle.settle.proofs.Fields.{m_after, vote_after, wait_after}
use Rattle.settle.proofs.Stable.{Stable}
use Rattle.settle.proofs.Trusted.{Reads, follows_next, trusts, virtual}

-- what half i shows, of the words of the group around it
abbrev pub shown_by_half : ℕ → ℕ → ℕ → (ℕ → ℕ → ℕ → ℕ) → ℕ → ℕ → Vote
shown_by_half i n f words r v = output_of (half_broken i f) (half_modulus i f) (λ j. words r (half_first i n + v) (8 + j))

-- d is M where w is 0
trusted_yes : (wait : ℕ) (kept : Vote) → wait ≡ 0 → trusted wait kept ≡ kept
unfolding trusted
trusted_yes wait kept e = rw (eq-eqb wait 0 e)

trusted_or : (wait : ℕ) (kept : Vote) → (trusted wait kept ≡ None) ⊎ (wait ≡ 0)
unfolding trusted
trusted_or wait kept = ⊎_elim (λ e. inr (eqb-true wait 0 e)) (λ e. inl (rw e)) (cases_Bool (eqb wait 0))

module _ (n f c : ℕ) (sound : ℕ → Bool) (cards : Cards n f sound) (pos : 1 ≤ f) (small : c1 f ≤ none_word)
    (R : Run n f c sound) (i : ℕ) (l : i < 2) where
  -- the m that a sound card sent is heard as it is held
  heard_m : (r v u : ℕ) → v < n → sound v ≡ true → u < n → sound u ≡ true → sent_m i f (R.hear r v u) ≡ sent_m i f (R.words r u)
  heard_m r v u lv sv lu su = ap (read_vote (half_modulus i f)) (R.heard r v u lv sv lu su i)

  -- the vote of the beat before
  vote_at : (q r v : ℕ) → q + 1 ≡ r → v < n → sound v ≡ true → kept_vote i f (R.words r v) ≡ next_vote i n f (R.hear q v)
  vote_at q r v e lv sv = rw (← e) (vote_after n f c sound pos R i q v small l lv sv)

  reads : Reads n (half_modulus i f) (restart f) sound
  unfolding next_vote
  reads =
      record {
        M = λ r v. kept_vote i f (R.words r v);
        w = λ r v. kept_wait i f (R.words r v);
        most = λ r v. omega arith;
        below = λ r v x lv sv e. (read_is (half_modulus i f) _ x e).1;
        alike = λ r u v x y p lu su lv sv a b.
            vote_alike n f sound cards (half_modulus i f) (λ k. sent_m i f (R.hear (r - 1) u k)) (λ k. sent_m i f (R.hear (r - 1) v k)) x y
            (λ k lk sk. cc (heard_m (r - 1) u k lu su lk sk, heard_m (r - 1) v k lv sv lk sk))
            (cc (vote_at (r - 1) r u (omega arith) lu su)) (cc (vote_at (r - 1) r v (omega arith) lv sv));
        tick = λ r v lv sv. wait_after n f c sound pos R i r v small l lv sv;
      }

  -- on at most 12t beats from b on every d that is not none is that of one counter, whatever the half does
  pub one_counter : (b len : ℕ) → 1 ≤ b → len ≤ restart f
      → (E : ℕ → ℕ) × Counts (half_modulus i f) E b len
      × ((r v : ℕ) → b ≤ r → r < b + len → v < n → sound v ≡ true
      → (kept_d i f (R.words r v) ≡ None) ⊎ (kept_d i f (R.words r v) ≡ Count (E r)))
  unfolding reads kept_d
  one_counter b len p k =
      let a = virtual n (half_modulus i f) (restart f) sound reads b len p k (omega (arith, half_modulus_lem i f l)) in (
        a.0,
        a.1,
        λ r v lb lr lv sv. ⊎_elim inl
            (λ z. inr (trusted_yes _ _ z ∙ a.2 r v lb lr lv sv z))
            (trusted_or (kept_wait i f (R.words r v)) (kept_vote i f (R.words r v))),
      )

  module _ (T : ℕ) (good : Cards (half_cards i n) (half_broken i f) (half_sound i n sound))
      (S : Stable (half_cards i n) (half_modulus i f) T (half_sound i n sound) (shown_by_half i n f R.words)) where
    -- m is what the half showed a beat before
    seen_m : (q r v : ℕ) → q + 1 ≡ r → T ≤ q → v < n → sound v ≡ true → sent_m i f (R.words r v) ≡ Count (S.x q)
    unfolding next_m
    seen_m q r v e k lv sv =
        let m : R.words r v i ≡ S.x q =
        rw (← e) (m_after n f c sound pos R i q v l lv sv
        ∙ most_frequent_lem (half_cards i n) (half_broken i f) (half_sound i n sound) good (half_modulus i f)
        (λ u. output_of (half_broken i f) (half_modulus i f) (heard_in_half i n (R.hear q v) u)) (S.x q) (S.below q k)
        (λ u lu su.
        ap (read_vote (half_modulus i f))
        (R.heard q v (half_first i n + u) lv sv (half_inside i n u l lu) su (8 + output_place (half_broken i f)))
        ∙ S.shown q u k lu su)) in
        rw m (read_below (half_modulus i f) (S.x q) (S.below q k))

    -- M is what the half showed two beats before
    seen_vote : (p q r v : ℕ) → p + 1 ≡ q → q + 1 ≡ r → T ≤ p → v < n → sound v ≡ true → kept_vote i f (R.words r v) ≡ Count (S.x p)
    unfolding next_vote
    seen_vote p q r v e h k lv sv =
        vote_at q r v h lv sv
        ∙ vote_all n f sound cards (half_modulus i f) (λ u. sent_m i f (R.hear q v u)) (S.x p) (S.below p k)
        (λ u lu su. heard_m q v u lv sv lu su ∙ seen_m p q u e k lu su)

    -- and once the cooldown has run out, so is d
    pub seen : Stable n (half_modulus i f) (T + 2 + restart f) sound (λ r v. kept_d i f (R.words r v))
    unfolding reads kept_d
    seen =
        record {
          x = λ r. S.x (r - 2);
          below = λ r k. S.below (r - 2) (omega arith);
          counts = λ r k. let e : r + 1 - 2 ≡ r - 2 + 1 = omega arith in rw e (S.counts (r - 2) (omega arith));
          shown = λ r v k lv sv.
              trusted_yes _ _ (trusts n (half_modulus i f) (restart f) sound reads (T + 2) r v lv sv
              (λ q h. follows_next (half_modulus i f) (S.x (q - 2)) _ _ (S.below (q - 2) (omega arith))
              (seen_vote (q - 2) (q - 1) q v (omega arith) (omega arith) (omega arith) lv sv)
              (rw (← S.counts (q - 2) (omega arith))
              (seen_vote (q - 2 + 1) q (q + 1) v (omega arith) (omega arith) (omega arith) lv sv))) k)
              ∙ seen_vote (r - 2) (r - 1) r v (omega arith) (omega arith) (omega arith) lv sv;
        }
