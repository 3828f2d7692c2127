-- What a vote and a most frequent value come to where the sound cards say one thing.
use mathlib.Core.Path.{◌≡◌, refl}
use mathlib.Core.Bool.{Bool, true}
use mathlib.Core.Logic.{⊎_elim}
use Prim.Native.Nat.{ℕ, ◌≤◌, ◌<◌}
use native.Mathlib.Omega.{arith}
use lib.Dec.{leb, eqb}
use borrow.Author.Tests.{leb-true, le-leb, lt-leb, eqb-true, eqb-false}
use Rattle.std.proofs.lemmas.Bool.{cases_Bool}
use Rattle.rules.specs.declared.Vote.{Vote}
use Rattle.rules.specs.declared.Vote.TheVariants.{Count}
use Rattle.rules.specs.Counting.{count_or0, same}
use Rattle.rules.specs.OneBeat.{sent_by, enough, most_sent, most_frequent, vote}
use Rattle.rules.proofs.Counting.{count_apart, least_is, least_at, least_some, largest_le, largest_least}
use Rattle.rules.proofs.Votes.{same_true}
use Rattle.settle.specs.Run.{Cards}
use Rattle.settle.proofs.Quorum.{quorum, all_enough}

pub vote_below : (n f m : ℕ) (heard : ℕ → Vote) (x : ℕ) → vote n f m heard ≡ Count x → x < m
unfolding vote
vote_below n f m heard x e = (least_is m _ x e).0

vote_enough : (n f m : ℕ) (heard : ℕ → Vote) (x : ℕ) → vote n f m heard ≡ Count x → enough n f (sent_by n heard (Count x)) ≡ true
unfolding vote
vote_enough n f m heard x e = (least_is m _ x e).1

module _ (n f : ℕ) (sound : ℕ → Bool) (cards : Cards n f sound) (m : ℕ) where
  -- two listeners vote alike
  pub vote_alike : (x y : ℕ → Vote) (i j : ℕ) → ((u : ℕ) → u < n → sound u ≡ true → x u ≡ y u)
      → vote n f m x ≡ Count i → vote n f m y ≡ Count j → i ≡ j
  vote_alike x y i j h p q =
      let e = quorum n f sound cards x y (Count i) (Count j) h (vote_enough n f m x i p) (vote_enough n f m y j q) in
      cc

  -- what all sound cards sent is voted
  pub vote_all : (x : ℕ → Vote) (i : ℕ) → i < m → ((u : ℕ) → u < n → sound u ≡ true → x u ≡ Count i) → vote n f m x ≡ Count i
  unfolding vote
  vote_all x i l h =
      let p = all_enough n f sound cards x (Count i) h in
      let r = least_some m (λ j. enough n f (sent_by n x (Count j))) i l p in
      let e = quorum n f sound cards x x (Count i) (Count r.0) (λ u lu su. refl) p (vote_enough n f m x r.0 r.1) in
      cc r.1

  -- a value that all sound cards show: every other one is shown less often
  rarer : (x : ℕ → Vote) (i j : ℕ) → ((u : ℕ) → u < n → sound u ≡ true → x u ≡ Count i) → ¬ (j ≡ i)
      → sent_by n x (Count j) < sent_by n x (Count i)
  unfolding sent_by enough
  rarer x i j h d =
      omega (
        arith,
        leb-true n _ (all_enough n f sound cards x (Count i) h),
        count_apart n (λ u. same (x u) (Count j)) (λ u. same (x u) (Count i))
            (λ u a b. let e = same_true (x u) (Count j) a in let k = same_true (x u) (Count i) b in d (cc)),
      )

  -- so it is the most frequent, with no tie
  pub most_frequent_lem : (x : ℕ → Vote) (i : ℕ) → i < m → ((u : ℕ) → u < n → sound u ≡ true → x u ≡ Count i) → most_frequent m n x ≡ i
  unfolding most_frequent most_sent count_or0
  most_frequent_lem x i l h =
      let no_less : (j : ℕ) → j < m → sent_by n x (Count j) ≤ sent_by n x (Count i) = λ j lj. ⊎_elim
      (λ e. rw (eqb-true j i e) (omega arith))
      (λ e. omega (arith, rarer x i j h (eqb-false j i e)))
      (cases_Bool (eqb j i)) in
      rw (least_at m (λ j. leb (most_sent m n x) (sent_by n x (Count j))) i l
      (le-leb (most_sent m n x) _ (largest_least m (λ j. sent_by n x (Count j)) (sent_by n x (Count i)) no_less))
      (λ j lj. lt-leb (most_sent m n x) _ (omega (arith, rarer x i j h (omega arith), largest_le m (λ j. sent_by n x (Count j)) i l))))
