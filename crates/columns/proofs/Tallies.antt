-- A tally of what the cards sent, and the value that leads.
use mathlib.Core.Path.{◌≡◌, refl, sym, ap, ◌∙◌}
use mathlib.Core.Logic.{◌⊎◌, inl, inr, ⊎_elim}
use mathlib.Core.Bool.{Bool, true, false}
use mathlib.Core.List.{List}
use Prim.Native.Nat.{ℕ, ◌+◌, ◌≤◌, ◌<◌, min}
use native.Mathlib.Omega.{arith}
use lib.Dec.{leb, eqb}
use lib.ListN.{length, get_or, set, replicate, get_or-replicate}
use lib.Seq.{get_or-set_same, get_or-set_other}
use borrow.Author.Tests.{lt-ltb, le-ltb, le-leb, lt-leb, eqb-true, eqb-false}
use Rattle.std.proofs.lemmas.Bool.{cases_lt}
use Rattle.rules.specs.declared.Vote.{Vote}
use Rattle.rules.specs.declared.Vote.TheVariants.{Count, None}
use Rattle.rules.specs.Counting.{largest_below, count_or0}
use Rattle.rules.specs.OneBeat.{sent_by, most_sent, most_frequent}
use Rattle.rules.proofs.Counting.{largest_le, largest_least, least_at}
use Rattle.rules.proofs.Votes.{count_none}
use Rattle.columns.specs.Columns.{leader}
use Rattle.columns.proofs.Sent.{sent_yes, sent_no, sent_zero, sent_grows}

-- the tally of the first u cards
pub record Tally (heard : ℕ → Vote) (m : ℕ) (t : List ℕ) (u : ℕ) : Type 0 where
  pub counts : (j : ℕ) → j < m → get_or t j 0 ≡ sent_by u heard (Count j)

pub tally_start : (heard : ℕ → Vote) (m k : ℕ) → m ≤ k → Tally heard m (replicate k 0) 0
tally_start heard m k l = record { counts = λ j lj. get_or-replicate k j 0 0 (omega arith) ∙ sym (sent_zero heard (Count j)) }

-- a card whose vote counts
pub tally_more : (heard : ℕ → Vote) (m : ℕ) (t : List ℕ) (u x : ℕ) → m ≤ length t → heard u ≡ Count x → x < m
    → Tally heard m t u → Tally heard m (set t x (get_or t x 0 + 1)) (u + 1)
tally_more heard m t u x long e l T = record { counts = λ j lj. go j lj (eqb x j) refl }
  where
    go : (j : ℕ) → j < m → (b : Bool) → eqb x j ≡ b → get_or (set t x (get_or t x 0 + 1)) j 0 ≡ sent_by (u + 1) heard (Count j)
    go j lj true q =
        let s : x ≡ j = eqb-true x j q in
        rw (← s)
        (get_or-set_same t x (get_or t x 0 + 1) 0 (omega arith) ∙ ap (λ (k : ℕ). k + 1) (T.counts x l) ∙ sym (sent_yes heard u (Count x) e))
    go j lj false q =
        let ne : x ≡ j → ⊥ = eqb-false x j q in
        get_or-set_other t x j (get_or t x 0 + 1) 0 (λ r. ne (sym r)) ∙ T.counts j lj
        ∙ sym (sent_no heard u (Count j) (λ r. ne (cc (e, r))))

-- a card whose vote does not
pub tally_same : (heard : ℕ → Vote) (m : ℕ) (t : List ℕ) (u : ℕ) → heard u ≡ None → Tally heard m t u → Tally heard m t (u + 1)
tally_same heard m t u e T = record { counts = λ j lj. T.counts j lj ∙ sym (sent_no heard u (Count j) (λ r. count_none (sym r ∙ e))) }

-- of the first u cards none sent another value more often, or a smaller one as often
pub record Leads (heard : ℕ → Vote) (m u best : ℕ) : Type 0 where
  pub below : best < m
  pub most : (j : ℕ) → j < m → sent_by u heard (Count j) ≤ sent_by u heard (Count best)
  pub first : (j : ℕ) → j < best → sent_by u heard (Count j) < sent_by u heard (Count best)

pub leads_start : (heard : ℕ → Vote) (m : ℕ) → 0 < m → Leads heard m 0 0
leads_start heard m l =
    record {
      below = l;
      most = λ j lj. omega (arith, sent_zero heard (Count j));
      first = λ j lj. absurd (omega arith);
    }

pub leads_same : (heard : ℕ → Vote) (m u best : ℕ) → heard u ≡ None → Leads heard m u best → Leads heard m (u + 1) best
leads_same heard m u best e L =
    let same : (j : ℕ) → sent_by (u + 1) heard (Count j) ≡ sent_by u heard (Count j) =
    λ j. sent_no heard u (Count j) (λ r. count_none (sym r ∙ e)) in
    record {
      below = L.below;
      most = λ j lj. omega (arith, same j, same best, L.most j lj);
      first = λ j lj. omega (arith, same j, same best, L.first j lj);
    }

-- a card that sent x: x leads now, or the leader stays
module _ (heard : ℕ → Vote) (m u best x : ℕ) (e : heard u ≡ Count x) (l : x < m) (L : Leads heard m u best) where
  old : ℕ → ℕ
  old j = sent_by u heard (Count j)

  now : ℕ → ℕ
  now j = sent_by (u + 1) heard (Count j)

  data Bumped (j : ℕ) : Type 0 where
    this : j ≡ x → now j ≡ now x → Bumped j
    other : (j ≡ x → ⊥) → now j ≡ old j → Bumped j

  bumped : (j : ℕ) → Bumped j
  unfolding old now
  bumped j = go (eqb j x) refl
    where
      go : (t : Bool) → eqb j x ≡ t → Bumped j
      go true q = this (eqb-true j x q) (ap now (eqb-true j x q))
      go false q = other (eqb-false j x q) (sent_no heard u (Count j) (λ r. eqb-false j x q (cc (e, r))))

  grown : old best ≤ now best
  unfolding old now
  grown = sent_grows heard u (u + 1) (Count best) (omega arith)

  leads_x : now best ≤ now x → (now best < now x) ⊎ (x < best) → Leads heard m (u + 1) x
  unfolding old now
  leads_x h k = record { below = l; most = λ j lj. most j lj (bumped j); first = λ j lj. first j lj (bumped j) k }
    where
      most : (j : ℕ) → j < m → Bumped j → now j ≤ now x
      most j lj (this q r) = omega arith
      most j lj (other q r) = omega (arith, L.most j lj, grown)

      first : (j : ℕ) → j < x → Bumped j → (now best < now x) ⊎ (x < best) → now j < now x
      first j lj (this q r) w = absurd (omega arith)
      first j lj (other q r) (inl a) = omega (arith, L.most j (omega arith), grown)
      first j lj (other q r) (inr a) = omega (arith, L.first j (omega arith), grown)

  leads_best : now x ≤ now best → (now x < now best) ⊎ (best ≤ x) → Leads heard m (u + 1) best
  unfolding old now
  leads_best h k = record { below = L.below; most = λ j lj. most j lj (bumped j); first = λ j lj. first j lj (bumped j) k }
    where
      most : (j : ℕ) → j < m → Bumped j → now j ≤ now best
      most j lj (this q r) = omega arith
      most j lj (other q r) = omega (arith, L.most j lj, grown)

      first : (j : ℕ) → j < best → Bumped j → (now x < now best) ⊎ (best ≤ x) → now j < now best
      first j lj (this q r) (inl a) = omega arith
      first j lj (this q r) (inr a) = absurd (omega arith)
      first j lj (other q r) w = omega (arith, L.first j lj, grown)

  pub leads_more : (t most : ℕ) → t ≡ sent_by (u + 1) heard (Count x) → most ≡ sent_by (u + 1) heard (Count best)
      → Leads heard m (u + 1) (leader best most x t)
  unfolding leader old now
  leads_more t most p q = ⊎_elim
      (λ (a : most < t). rw (lt-ltb most t a) (leads_x (omega arith) (inl (omega arith))))
      (λ (a : t ≤ most). rw (le-ltb most t a) (⊎_elim
      (λ (b : t < most). rw (lt-ltb t most b) (leads_best (omega arith) (inl (omega arith))))
      (λ (b : most ≤ t). rw (le-ltb t most b) (⊎_elim
      (λ (z : x < best). let s : min x best ≡ x = omega arith in rw s (leads_x (omega arith) (inr z)))
      (λ (z : best ≤ x). let s : min x best ≡ best = omega arith in rw s (leads_best (omega arith) (inr z)))
      (cases_lt x best)))
      (cases_lt t most)))
      (cases_lt most t)

-- the value that leads at the end is the most frequent one
pub leads_is : (heard : ℕ → Vote) (m n best : ℕ) → Leads heard m n best → most_frequent m n heard ≡ best
unfolding most_frequent most_sent count_or0
leads_is heard m n best L =
    let times : ℕ → ℕ = λ (x : ℕ). sent_by n heard (Count x) in
    let most = largest_least m times (times best) L.most in
    let top = largest_le m times best L.below in
    let e = least_at m (λ (x : ℕ). leb (largest_below m times) (times x)) best L.below (le-leb _ _ most)
    (λ j lj. lt-leb (largest_below m times) (times j) (omega (arith, L.first j lj))) in
    rw e
