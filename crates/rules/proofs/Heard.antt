-- A card's next words depend only on its own words and on the carried words of the others.
use mathlib.Core.Path.{◌≡◌, refl, ap₂, fun_ext, ◌∙◌}
use mathlib.Core.Logic.{⊎_elim}
use mathlib.Core.Bool.{true, false, false≢true}
use mathlib.Core.List.{◌++◌}
use Prim.Native.Nat.{ℕ, zero, suc, ◌+◌, ◌*◌, ◌-◌, ◌/◌, ◌%◌, ◌≤◌, ◌<◌}
use native.Mathlib.Nat.{mod-lt}
use native.Mathlib.Omega.{arith}
use lib.ListN.{length}
use lib.Dec.{eqb}
use borrow.Author.Tests.{le-ltb, eqb-true, eqb-false, ne_eqb}
use Rattle.std.proofs.lemmas.Bool.{cases_Bool}
use Rattle.rules.specs.declared.Vote.{Vote}
use Rattle.rules.specs.Parameters.{turn, record_words}
use Rattle.rules.specs.Groups.{half_cards, half_first, half_broken, half_modulus, half_of, heard_in_half}
use Rattle.rules.specs.Groups.{output_of, output_place, own_words, carried}
use Rattle.rules.specs.OneBeat.{Standing, sent_by, most_sent, most_frequent, vote, step0, supported, step1, three_steps, phase}
use Rattle.rules.specs.OneBeat.{kept_d, next_m, next_vote, next_wait, next_standing, level_next, leaf_next, group_next, next_record}
use Rattle.rules.proofs.Tests.{le_or_lt}
use Rattle.rules.proofs.Counting.{count_same}
use Rattle.rules.proofs.Halves.{half_less, half_broken_lem, half_few, half_inside, half_of_lem, half_own, half_words_lem, each_half}

-- a group writes its own words
pub written : (k n f c : ℕ) (hear : ℕ → ℕ → ℕ) (card : ℕ) → length (group_next k n f c hear card) ≡ own_words k n f card
unfolding group_next level_next own_words
written zero n f c hear card = refl
written (suc k) n zero c hear card = refl
written (suc k) n (suc f) c hear card =
    let i = half_of n card in
    omega (
      arith,
      written k (half_cards i n) (half_broken i (suc f)) (half_modulus i (suc f)) (heard_in_half i n hear) (card - half_first i n),
    )

-- and they fit its record
pub own_most : (k n f card : ℕ) → own_words k n f card ≤ record_words f
unfolding own_words
own_most zero n f card = omega arith
own_most (suc k) n zero card = omega arith
own_most (suc k) n (suc f) card =
    let i = half_of n card in
    omega (
      arith,
      own_most k (half_cards i n) (half_broken i (suc f)) (card - half_first i n),
      half_words_lem i (suc f) (half_less n card) (omega arith),
    )

-- what n cards sent decides how often each vote was sent, and so the votes and the three steps
module _ (n : ℕ) (a b : ℕ → Vote) (agree : (u : ℕ) → u < n → a u ≡ b u) where
  sent_same : sent_by n a ≡ sent_by n b
  unfolding sent_by
  sent_same = fun_ext (λ y. count_same n _ _ (λ u l. rw (agree u l)))

  frequent_same : (m : ℕ) → most_frequent m n a ≡ most_frequent m n b
  unfolding most_frequent most_sent
  frequent_same m = rw sent_same

  vote_same : (f m : ℕ) → vote n f m a ≡ vote n f m b
  unfolding vote
  vote_same f m = rw sent_same

  steps_same : (f c d : ℕ) (s : Standing) → d / 3 < n → three_steps n f c a d s ≡ three_steps n f c b d s
  unfolding three_steps step0 step1 supported
  steps_same f c d s l = rw (sent_same, agree (d / 3) l)

-- a group's output is carried, and so are m0 and m1
output_carried : (k n f u : ℕ) → f < k → carried k n f u (output_place f) ≡ true
unfolding carried
output_carried zero n f u l = absurd (omega arith)
output_carried (suc k) n zero u l = refl
output_carried (suc k) n (suc f) u l = rw (ne_eqb (suc f) 0 (omega arith))

m_carried : (k n f u i : ℕ) → i < 2 → carried (suc k) n (suc f) u i ≡ true
unfolding carried
m_carried k n f u i l = each_half (λ i. carried (suc k) n (suc f) u i ≡ true) refl refl i l

-- a card of half i has the words of that half behind the group's eight
carried_half : (k n f i u j : ℕ) → i < 2 → u < half_cards i n
    → carried (suc k) n (suc f) (half_first i n + u) (8 + j) ≡ carried k (half_cards i n) (half_broken i (suc f)) u j
unfolding carried
carried_half k n f i u j l h =
    let e : half_first i n + u - half_first i n ≡ u = omega arith in
    let d : 8 + j - 8 ≡ j = omega arith in
    rw (half_of_lem i n u l h, le-ltb (8 + j) 8 (omega arith), e, d)

-- A split group, with one round more than its halves: of the card's own words all agree, of every card's the carried ones
module _ (k n f c : ℕ) (hear heard : ℕ → ℕ → ℕ) (card : ℕ) (few : 3 * suc f < n) (rounds : f < k)
    (own : (j : ℕ) → j < own_words (suc k) n (suc f) card → hear card j ≡ heard card j)
    (others : (u j : ℕ) → u < n → carried (suc k) n (suc f) u j ≡ true → hear u j ≡ heard u j)
  where
    level_own : (j : ℕ) → j < 8 → hear card j ≡ heard card j
    unfolding own_words
    level_own j l = own j (omega arith)

    half_others : (i : ℕ) → i < 2 → (u j : ℕ) → u < half_cards i n → carried k (half_cards i n) (half_broken i (suc f)) u j ≡ true
        → heard_in_half i n hear u j ≡ heard_in_half i n heard u j
    half_others i l u j h e = others (half_first i n + u) (8 + j) (half_inside i n u l h) (carried_half k n f i u j l h ∙ e)

    m_same : (i : ℕ) → i < 2 → next_m i n (suc f) hear ≡ next_m i n (suc f) heard
    unfolding next_m
    m_same i l =
        let low : half_broken i (suc f) < k = omega (arith, half_broken_lem i (suc f) l) in
        frequent_same (half_cards i n) _ _
        (λ u h. rw (half_others i l u (output_place (half_broken i (suc f))) h (output_carried k _ (half_broken i (suc f)) u low)))
        (half_modulus i (suc f))

    voted_same : (i : ℕ) → i < 2 → next_vote i n (suc f) hear ≡ next_vote i n (suc f) heard
    unfolding next_vote
    voted_same i l = vote_same n _ _ (λ u h. rw (others u i h (m_carried k n f u i l))) (suc f) (half_modulus i (suc f))

    -- the king is a card of the group
    king : (d : ℕ) → d % turn (suc f) / 3 < n
    king d = omega (arith, mod-lt d {m = turn (suc f)} (omega arith))

    output_same : (u : ℕ) → u < n → output_of (suc f) c (hear u) ≡ output_of (suc f) c (heard u)
    output_same u l = rw (others u (output_place (suc f)) l (output_carried (suc k) n (suc f) u (omega arith)))

    level_same : card < n → level_next n (suc f) c hear card ≡ level_next n (suc f) c heard card
    unfolding level_next next_wait next_standing kept_d phase
    level_same l =
        rw (
          m_same 0 (omega arith),
          m_same 1 (omega arith),
          voted_same 0 (omega arith),
          voted_same 1 (omega arith),
          level_own 2 (omega arith),
          level_own 3 (omega arith),
          level_own 4 (omega arith),
          level_own 5 (omega arith),
          level_own 7 (omega arith),
          output_same card l,
          steps_same n (λ u. output_of (suc f) c (hear u)) (λ u. output_of (suc f) c (heard u)) output_same,
          king,
        )

-- the same own words of the card, and the same carried words of every card, give the same next words
group_same : (k n f c : ℕ) (hear heard : ℕ → ℕ → ℕ) (card : ℕ) → f < k → 3 * f < n → card < n
    → ((j : ℕ) → j < own_words k n f card → hear card j ≡ heard card j)
    → ((u j : ℕ) → u < n → carried k n f u j ≡ true → hear u j ≡ heard u j)
    → group_next k n f c hear card ≡ group_next k n f c heard card
unfolding group_next leaf_next own_words carried
group_same zero n f c hear heard card rounds few l own others = refl
group_same (suc k) n zero c hear heard card rounds few l own others = rw (others 0 0 (omega arith) refl)
group_same (suc k) n (suc f) c hear heard card rounds few l own others =
    let i = half_of n card in
    let less : i < 2 = half_less n card in
    let at = half_own n card l in
    ap₂ ◌++◌ (level_same k n f c hear heard card few (omega arith) own others l)
    (group_same k (half_cards i n) (half_broken i (suc f)) (half_modulus i (suc f)) (heard_in_half i n hear) (heard_in_half i n heard)
    (card - half_first i n) (omega (arith, half_broken_lem i (suc f) less)) (half_few i n (suc f) less (omega arith) few) at.1
    (λ j h. rw at.0 (own (8 + j) (omega arith)))
    (half_others k n f c hear heard card few (omega arith) own others i less))

-- a carried word is one of the card's own
carried_own : (k n f u j : ℕ) → carried k n f u j ≡ true → j < own_words k n f u
unfolding carried own_words
carried_own zero n f u j e = absurd (false≢true e)
carried_own (suc k) n zero u j e = omega (arith, eqb-true)
carried_own (suc k) n (suc f) u j e = ⊎_elim
    (λ (l : 8 ≤ j).
    let i = half_of n u in
    let h : carried k (half_cards i n) (half_broken i (suc f)) (u - half_first i n) (j - 8) ≡ true = rw (le-ltb j 8 l) at e in
    omega (arith, carried_own k (half_cards i n) (half_broken i (suc f)) (u - half_first i n) (j - 8) h))
    (λ (l : j < 8). omega arith)
    (le_or_lt 8 j)

-- A card reads all its own words and only the carried words of another card: where these are the same, so are its next words
pub same_sent : (k n f c : ℕ) (hear heard : ℕ → ℕ → ℕ) (card : ℕ) → f < k → 3 * f < n → card < n
    → ((j : ℕ) → j < own_words k n f card → hear card j ≡ heard card j)
    → ((u j : ℕ) → u < n → (u ≡ card → ⊥) → carried k n f u j ≡ true → hear u j ≡ heard u j)
    → group_next k n f c hear card ≡ group_next k n f c heard card
same_sent k n f c hear heard card rounds few l own others =
    group_same k n f c hear heard card rounds few l own
    (λ u j lu e. ⊎_elim
    (λ (t : eqb u card ≡ true). let s = eqb-true u card t in rw s (own j (rw s at (carried_own k n f u j e))))
    (λ (t : eqb u card ≡ false). others u j lu (eqb-false u card t) e)
    (cases_Bool (eqb u card)))

-- words at or beyond a card's own are never read
pub same_next : (k n f c : ℕ) (hear heard : ℕ → ℕ → ℕ) (card : ℕ) → f < k → 3 * f < n → card < n
    → ((u j : ℕ) → u < n → j < own_words k n f u → hear u j ≡ heard u j)
    → group_next k n f c hear card ≡ group_next k n f c heard card
same_next k n f c hear heard card rounds few l h =
    same_sent k n f c hear heard card rounds few l (λ j. h card j l) (λ u j lu o e. h u j lu (carried_own k n f u j e))

-- and so nothing is read but the W words of each of the n records
pub same_record : (n f c : ℕ) (hear heard : ℕ → ℕ → ℕ) (card : ℕ) → 3 * f < n → card < n
    → ((u j : ℕ) → u < n → j < record_words f → hear u j ≡ heard u j)
    → next_record n f c hear card ≡ next_record n f c heard card
unfolding next_record
same_record n f c hear heard card few l h =
    rw (same_next (suc f) n f c hear heard card (omega arith) few l
    (λ u j lu lj. h u j lu (omega (arith, own_most (suc f) n f u))))
