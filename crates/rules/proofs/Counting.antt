-- Laws of counting the cards below n that pass a test, and of the smallest number that passes one.
use mathlib.Core.Path.{◌≡◌, refl, sym, ◌∙◌}
use mathlib.Core.Logic.{⊎_elim}
use mathlib.Core.Bool.{Bool, true, false, cond, ◌&&◌, not, true≢false, false≢true}
use Prim.Native.Nat.{ℕ, zero, suc, ◌+◌, ◌≤◌, ◌<◌}
use native.Mathlib.Nat.{add-zero, eq-or-lt_of_le}
use native.Mathlib.Numerals.{add-one}
use native.Mathlib.Omega.{arith}
use borrow.Author.Count.{below_more}
use Rattle.std.proofs.lemmas.Bool.{and_parts}
use Rattle.rules.specs.declared.Vote.TheVariants.{Count, None}
use Rattle.rules.specs.Counting.{count_below, largest_below, or_else, least}

-- one card more
pub count_yes : (n : ℕ) (p : ℕ → Bool) → p n ≡ true → count_below (n + 1) p ≡ count_below n p + 1
unfolding count_below
count_yes n p e = rw (add-one n, e)

pub count_no : (n : ℕ) (p : ℕ → Bool) → p n ≡ false → count_below (n + 1) p ≡ count_below n p
unfolding count_below
count_no n p e = rw (add-one, e, add-zero)

bit_le : (s t : Bool) → (s ≡ true → t ≡ true) → cond s 1 0 ≤ cond t 1 0
bit_le true true h = omega arith
bit_le true false h = absurd (false≢true (h refl))
bit_le false true h = omega arith
bit_le false false h = omega arith

-- more cards pass a weaker test
pub count_mono : (n : ℕ) (p q : ℕ → Bool) → ((u : ℕ) → u < n → p u ≡ true → q u ≡ true) → count_below n p ≤ count_below n q
unfolding count_below
count_mono zero p q h = omega arith
count_mono (suc n) p q h = omega (arith, bit_le (p n) (q n) (h n (omega arith)), count_mono n p q (λ u l. h u (omega arith)))

-- only the cards below n matter
pub count_same : (n : ℕ) (p q : ℕ → Bool) → ((u : ℕ) → u < n → p u ≡ q u) → count_below n p ≡ count_below n q
unfolding count_below
count_same zero p q h = refl
count_same (suc n) p q h = rw (count_same n p q (λ u l. h u (omega arith)), h n (omega arith))

bit_and : (s t : Bool) → cond s 1 0 + cond t 1 0 ≤ 1 + cond (s && t) 1 0
bit_and true true = omega arith
bit_and true false = omega arith
bit_and false true = omega arith
bit_and false false = omega arith

-- the cards that pass both tests
pub count_and : (n : ℕ) (p q : ℕ → Bool) → count_below n p + count_below n q ≤ n + count_below n (λ u. p u && q u)
unfolding count_below
count_and zero p q = omega arith
count_and (suc n) p q = omega (arith, bit_and (p n) (q n), count_and n p q)

-- a count that is not 0 has a witness
pub count_some : (n : ℕ) (p : ℕ → Bool) → 0 < count_below n p → (u : ℕ) × (u < n) × (p u ≡ true)
unfolding count_below
count_some zero p h = absurd (omega arith)
count_some (suc n) p h = go (p n) refl (count_some n p)
  where
    go : (t : Bool) → p n ≡ t → (0 < count_below n p → (u : ℕ) × (u < n) × (p u ≡ true)) → (u : ℕ) × (u < suc n) × (p u ≡ true)
    go true e ih = (n, omega arith, e)
    go false e ih = let k : 0 < count_below n p + 0 = rw e at h in let r = ih (omega arith) in (r.0, omega arith, r.2)

-- and a witness makes it so
pub count_pos : (n : ℕ) (p : ℕ → Bool) (u : ℕ) → u < n → p u ≡ true → 0 < count_below n p
unfolding count_below
count_pos zero p u l e = absurd (omega arith)
count_pos (suc n) p u l e = ⊎_elim
    (λ (a : u ≡ n). let b : p n ≡ true = rw a at e in rw b (omega arith))
    (λ (a : u < n). omega (arith, count_pos n p u a e))
    (eq-or-lt_of_le (omega arith))

bit_not : (t : Bool) → cond t 1 0 + cond (not t) 1 0 ≡ 1
bit_not true = refl
bit_not false = refl

-- a test and its opposite
pub count_not : (n : ℕ) (p : ℕ → Bool) → count_below n p + count_below n (λ u. not (p u)) ≡ n
unfolding count_below
count_not zero p = omega arith
count_not (suc n) p = omega (arith, bit_not (p n), count_not n p)

pub count_le : (n : ℕ) (p : ℕ → Bool) → count_below n p ≤ n
count_le n p = omega (arith, count_not n p)

-- tests that no card passes both
pub count_apart : (n : ℕ) (p q : ℕ → Bool) → ((u : ℕ) → p u ≡ true → q u ≡ true → ⊥) → count_below n p + count_below n q ≤ n
count_apart n p q h =
    let z : ¬ (0 < count_below n (λ u. p u && q u)) = λ l.
    let r = count_some n (λ u. p u && q u) l in let both = and_parts (p r.0) (q r.0) r.2 in h r.0 both.0 both.1 in
    omega (arith, count_and n p q)

-- a range is split in two
pub count_split : (m n : ℕ) (p : ℕ → Bool) → count_below (m + n) p ≡ count_below m p + count_below n (λ u. p (m + u))
unfolding count_below
count_split m zero p = rw (add-zero m, add-zero (count_below m p))
count_split m (suc n) p =
    let e : m + suc n ≡ suc (m + n) = omega arith in
    rw e (omega (arith, count_split m n p))

-- What a search finds: nothing passes, or i passes and nothing smaller does
pub data Search (n : ℕ) (p : ℕ → Bool) : Type 0 where
  nothing : least n p ≡ None → ((j : ℕ) → j < n → p j ≡ false) → Search n p
  found : (i : ℕ) → least n p ≡ Count i → i < n → p i ≡ true → ((j : ℕ) → j < i → p j ≡ false) → Search n p

pub search_least : (n : ℕ) (p : ℕ → Bool) → Search n p
unfolding least or_else
search_least zero p = nothing refl (λ j l. absurd (omega arith))
search_least (suc n) p = go (search_least n p) (p n) refl
  where
    go : Search n p → (t : Bool) → p n ≡ t → Search (suc n) p
    go (found i e l q h) t k = found i (rw e) (omega arith) q h
    go (nothing e h) true k = found n (rw (e, k)) (omega arith) k h
    go (nothing e h) false k =
        nothing (rw (e, k)) (λ j l. below_more (λ (j : ℕ). p j ≡ false) n h k j (omega arith))

-- what was found lies below n and passes, and nothing smaller passes
pub least_is : (n : ℕ) (p : ℕ → Bool) (i : ℕ) → least n p ≡ Count i → (i < n) × (p i ≡ true) × ((j : ℕ) → j < i → p j ≡ false)
least_is n p i e = go (search_least n p)
  where
    go : Search n p → (i < n) × (p i ≡ true) × ((j : ℕ) → j < i → p j ≡ false)
    go (nothing z h) = let y : ◌≡◌ {A = ℕ} 0 1 = cc in absurd (omega arith)
    go (found j z l q h) = let s : j ≡ i = cc in rw (← s) (l, q, h)

-- where i passes and nothing smaller does, i is found
pub least_at : (n : ℕ) (p : ℕ → Bool) (i : ℕ) → i < n → p i ≡ true → ((j : ℕ) → j < i → p j ≡ false) → least n p ≡ Count i
least_at n p i l q h = go (search_least n p)
  where
    go : Search n p → least n p ≡ Count i
    go (nothing z k) = absurd (true≢false (sym q ∙ k i l))
    go (found j z lj qj hj) =
        let a : ¬ (i < j) = λ e. true≢false (sym q ∙ hj i e) in
        let b : ¬ (j < i) = λ e. true≢false (sym qj ∙ h j e) in
        let s : i ≡ j = omega arith in
        rw s z

-- where nothing passes, nothing is found
pub least_none : (n : ℕ) (p : ℕ → Bool) → ((j : ℕ) → j < n → p j ≡ false) → least n p ≡ None
least_none n p h = go (search_least n p)
  where
    go : Search n p → least n p ≡ None
    go (nothing e k) = e
    go (found i e l q k) = absurd (true≢false (sym q ∙ h i l))

-- what passes is not passed over
pub least_some : (n : ℕ) (p : ℕ → Bool) (i : ℕ) → i < n → p i ≡ true → (j : ℕ) × (least n p ≡ Count j)
least_some n p i l q = go (search_least n p)
  where
    go : Search n p → (j : ℕ) × (least n p ≡ Count j)
    go (nothing e h) = absurd (true≢false (sym q ∙ h i l))
    go (found j e lj qj h) = (j, e)

-- only the tests below n matter
pub least_same : (n : ℕ) (p q : ℕ → Bool) → ((j : ℕ) → j < n → p j ≡ q j) → least n p ≡ least n q
unfolding least
least_same zero p q h = refl
least_same (suc n) p q h = rw (least_same n p q (λ j l. h j (omega arith)), h n (omega arith))

-- the largest is one of them, and none is larger
pub largest_le : (n : ℕ) (g : ℕ → ℕ) (j : ℕ) → j < n → g j ≤ largest_below n g
unfolding largest_below
largest_le zero g j l = absurd (omega arith)
largest_le (suc n) g j l = ⊎_elim
    (λ (a : j ≡ n). rw a (omega arith))
    (λ (a : j < n). omega (arith, largest_le n g j a))
    (eq-or-lt_of_le (omega arith))

pub largest_least : (n : ℕ) (g : ℕ → ℕ) (most : ℕ) → ((j : ℕ) → j < n → g j ≤ most) → largest_below n g ≤ most
unfolding largest_below
largest_least zero g most h = omega arith
largest_least (suc n) g most h = omega (arith, h n (omega arith), largest_least n g most (λ j l. h j (omega arith)))
