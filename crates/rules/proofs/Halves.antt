-- The two halves of a split group: their cards, their f, their moduli and their words.
use mathlib.Core.Path.{◌≡◌}
use mathlib.Core.Logic.{⊎_elim}
use Prim.Native.Nat.{ℕ, zero, suc, ◌+◌, ◌*◌, ◌-◌, ◌/◌, ◌≤◌, ◌<◌}
use native.Mathlib.Omega.{arith}
use borrow.Author.Tests.{lt-ltb, le-ltb}
use Rattle.rules.specs.Parameters.{record_words, c1}
use Rattle.rules.specs.Groups.{half_cards, half_first, half_broken, half_modulus, half_of}
use Rattle.rules.proofs.Tests.{le_or_lt}
use Rattle.rules.proofs.Digits.{digits_half, digits_mono}

-- what holds of half 0 and of half 1 holds of each half
pub each_half : (P : ℕ → Type 0) → P 0 → P 1 → (i : ℕ) → i < 2 → P i
each_half P p q zero l = p
each_half P p q (suc zero) l = q
each_half P p q (suc (suc i)) l = absurd (omega arith)

-- the other half
unfoldable pub other : ℕ → ℕ
other i = 1 - i

pub other_less : (i : ℕ) → other i < 2
unfolding other
other_less i = omega arith

-- a card is in half 0 or in half 1
pub half_less : (n v : ℕ) → half_of n v < 2
half_less n v = ⊎_elim
    (λ (l : n / 2 ≤ v). rw (le-ltb v (n / 2) l) (omega arith))
    (λ (l : v < n / 2). rw (lt-ltb v (n / 2) l) (omega arith))
    (le_or_lt (n / 2) v)

pub half_broken_lem : (i f : ℕ) → i < 2 → half_broken i f ≤ f / 2
half_broken_lem i f l = each_half (λ i. half_broken i f ≤ f / 2) (omega arith) (omega arith) i l

pub half_few : (i n f : ℕ) → i < 2 → 1 ≤ f → 3 * f < n → 3 * half_broken i f < half_cards i n
half_few i n f l p h = each_half (λ i. 3 * half_broken i f < half_cards i n) (omega arith) (omega arith) i l

pub half_inside : (i n u : ℕ) → i < 2 → u < half_cards i n → half_first i n + u < n
half_inside zero n u l h = omega arith
half_inside (suc zero) n u l h = omega arith
half_inside (suc (suc i)) n u l h = absurd (omega arith)

-- the cards of a half are cards of the group
pub half_ends : (i n : ℕ) → i < 2 → half_first i n + half_cards i n ≤ n
half_ends i n l = each_half (λ i. half_first i n + half_cards i n ≤ n) (omega arith) (omega arith) i l

pub half_of_lem : (i n u : ℕ) → i < 2 → u < half_cards i n → half_of n (half_first i n + u) ≡ i
half_of_lem zero n u l h = rw (lt-ltb (0 + u) (n / 2) (omega arith))
half_of_lem (suc zero) n u l h = rw (le-ltb (n / 2 + u) (n / 2) (omega arith))
half_of_lem (suc (suc i)) n u l h = absurd (omega arith)

-- a card is one of its own half's
pub half_own : (n v : ℕ) → v < n
    → let i = half_of n v in (half_first i n + (v - half_first i n) ≡ v) × (v - half_first i n < half_cards i n)
half_own n v h = ⊎_elim
    (λ (l : n / 2 ≤ v). rw (le-ltb v (n / 2) l) (omega arith))
    (λ (l : v < n / 2). rw (lt-ltb v (n / 2) l) (omega arith))
    (le_or_lt (n / 2) v)

pub half_modulus_lem : (i f : ℕ) → i < 2 → (2 ≤ half_modulus i f) × (half_modulus i f ≤ c1 f)
half_modulus_lem i f l =
    each_half (λ i. (2 ≤ half_modulus i f) × (half_modulus i f ≤ c1 f)) (omega arith) (omega arith) i l

-- a half's record fits behind the eight words of the group
pub half_words_lem : (i f : ℕ) → i < 2 → 1 ≤ f → record_words (half_broken i f) + 8 ≤ record_words f
half_words_lem i f l p =
    omega (arith, digits_half f p, digits_mono (half_broken i f) (f / 2) (half_broken_lem i f l))
