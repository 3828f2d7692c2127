-- Until when a group has settled, by its halves; and that one half has at most its own f broken.
use mathlib.Core.Path.{◌≡◌, refl, sym}
use mathlib.Core.Logic.{⊎_elim}
use mathlib.Core.Bool.{Bool, not}
use Prim.Native.Nat.{ℕ, zero, suc, ◌+◌, ◌*◌, ◌-◌, ◌/◌, ◌≤◌, ◌<◌}
use native.Mathlib.Nat.{zero-add}
use native.Mathlib.Omega.{arith}
use lib.Arith.{half_le}
use Rattle.rules.specs.Counting.{count_below}
use Rattle.rules.specs.Parameters.{turn, beats_in, settle_beats}
use Rattle.rules.specs.Groups.{half_cards, half_first, half_broken}
use Rattle.rules.proofs.Tests.{le_or_lt}
use Rattle.rules.proofs.Counting.{count_split}
use Rattle.rules.proofs.Halves.{half_few}
use Rattle.settle.specs.Run.{Cards}

no_more : (k : ℕ) → beats_in k 0 ≡ 1
unfolding beats_in
no_more zero = refl
no_more (suc k) = refl

-- any number of rounds that is enough gives the same
rounds : (m k f : ℕ) → f ≤ m → f ≤ k → beats_in m f ≡ beats_in k f
unfolding beats_in
rounds zero k zero l h = sym (no_more k)
rounds zero k (suc f) l h = absurd (omega arith)
rounds (suc m) k zero l h = sym (no_more k)
rounds (suc m) zero (suc f) l h = absurd (omega arith)
rounds (suc m) (suc k) (suc f) l h = omega (arith, rounds m k (suc f / 2) (half_le l) (half_le h))

-- T(0) = 1, and T(f) = T(f/2) + 2 + 21t
pub beats_none : settle_beats 0 ≡ 1
unfolding settle_beats beats_in
beats_none = refl

pub beats_split : (f : ℕ) → 1 ≤ f → settle_beats f ≡ settle_beats (f / 2) + 2 + 21 * turn f
unfolding settle_beats beats_in
beats_split zero p = absurd (omega arith)
beats_split (suc f) p = omega (arith, rounds f (suc f / 2) (suc f / 2) (omega arith) (omega arith))

mono : (m a b : ℕ) → a ≤ b → beats_in m a ≤ beats_in m b
unfolding beats_in
mono zero a b l = omega arith
mono (suc m) zero zero l = omega arith
mono (suc m) zero (suc b) l = omega arith
mono (suc m) (suc a) zero l = absurd (omega arith)
mono (suc m) (suc a) (suc b) l = omega (arith, mono m (suc a / 2) (suc b / 2) (omega arith))

pub beats_mono : (a b : ℕ) → a ≤ b → settle_beats a ≤ settle_beats b
unfolding settle_beats
beats_mono a b l = omega (arith, rounds a b a (omega arith) l, mono b a b l)

-- the sound cards of a half
abbrev pub half_sound : ℕ → ℕ → (ℕ → Bool) → ℕ → Bool
half_sound i n sound u = sound (half_first i n + u)

-- one of the halves has at most its own f broken: f0 + f1 + 1 = f
pub one_half : (n f : ℕ) (sound : ℕ → Bool) → Cards n f sound → 1 ≤ f
    → (i : ℕ) × (i < 2) × Cards (half_cards i n) (half_broken i f) (half_sound i n sound)
one_half n f sound cards p =
    let whole : n / 2 + (n - n / 2) ≡ n = omega arith in
    let both : count_below n (λ u. not (sound u))
    ≡ count_below (n / 2) (λ u. not (sound u)) + count_below (n - n / 2) (λ u. not (sound (n / 2 + u))) =
    rw whole at (count_split (n / 2) (n - n / 2) (λ u. not (sound u))) in
    ⊎_elim
    (λ (l : count_below (n / 2) (λ u. not (sound u)) ≤ (f - 1) / 2).
    (0, omega arith, record { few = half_few 0 n f (omega arith) p cards.few; broken = simp zero-add l }))
    (λ (l : (f - 1) / 2 < count_below (n / 2) (λ u. not (sound u))).
    (1, omega arith, record { few = half_few 1 n f (omega arith) p cards.few; broken = omega arith }))
    (le_or_lt (count_below (n / 2) (λ u. not (sound u))) ((f - 1) / 2))
