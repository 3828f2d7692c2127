-- Quorums: two listeners that each hear n-f cards say one thing hear the same thing.
use mathlib.Core.Path.{◌≡◌}
use mathlib.Core.Bool.{Bool, true, ◌&&◌}
use Prim.Native.Nat.{ℕ, ◌+◌, ◌≤◌, ◌<◌}
use native.Mathlib.Omega.{arith}
use borrow.Author.Tests.{leb-true, le-leb}
use Rattle.std.proofs.lemmas.Bool.{and_parts}
use Rattle.rules.specs.declared.Vote.{Vote}
use Rattle.rules.specs.Counting.{count_below, same}
use Rattle.rules.specs.OneBeat.{sent_by, enough}
use Rattle.rules.proofs.Votes.{same_true, same_eq}
use Rattle.rules.proofs.Counting.{count_mono, count_and, count_some, count_not}
use Rattle.settle.specs.Run.{Cards}

module _ (n f : ℕ) (sound : ℕ → Bool) (cards : Cards n f sound) where
  pub soundly : n ≤ count_below n sound + f
  soundly = omega (arith, count_not n sound)

  -- more than f cards: one of them is sound
  pub sound_one : (p : ℕ → Bool) → f < count_below n p → (u : ℕ) × (u < n) × (sound u ≡ true) × (p u ≡ true)
  sound_one p h =
      let r = count_some n (λ u. p u && sound u) (omega (arith, count_and n p sound, soundly)) in
      let both = and_parts (p r.0) (sound r.0) r.2 in (r.0, r.1, both.1, both.0)

  -- n-f cards pass p: more than f pass q, where each sound card that passes p passes q
  pub carry : (p q : ℕ → Bool) → n ≤ count_below n p + f
      → ((u : ℕ) → u < n → sound u ≡ true → p u ≡ true → q u ≡ true) → f < count_below n q
  carry p q h k =
      let more = count_mono n (λ u. p u && sound u) q (λ u l e. let both = and_parts (p u) (sound u) e in k u l both.1 both.0) in
      omega (arith, count_and n p sound, soundly, more)

  -- all sound cards pass p
  pub all_sound : (p : ℕ → Bool) → ((u : ℕ) → u < n → sound u ≡ true → p u ≡ true) → n ≤ count_below n p + f
  all_sound p k = omega (arith, soundly, count_mono n sound p k)

  -- two quorums share a sound card
  pub meet : (p q : ℕ → Bool) → n ≤ count_below n p + f → n ≤ count_below n q + f
      → (u : ℕ) × (u < n) × (sound u ≡ true) × (p u ≡ true) × (q u ≡ true)
  meet p q h k =
      let r = sound_one (λ u. p u && q u) (omega (arith, count_and n p q)) in
      let both = and_parts (p r.0) (q r.0) r.3 in (r.0, r.1, r.2, both.0, both.1)

  -- what n-f cards sent to v and what n-f cards sent to w is the same
  pub quorum : (x y : ℕ → Vote) (X Y : Vote)
      → ((u : ℕ) → u < n → sound u ≡ true → x u ≡ y u)
      → enough n f (sent_by n x X) ≡ true → enough n f (sent_by n y Y) ≡ true → X ≡ Y
  unfolding sent_by enough
  quorum x y X Y e h k =
      let r = meet (λ u. same (x u) X) (λ u. same (y u) Y) (leb-true n _ h) (leb-true n _ k) in
      cc (e r.0 r.1 r.2, same_true (x r.0) X r.3, same_true (y r.0) Y r.4)

  -- a value that all sound cards send is sent often enough
  pub all_enough : (heard : ℕ → Vote) (y : Vote) → ((u : ℕ) → u < n → sound u ≡ true → heard u ≡ y) → enough n f (sent_by n heard y) ≡ true
  unfolding sent_by enough
  all_enough heard y h = le-leb n _ (all_sound (λ u. same (heard u) y) (λ u l e. same_eq (heard u) y (h u l e)))
