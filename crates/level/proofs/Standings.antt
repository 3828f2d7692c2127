-- The a and b of a split group after a beat, put together from the step that was taken.
use mathlib.Core.Path.{◌≡◌}
use Prim.Native.Nat.{ℕ, ◌≤◌}
use native.Mathlib.Omega.{arith}
use borrow.Author.Tests.{ne_eqb}
use Rattle.rules.specs.declared.Vote.{Vote}
use Rattle.rules.specs.Groups.{half_of, read_vote, output_of, kept_b}
use Rattle.rules.specs.OneBeat.{Standing, phase, three_steps, gained, kept_d, next_standing}

pub stand_is : (n f c : ℕ) (hear : ℕ → ℕ → ℕ) (card d : ℕ) (a : Vote) (s : Standing) → 1 ≤ f
    → d ≡ phase (half_of n card) f (kept_d 0 f (hear card)) (kept_d 1 f (hear card))
    → s ≡ three_steps n f c (λ (u : ℕ). read_vote c (hear u 6)) d (record { a = output_of f c (hear card); b = kept_b (hear card) })
    → a ≡ gained c s.a → ◌≡◌ {A = Standing} (record { a = a; b = s.b }) (next_standing n f c hear card)
unfolding next_standing
stand_is n f c hear card d a s l ed es ea = rw ea (rw es (rw ed (simp (ne_eqb f 0 (omega arith)))))
