use Rattle.std.proofs.Common.{◌≡◌, ◌≤◌, ℕ, Bool}
use Rattle.rules.specs.Counting.{count_below}
use Rattle.columns.specs.Columns.{Computes, word_in}
use Rattle.columns.proofs.Column.more_than.Given as goal

-- how many of the cards gone through say such a word: not more than `few`
abbrev pub invariant-loop-u : goal.invariant-loop-u
invariant-loop-u g l =
    (l.many ≤ l.u) × (l.many ≤ l.few)
    × ((passes : ℕ → Bool) → Computes (goal.F-post g l.test) passes
    → count_below l.u (λ (v : ℕ). passes (word_in l.self v)) ≡ l.many)
