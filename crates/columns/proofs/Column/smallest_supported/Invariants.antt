use Rattle.std.proofs.Common.{ℕ, ◌<◌, ◌≤◌}
use Rattle.rules.specs.declared.Vote.TheVariants.{Count}
use Rattle.rules.specs.OneBeat.{sent_by}
use Rattle.columns.specs.Columns.{votes_in, word_in}
use Rattle.columns.proofs.Column.smallest_supported.Given as goal

-- of what the cards gone through sent, nothing below the best so far is supported
abbrev pub invariant-loop-u : goal.invariant-loop-u
invariant-loop-u l =
    (l.best ≤ l.c) × (l.best < l.c → l.f < sent_by l.self.n (votes_in l.c l.self) (Count l.best))
    × ((v : ℕ) → v < l.u → word_in l.self v < l.best → sent_by l.self.n (votes_in l.c l.self) (Count (word_in l.self v)) ≤ l.f)
