use Rattle.std.proofs.Common.{◌≡◌, ℕ, ◌+◌, ◌<◌, length}
use Rattle.rules.specs.declared.Vote.TheVariants.{Count}
use Rattle.rules.specs.OneBeat.{sent_by}
use Rattle.columns.specs.Columns.{votes_in}
use Rattle.columns.proofs.Tallies.{Tally}
use Rattle.columns.proofs.Column.vote_of.Given as goal

-- the tally of the cards gone through, in which nothing has had enough votes
abbrev pub invariant-loop-u : goal.invariant-loop-u
invariant-loop-u l =
    (length l.tally ≡ 128) × Tally (votes_in l.m l.self) l.m l.tally l.u
    × ((j : ℕ) → j < l.m → sent_by l.u (votes_in l.m l.self) (Count j) + l.f < l.self.n)
