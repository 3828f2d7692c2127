use Rattle.std.proofs.Common.{◌≡◌, length}
use Rattle.columns.specs.Columns.{votes_in}
use Rattle.columns.proofs.Tallies.{Tally, Leads}
use Rattle.columns.proofs.Column.most_frequent.Given as goal

-- the tally of the cards gone through, and the value that leads
abbrev pub invariant-loop-u : goal.invariant-loop-u
invariant-loop-u l =
    (length l.tally ≡ 128) × Tally (votes_in l.m l.self) l.m l.tally l.u × Leads (votes_in l.m l.self) l.m l.u l.best
