use Rattle.std.proofs.Common.{sym}
use Rattle.rules.proofs.Votes.{read_below, read_above}
use Rattle.rules.proofs.Vote.read.Goals as goal

pub returns-then-word-m : goal.returns-then-word-m
returns-then-word-m c = sym (read_below _ _ c.if-word-m.true)

pub returns-else-word-m : goal.returns-else-word-m
returns-else-word-m c = sym (read_above _ _ c.if-word-m.false)
