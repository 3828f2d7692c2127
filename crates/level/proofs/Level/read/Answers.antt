use Rattle.std.proofs.Common.{arith, rules}
use borrow.Author.Tests.{ne_eqb}
use Rattle.level.proofs.Rows.{row_asked}
use Rattle.level.proofs.Level.read.Goals as goal

pub returns : goal.returns
returns c =
    let r = row_asked c.requires in
    search (rules, r.m0, r.m1, r.again, ne_eqb c.args.g.f 0 (omega (arith, c.requires.split.some)))
