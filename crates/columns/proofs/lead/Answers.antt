use Rattle.std.proofs.Common.{arith}
use Rattle.std.proofs.lemmas.Grind.{common_steps}
use Rattle.columns.specs.Columns.{leader}
use Rattle.columns.proofs.lead.Goals as goal

pub returns-then-most-t : goal.returns-then-most-t
unfolding leader
returns-then-most-t c = grind (arith, common_steps)

pub returns-then-t-most : goal.returns-then-t-most
unfolding leader
returns-then-t-most c = grind (arith, common_steps)

pub returns-else-t-most : goal.returns-else-t-most
unfolding leader
returns-else-t-most c = grind (arith, common_steps)
