-- `rack::broken::set_refused` meets its contract.
use Rattle.std.proofs.Common.{rules}
use Rattle.rules.specs.WholeBeat.{bad_set}
use Rattle.rack.proofs.BrokenSet.{beyond, within}
use Rattle.rack.proofs.broken.set_refused.Goals as goal

pub returns-then-set-n-ne0 : goal.returns-then-set-n-ne0
unfolding bad_set
returns-then-set-n-ne0 c = search (rules, beyond)

pub returns-else-set-n-ne0 : goal.returns-else-set-n-ne0
unfolding bad_set
returns-else-set-n-ne0 c = search (rules, within)
