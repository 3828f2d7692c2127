-- `rack::broken::is_broken` meets its contract.
use Rattle.std.proofs.Common.{rules}
use Rattle.rules.specs.WholeBeat.{is_broken}
use Rattle.rack.proofs.broken.is_broken.Goals as goal

pub returns : goal.returns
unfolding is_broken
returns c = search rules
