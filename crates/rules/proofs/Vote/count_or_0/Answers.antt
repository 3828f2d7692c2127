use Rattle.std.proofs.Common.{rules}
use Rattle.rules.specs.Counting.{count_or0}
use Rattle.rules.proofs.Vote.count_or_0.Goals as goal

pub returns-in-Count : goal.returns-in-Count
unfolding count_or0
returns-in-Count c = search rules

pub returns-in-None : goal.returns-in-None
unfolding count_or0
returns-in-None c = search rules
