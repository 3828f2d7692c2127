-- `lag::lag_of` meets its contract.
use Rattle.std.proofs.Common.{rules}
use Rattle.rules.specs.Lag.{lag_of, nearest}
use Rattle.rules.specs.Calls.{lag_answer}
use Rattle.lag.proofs.lag_of.Goals as goal

pub returns-then-is_err : goal.returns-then-is_err
unfolding lag_answer
returns-then-is_err c = search rules

pub returns-then-d-c : goal.returns-then-d-c
unfolding lag_answer lag_of nearest
returns-then-d-c c = search rules

pub returns-else-d-c : goal.returns-else-d-c
unfolding lag_answer lag_of nearest
returns-else-d-c c = search rules
