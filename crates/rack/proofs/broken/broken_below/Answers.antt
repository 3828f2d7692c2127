-- `rack::broken::broken_below` meets its contract: the count of the cards gone through.
use Rattle.std.proofs.Common.{refl}
use native.Mathlib.Omega.{arith}
use Rattle.rules.specs.Counting.{count_below}
use Rattle.rules.specs.WholeBeat.{broken_below}
use Rattle.rack.proofs.BrokenSet.{one_broken, one_sound}
use Rattle.rack.proofs.broken.broken_below.Goals as goal

pub loop-u-init : goal.loop-u-init
unfolding broken_below count_below
loop-u-init c = (omega arith, refl)

pub loop-u-preserved : goal.loop-u-preserved
loop-u-preserved c = grind (arith, one_broken, one_sound)
