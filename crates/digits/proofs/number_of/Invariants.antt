use Rattle.std.proofs.Common.{◌≡◌}
use Rattle.rules.specs.Text.{number_at}
use Rattle.digits.proofs.number_of.Given as goal

abbrev pub invariant-loop-ch : goal.invariant-loop-ch
invariant-loop-ch l = l.number ≡ number_at l.digits 0 l.ch-index
