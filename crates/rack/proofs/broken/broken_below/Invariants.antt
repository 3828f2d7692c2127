-- The broken cards among those gone through are counted.
use Rattle.std.proofs.Common.{◌≡◌, ◌≤◌}
use Rattle.rules.specs.WholeBeat.{broken_below}
use Rattle.rack.proofs.broken.broken_below.Given as goal

abbrev pub invariant-loop-u : goal.invariant-loop-u
invariant-loop-u l = (l.count ≤ l.u) × (l.count ≡ broken_below l.set l.u)
