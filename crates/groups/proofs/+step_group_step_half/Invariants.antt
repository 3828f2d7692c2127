use Rattle.std.proofs.Common.{◌+◌}
use Rattle.groups.proofs.+step_group_step_half.Given as goal

-- f falls on each round; within a round the group comes first, then its split, then the card's half
abbrev pub decreases-step_group : goal.decreases-step_group
decreases-step_group l = l.g.f + l.g.f + l.g.f + 2

abbrev pub decreases-step_split : goal.decreases-step_split
decreases-step_split l = l.g.f + l.g.f + l.g.f + 1

abbrev pub decreases-step_half : goal.decreases-step_half
decreases-step_half l = l.g.f + l.g.f + l.g.f
