use Rattle.std.proofs.Common.{arith}
use Rattle.level.proofs.Places.{outputs_within}
use Rattle.level.proofs.group.Group.common_output.Goals as goal

pub column-requires : goal.column-requires
column-requires c = rw c.output_place.ensures.0 (outputs_within c.requires.0).place

pub most_frequent-requires : goal.most_frequent-requires
most_frequent-requires c =
    rw (c.column.ensures, c.output_place.ensures.0)
    (record { within = outputs_within c.requires.0; some = omega (arith, c.requires.0.two); room = c.requires.1 })
