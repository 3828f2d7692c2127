use Rattle.std.proofs.Common.{arith}
use Rattle.level.proofs.Places.{split_place, column_within}
use Rattle.level.proofs.group.Group.word_at.Goals as goal

pub column-requires : goal.column-requires
column-requires c = split_place c.requires.split _ (omega arith)

pub said-requires : goal.said-requires
said-requires c = rw c.column.ensures (column_within c.requires.split _ (omega arith), c.requires.member)
