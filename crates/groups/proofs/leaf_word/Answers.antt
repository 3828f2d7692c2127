use Rattle.std.proofs.Common.{arith, rules}
use Rattle.rules.specs.OneBeat.{leaf_next}
use Rattle.level.proofs.Places.{base_within}
use Rattle.groups.proofs.leaf_word.Goals as goal

pub said-word-requires : goal.said-word-requires
said-word-requires c = rw c.column.ensures (base_within c.requires, omega (arith, c.requires.few))

pub returns : goal.returns
unfolding leaf_next
returns c = search rules
