use Rattle.std.proofs.Common.{rules}
use Rattle.rules.specs.Groups.{word_of}
use Rattle.rules.proofs.U16FromVote.from.Goals as goal

pub returns-in-Count : goal.returns-in-Count
unfolding word_of
returns-in-Count c = search rules

pub returns-in-None : goal.returns-in-None
unfolding word_of
returns-in-None c = search rules
