use Rattle.std.proofs.Common.{zero-add}
use Rattle.rules.specs.Text.{line_at, start_of}
use Rattle.text.proofs.line.Goals as goal

pub returns-in-None : goal.returns-in-None
unfolding line_at start_of
returns-in-None c = (rw c.in-None.ensures, rw (c.in-None.ensures, zero-add))
