-- `take_line` meets its contract, which is that of `line_taken`. A search for a wrong stage would give up at a limit.
use Rattle.runfile.proofs.take_line.Goals as goal

pub returns : goal.returns
returns c = c.line_taken.ensures
