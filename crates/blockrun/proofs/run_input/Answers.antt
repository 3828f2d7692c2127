use Rattle.std.proofs.Common.{ap}
use Rattle.feed.specs.declared.Run.{Run}
use Rattle.feed.proofs.Whole.{reached_start, reached_more}
use Rattle.blockrun.proofs.run_input.Goals as goal

pub loop-init : goal.loop-init
loop-init c = reached_start _ (ap (λ (run : Run). run.feed) c.new.ensures)

pub returns-then-not-streams : goal.returns-then-not-streams
returns-then-not-streams c = reached_more _ _ _ c.loop.invariant c.run_piece.ensures

pub loop-preserved : goal.loop-preserved
loop-preserved c = reached_more _ _ _ c.loop.invariant c.run_piece.ensures
