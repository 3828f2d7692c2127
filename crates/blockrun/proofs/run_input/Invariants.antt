-- Each round feeds one piece more.
use Rattle.feed.specs.Calls.{Reached}
use Rattle.blockrun.proofs.run_input.Given as goal

abbrev pub invariant-loop : goal.invariant-loop
invariant-loop l = Reached l.run
