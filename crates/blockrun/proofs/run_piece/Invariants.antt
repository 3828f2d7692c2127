-- What is left of the piece brings the run to where the whole piece does. Each part that is fed has a character, so the loop ends.
use Rattle.std.proofs.Common.{◌≡◌, ◌-◌, length, drop}
use Rattle.feed.specs.Feeds.{fed}
use Rattle.feed.specs.Calls.{machine_of, going_on}
use Rattle.blockrun.proofs.run_piece.Given as goal

abbrev pub invariant-loop-at : goal.invariant-loop-at
invariant-loop-at l = going_on (fed (machine_of l.run) (drop l.at l.piece)) ≡ going_on (fed (machine_of l.fn.run) l.piece)

abbrev pub decreases-loop-at : goal.decreases-loop-at
decreases-loop-at l = length l.piece - l.at
