-- The records of the cards gone through are written, and the table of a receiver still has the sound cards as they are held.
use Rattle.std.proofs.Common.{◌≡◌, ◌*◌, take}
use Rattle.rules.specs.Counting.{rows}
use Rattle.rack.specs.Racks.{size, SoundAsHeld, record_of}
use Rattle.rack.proofs.Rack.put_table.Given as goal

abbrev pub invariant-loop-v : goal.invariant-loop-v
invariant-loop-v l =
    (SoundAsHeld l.self l.held l.heard) × (take (l.v * size l.self) l.out ≡ rows l.v (record_of l.self l.held l.sent))
