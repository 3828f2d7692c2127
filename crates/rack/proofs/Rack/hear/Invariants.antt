-- The broken cards gone through are heard as they send, and the sound cards as before; and what is copied next is where it should be.
use Rattle.std.proofs.Common.{◌≡◌, ◌<◌, ◌≤◌, true, length}
use Rattle.rules.specs.WholeBeat.{is_broken, broken_below}
use Rattle.rack.specs.Racks.{SoundAsHeld, BrokenAsSent}
use Rattle.rack.proofs.Accepted.{HearFits}
use Rattle.rack.proofs.Rack.hear.Given as goal

abbrev pub invariant-loop-u : goal.invariant-loop-u
invariant-loop-u l =
    (l.k ≡ broken_below l.self.set l.u) × (l.k ≤ l.u)
    × (l.u < l.n → is_broken l.self.set l.u ≡ true → HearFits (length l.initial.heard) (length l.sent) l.v l.u l.k l.w l.count)
    × (SoundAsHeld l.self l.initial.heard l.heard) × (BrokenAsSent l.self l.sent l.v l.u l.heard)
