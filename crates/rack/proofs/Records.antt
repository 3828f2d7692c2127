-- The record of a card after the beat, from what the card holds or hears.
use mathlib.Core.Path.{◌≡◌}
use mathlib.Core.Bool.{true, false}
use mathlib.Core.List.{List}
use Prim.Native.Nat.{ℕ, ◌*◌, ◌<◌}
use lib.ListN.{length}
use Rattle.rules.specs.WholeBeat.{is_broken, held_record, record_after}
use Rattle.rules.specs.Calls.{step_out}
use Rattle.rules.proofs.Heard.{same_record}
use Rattle.rack.specs.declared.Rack.{Rack}
use Rattle.rack.specs.Racks.{words_from, size, Accepted, SoundAsHeld, BrokenAsSent, record_of}
use Rattle.rack.proofs.Accepted.{accepted, step_passes}
use Rattle.rack.proofs.Hearing.{all_heard}

-- "Broken cards' held records stay unchanged." (RULES 6)
pub broken_record : (r : Rack) (held sent : List ℕ) (v : ℕ) → is_broken r.set v ≡ true
    → words_from held (v * size r) (size r) ≡ record_of r held sent v
unfolding record_after held_record
broken_record r held sent v e = rw e

-- a sound card's step writes its record
pub sound_record : (r : Rack) (held sent : List ℕ) (out v : ℕ) (heard before : List ℕ)
    → Accepted r (length held) (length sent) out → v < r.counter.n → is_broken r.set v ≡ false
    → length heard ≡ r.counter.n * size r → length before ≡ size r → SoundAsHeld r held heard → BrokenAsSent r sent v r.counter.n heard
    → step_out r.counter.n r.counter.f r.counter.c v heard before ≡ record_of r held sent v
unfolding step_out record_after
sound_record r held sent out v heard before a l e eh eb sound broken =
    let g = accepted r _ _ _ a in
    rw (step_passes r _ _ _ v (length heard) (length before) a l eh eb, e)
    (same_record r.counter.n r.counter.f r.counter.c _ _ v g.shape.few l (all_heard r held sent v heard sound broken))
