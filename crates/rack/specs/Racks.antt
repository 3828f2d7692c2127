-- What a beat runs on, and what the table of a receiver holds.
use Rattle.std.specs.Prelude.{◌≡◌, true, false, List, ℕ, ◌+◌, ◌<◌, length, get_or}
use Rattle.rules.specs.Counting.{tabulate}
use Rattle.rules.specs.Parameters.{record_words}
use Rattle.rules.specs.Groups.{place, heard_in}
use Rattle.rules.specs.WholeBeat.{is_broken, broken_below, record_after}
use Rattle.rules.specs.Refusals.{beat_refusal}
use Rattle.rack.specs.declared.Rack.{Rack}

-- that many words of a list, from a place on
abbrev pub words_from : List ℕ → ℕ → ℕ → List ℕ
words_from from at count = tabulate count (λ (j : ℕ). get_or from (at + j) 0)

-- a beat that is not refused, by the lengths of its three lists
abbrev pub Accepted : Rack → ℕ → ℕ → ℕ → Type 0
Accepted r held sent out = beat_refusal r.counter.n r.counter.f r.counter.c r.set held sent out ≡ 0

-- the words of a record
abbrev pub size : Rack → ℕ
size r = record_words r.counter.f

-- "A sound card is heard as held" (RULES 6)
abbrev pub SoundAsHeld : Rack → List ℕ → List ℕ → Type 0
SoundAsHeld r held heard =
    (u j : ℕ) → is_broken r.set u ≡ false → j < size r → heard_in (size r) heard u j ≡ heard_in (size r) held u j

-- the receiver v hears the broken cards below the card `end` as they send: "for each receiver in order, for each
-- broken card in order, W words" (RULES 6)
abbrev pub BrokenAsSent : Rack → List ℕ → ℕ → ℕ → List ℕ → Type 0
BrokenAsSent r sent v end heard =
    (u j : ℕ) → u < end → is_broken r.set u ≡ true → j < size r
    → heard_in (size r) heard u j ≡ heard_in (size r) sent (place (broken_below r.set r.counter.n) v (broken_below r.set u)) j

-- what the record of the card v is written from: the beat is not refused, and the table of a receiver has the sound cards as
-- they are held
pub record Receives (r : Rack) (held sent heard out : List ℕ) (v : ℕ) : Type 0 where
  pub accepted : Accepted r (length held) (length sent) (length out)
  pub card_below : v < r.counter.n
  pub heard_whole : length heard ≡ length held
  pub sound : SoundAsHeld r held heard

-- the record of the card v after the beat
abbrev pub record_of : Rack → List ℕ → List ℕ → ℕ → List ℕ
record_of r held sent v = record_after r.counter.n r.counter.f r.counter.c r.set held sent v
