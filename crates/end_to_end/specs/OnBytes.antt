-- Cards that take each next record from the exported step, on bytes: what they hold and hear, and what is proved of them.
use Rattle.std.specs.Prelude.{◌≡◌, Bool, true, false, List, ℕ, ◌+◌, ◌*◌, ◌/◌, ◌%◌, ◌<◌, length, get_or}
use Rattle.rules.specs.declared.Vote.TheVariants.{Count}
use Rattle.rules.specs.Parameters.{record_words, settle_beats}
use Rattle.rules.specs.Groups.{output_place}
use Rattle.rules.specs.OneBeat.{shown_count}
use Rattle.rules.specs.Bytes.{word_at}
use Rattle.rules.specs.Refusals.{counter_refusal, step_bytes_refusal}
use Rattle.rules.specs.Calls.{step_bytes_out}
use Rattle.settle.specs.Run.{Cards}

-- the bytes of a record. RULES 10.1: "a word is two bytes"
abbrev pub record_bytes : ℕ → ℕ
record_bytes f = 2 * record_words f

-- `holds r v` is what the card v holds after r beats, `hears r v` the n records that it hears on the beat that follows, and
-- `before r v` what its output buffer has before the call, all as bytes. Nothing is said of a card that is not sound: it
-- may hold anything, and send anything to each card
pub record ByteRun (n f c : ℕ) (sound : ℕ → Bool) : Type 0 where
  pub holds : ℕ → ℕ → List ℕ
  pub hears : ℕ → ℕ → List ℕ
  pub before : ℕ → ℕ → List ℕ
  -- no sound card's call is refused
  pub accepted : (r v : ℕ) → v < n → sound v ≡ true → step_bytes_refusal n f c v (length (hears r v)) (length (before r v)) ≡ 0
  -- what a sound card hears from a sound card u, in the slot of u, is what u holds
  pub heard : (r v u : ℕ) → v < n → sound v ≡ true → u < n → sound u ≡ true
      → (j : ℕ) → j < record_bytes f → get_or (hears r v) (u * record_bytes f + j) 0 ≡ get_or (holds r u) j 0
  -- a sound card's next bytes are what the call leaves in the output buffer
  pub steps : (r v : ℕ) → v < n → sound v ≡ true → holds (r + 1) v ≡ step_bytes_out n f c v (hears r v) (before r v)

-- A record of these bytes shows the count: as the rules read it, and in the two bytes at the output's place, low byte first
pub record Shows (f c count : ℕ) (bytes : List ℕ) : Type 0 where
  pub shown : shown_count f c (word_at bytes) ≡ Count count
  pub low : get_or bytes (2 * output_place f) 0 ≡ count % 256
  pub high : get_or bytes (2 * output_place f + 1) 0 ≡ count / 256

-- From all starting bytes, whatever the broken cards send to each card, there is an x below c such that after T(f) + k beats
-- every sound card shows (x + k) modulo c
abbrev pub SettlesOnBytes : Type 0
SettlesOnBytes =
    (n f c : ℕ) (sound : ℕ → Bool) → Cards n f sound → (R : ByteRun n f c sound)
    → (x : ℕ) × (x < c)
    × ((k v : ℕ) → v < n → sound v ≡ true → Shows f c ((x + k) % c) (R.holds (settle_beats f + k) v))

-- There are such runs for all starting bytes and for all that the broken cards send: `start v` is what the card v starts with, and
-- `told r v u` what v hears from the broken card u after r beats
abbrev pub RunsFromAnyStart : Type 0
RunsFromAnyStart =
    (n f c : ℕ) (sound : ℕ → Bool) → counter_refusal n f c 0 ≡ 0 → (start : ℕ → List ℕ) (told : ℕ → ℕ → ℕ → List ℕ)
    → (R : ByteRun n f c sound)
    × ((v : ℕ) → R.holds 0 v ≡ start v)
    × ((r v u j : ℕ) → u < n → sound u ≡ false → j < record_bytes f → get_or (R.hears r v) (u * record_bytes f + j) 0
    ≡ get_or (told r v u) j 0)
