-- What is proved of the run program's output: from beat T(f) on its lines show one count.
use Rattle.std.specs.Prelude.{◌≡◌, Bool, true, false, List, [], ◌∷◌, ℕ, ◌+◌, ◌*◌, ◌%◌, ◌<◌, length, get_or}
use Rattle.rules.specs.Parameters.{none_word, settle_beats}
use Rattle.rules.specs.WholeBeat.{is_broken}
use Rattle.rules.specs.Text.{number_at, well_formed, lines_of, line_at}
use Rattle.rules.specs.RunFile.{Header, header_of, header_refusal, frame_digits, beat_of}
use Rattle.rules.specs.RunFile.{Stage, at_header, at_start, at_beat, Taken, accepted, refused, take_line, run_text}

-- what line 1 says
abbrev pub header : List ℕ → Header
header text = header_of (line_at 1 text)

-- the lines that the run program writes for a run file, and the one for a beat: the first one is for beat 0
abbrev pub lines_written : List ℕ → List (List ℕ)
lines_written text = lines_of (run_text text)

abbrev pub line_on : List ℕ → ℕ → List ℕ
line_on text beat = get_or (lines_written text) beat []

-- the word of the card v on such a line, after the beat
abbrev pub card_word : List ℕ → ℕ → ℕ
card_word line v = number_at line (4 + 4 * v) 4

-- the line has the beat and a word for each of the n cards: of a sound one the count, of a broken one ffff
pub record Shows (h : Header) (beat count : ℕ) (line : List ℕ) : Type 0 where
  pub formed : well_formed (frame_digits h.n) line ≡ true
  pub on_beat : beat_of line ≡ beat
  pub sound : (v : ℕ) → v < h.n → is_broken h.set v ≡ false → card_word line v ≡ count
  pub broken : (v : ℕ) → v < h.n → is_broken h.set v ≡ true → card_word line v ≡ none_word

-- the beat T(f) + k, and that the line for it shows (x + k) modulo c
abbrev pub settled_beat : List ℕ → ℕ → ℕ
settled_beat text k = settle_beats (header text).f + k

abbrev pub Counts : List ℕ → ℕ → ℕ → Type 0
Counts text x k = Shows (header text) (settled_beat text k) ((x + k) % (header text).c) (line_on text (settled_beat text k))

-- For every run file whose line 1 is good, whatever its cards start with and its broken cards send, there is an x below c such
-- that the line for the beat T(f) + k, if there is one and it is not a refusal's (ffff), shows (x + k) modulo c
abbrev pub SettlesInFiles : Type 0
SettlesInFiles =
    (text : List ℕ) → header_refusal (line_at 1 text) ≡ 0
    → (x : ℕ) × (x < (header text).c)
    × ((k : ℕ) → settled_beat text k < length (lines_written text)
    → (beat_of (line_on text (settled_beat text k)) ≡ none_word → ⊥) → Counts text x k)

-- the line is accepted, and so are the others
unfoldable pub and_others : Taken → (Stage → Bool) → Bool
and_others (accepted stage written) others = others stage
and_others (refused refusal) others = false

-- RULES 11.5: "If line 1 or line 2 is missing, its number is given with 10."; RULES 11.3: "The file may end after line 2 or after any
-- later line."
unfoldable pub may_end : Stage → Bool
may_end at_header = false
may_end (at_start h) = false
may_end (at_beat h beat table) = true

unfoldable pub accepted_from : List (List ℕ) → Stage → Bool
accepted_from [] stage = may_end stage
accepted_from (line ∷ others) stage = and_others (take_line stage line) (accepted_from others)

-- a run file that is accepted to its end: lines 1 and 2 are there, and no line is refused
unfoldable pub accepted_file : List ℕ → Bool
accepted_file text = accepted_from (lines_of text) at_header

-- For such a file one line is written for each of its lines but the first, and all from beat T(f) on show (x + k) modulo c
abbrev pub SettlesInAcceptedFiles : Type 0
SettlesInAcceptedFiles =
    (text : List ℕ) → accepted_file text ≡ true
    → (length (lines_written text) + 1 ≡ length (lines_of text))
    × ((x : ℕ) × (x < (header text).c) × ((k : ℕ) → settled_beat text k < length (lines_written text) → Counts text x k))
