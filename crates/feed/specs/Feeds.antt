-- A run over a text that comes in pieces: a machine that is fed one character after the other.
use Rattle.std.specs.Prelude.{ℕ, ◌+◌, cond, List, [], ◌∷◌, ◌++◌, eqb, ltb, length}
use Rattle.rules.specs.Text.{line_feed}
use Rattle.rules.specs.RunFile.{Stage, at_header, at_start, at_beat, Taken, accepted, refused, at_end, refusal_line}
use Rattle.runfile.specs.Runs.{taken_line}

-- the number of the line that a run waits for. RULES 10.3: "Lines are counted from 1."
unfoldable pub line_of : Stage → ℕ
line_of at_header = 1
line_of (at_start h) = 2
line_of (at_beat h beat table) = beat + 3

-- between two characters: where the run stands, what is held of the unfinished line, and what was written;
-- or a line was refused, and nothing more is written
pub data Machine : Type 0 where
  reading : Stage → List ℕ → List ℕ → Machine
  stopped : List ℕ → Machine

-- as much as is held of a line: one character more than the longest line has, which is 4, and 4 for each of 16·5·25 words
abbrev pub longest : ℕ
longest = 8005

-- one character more of the line
unfoldable pub with_more : List ℕ → ℕ → List ℕ
with_more held ch = cond (ltb (length held) longest) (held ++ (ch ∷ [])) held

unfoldable pub after_line : Stage → List ℕ → Taken → Machine
after_line stage written (accepted next text) = reading next [] (written ++ text)
after_line stage written (refused refusal) = stopped (written ++ refusal_line (line_of stage) refusal)

-- the line is at its end
unfoldable pub ended : Stage → List ℕ → List ℕ → Machine
ended stage held written = after_line stage written (taken_line stage held)

-- one character
unfoldable pub fed_byte : Machine → ℕ → Machine
fed_byte (reading stage held written) ch =
    cond (eqb ch line_feed) (ended stage held written) (reading stage (with_more held ch) written)
fed_byte (stopped written) ch = stopped written

-- a piece
unfoldable pub fed : Machine → List ℕ → Machine
fed feed [] = feed
fed feed (ch ∷ rest) = fed (fed_byte feed ch) rest

-- The input is at its end. RULES 10.3: "What follows the last line feed is a line only if it has a character."
unfoldable pub last_fed : Machine → Machine
last_fed (reading stage [] written) = reading stage [] written
last_fed (reading stage (ch ∷ held) written) = ended stage (ch ∷ held) written
last_fed (stopped written) = stopped written

unfoldable pub all_written : Machine → List ℕ
all_written (reading stage held written) = written ++ at_end (line_of stage) stage
all_written (stopped written) = written

unfoldable pub finished : Machine → List ℕ
finished feed = all_written (last_fed feed)

-- nothing is read
abbrev pub start : Machine
start = reading at_header [] []

-- the pieces of a text, put together
unfoldable pub joined : List (List ℕ) → List ℕ
joined [] = []
joined (piece ∷ others) = piece ++ joined others
