-- A run as it is kept, in a struct and in the caller's table, by the rules' own runs.
use Rattle.std.specs.Prelude.{ℕ, ◌≡◌, List, [], length, take, Result}
use Rattle.std.proofs.lemmas.List.Edits.{sets}
use Rattle.rules.specs.WholeBeat.{table_after}
use Rattle.rules.specs.Text.{words_at}
use Rattle.rules.specs.RunFile.{Header, header_tests, start_words, beat_words}
use Rattle.rules.specs.RunFile.{Stage, at_header, at_start, at_beat, Taken, accepted, refused, or_refused, take_line}
use Rattle.rules.specs.Refusals.{number_in, value_in}
use Rattle.rules.specs.declared.Refusal.{Refusal}
use Rattle.frames.specs.Headers.{said, kept}
use Rattle.runfile.specs.declared.Stage.{Stage as KeptStage}
use Rattle.runfile.specs.declared.Stage.TheVariants.{AtHeader, AtStart, AtBeat}
use Rattle.runfile.specs.declared.Taken.{Taken as KeptTaken}

-- where the run stands: the n records are the first words of the table
unfoldable pub stage_of : KeptStage → List ℕ → Stage
stage_of AtHeader table = at_header
stage_of (AtStart rack) table = at_start (said rack)
stage_of (AtBeat rack beat) table = at_beat (said rack) beat (take (start_words (said rack)) table)

-- the records after a beat, and after a beat line
abbrev pub records_after : Header → List ℕ → List ℕ → List ℕ
records_after h table sent = table_after h.n h.f h.c h.set (take (start_words h) table) sent

abbrev pub table_next : Header → List ℕ → List ℕ → List ℕ
table_next h table line = records_after h table (words_at line 4 (beat_words h))

-- what is kept of a run besides its records, and its records
unfoldable pub kept_of : Stage → KeptStage
kept_of at_header = AtHeader
kept_of (at_start h) = AtStart (kept h)
kept_of (at_beat h beat table) = AtBeat (kept h) beat

unfoldable pub table_of : Stage → List ℕ
table_of at_header = []
table_of (at_start h) = []
table_of (at_beat h beat table) = table

-- what line 1 was tested for
unfoldable pub kept_tests : KeptStage → ℕ
kept_tests AtHeader = 0
kept_tests (AtStart rack) = header_tests (said rack)
kept_tests (AtBeat rack beat) = header_tests (said rack)

-- the same of the rules' own run: that of a file passes, and any other is refused by its number
unfoldable pub stage_tests : Stage → ℕ
stage_tests at_header = 0
stage_tests (at_start h) = header_tests h
stage_tests (at_beat h beat table) = header_tests h

-- one line
unfoldable pub taken_line : Stage → List ℕ → Taken
taken_line stage line = or_refused (stage_tests stage) (take_line stage line)

-- the number that a line is refused by, 0 if it is accepted
unfoldable pub refusal_in : Taken → ℕ
refusal_in (accepted next text) = 0
refusal_in (refused refusal) = refusal

-- a run after a line that is refused: it stands where it stood, and nothing is written
abbrev pub stays : KeptStage → KeptTaken
stays stage = record { stage = stage; written = 0 }

-- the run after a line, if it stands at `stage` before it, and how long the text is that is written
unfoldable pub answer_of : KeptStage → Taken → KeptTaken
answer_of stage (accepted next text) = record { stage = kept_of next; written = length text }
answer_of stage (refused refusal) = stays stage

-- what a line returns
pub record Answers (stage : KeptStage) (t : Taken) (r : Result KeptTaken Refusal) : Type 0 where
  pub refusal : number_in r ≡ refusal_in t
  pub taken : value_in (stays stage) r ≡ answer_of stage t

-- what it leaves in the table, and what it writes out
unfoldable pub table_in : Taken → List ℕ
table_in (accepted next text) = table_of next
table_in (refused refusal) = []

unfoldable pub text_in : Taken → List ℕ
text_in (accepted next text) = text
text_in (refused refusal) = []

-- a line was taken: a refused one leaves both buffers as they are
pub record Takes (stage : KeptStage) (t : Taken) (table out : List ℕ) (r : Result KeptTaken Refusal)
    (table_next out_next : List ℕ) : Type 0 where
  pub answer : Answers stage t r
  pub records : table_next ≡ sets table 0 (table_in t)
  pub line : out_next ≡ sets out 0 (text_in t)
