-- What the calls on pieces do: the machine as it is kept, in a struct and in the caller's buffers.
use Rattle.std.specs.Prelude.{ℕ, ◌+◌, ◌-◌, ◌≤◌, min, ◌≡◌, List, [], ◌∷◌, ◌++◌, length, take, drop}
use Rattle.std.proofs.lemmas.List.Edits.{sets}
use Rattle.rules.specs.RunFile.{refusal_line}
use Rattle.text.specs.Lines.{end_from}
use Rattle.runfile.specs.declared.Stage.{Stage as KeptStage}
use Rattle.runfile.specs.declared.Stage.TheVariants.{AtHeader, AtStart, AtBeat}
use Rattle.runfile.specs.Runs.{stage_of, kept_of, table_of}
use Rattle.feed.specs.declared.Feed.{Feed}
use Rattle.feed.specs.declared.Feed.TheVariants.{Reading, Stopped}
use Rattle.feed.specs.declared.Run.{Run}
use Rattle.feed.specs.declared.Fed.{Fed}
use Rattle.feed.specs.declared.Ended.{Ended}
use Rattle.feed.specs.Feeds.{Machine, reading, stopped, longest, fed, last_fed, finished, start, joined}

-- the number of the line that a run waits for
abbrev pub line_number : KeptStage → ℕ
line_number AtHeader = 1
line_number (AtStart h) = 2
line_number (AtBeat h beat) = beat + 3

-- where the machine stands; what was written before is no longer known
unfoldable pub machine_at : Feed → List ℕ → List ℕ → Machine
machine_at (Reading stage held) line table = reading (stage_of stage table) (take held line) []
machine_at Stopped line table = stopped []

abbrev pub machine_of : Run → Machine
machine_of run = machine_at run.feed run.line run.table

-- what is kept of it besides the buffers, its records, and what it has written
unfoldable pub kept_feed : Machine → Feed
kept_feed (reading stage held written) = Reading (kept_of stage) (length held)
kept_feed (stopped written) = Stopped

unfoldable pub records_of : Machine → List ℕ
records_of (reading stage held written) = table_of stage
records_of (stopped written) = []

unfoldable pub written_by : Machine → List ℕ
written_by (reading stage held written) = written
written_by (stopped written) = written

-- the same with nothing written
unfoldable pub going_on : Machine → Machine
going_on (reading stage held written) = reading stage held []
going_on (stopped written) = stopped []

-- the buffer of the line, with a part added to what it holds
abbrev pub held_with : List ℕ → ℕ → List ℕ → List ℕ
held_with line held part = sets line (min held longest) (take (longest - min held longest) part)

-- a part is held
pub record Holds (line : List ℕ) (held : ℕ) (part : List ℕ) (r : ℕ) (line_next : List ℕ) : Type 0 where
  pub count : r ≡ length (take longest (take held line ++ part))
  pub room : r ≤ longest
  pub kept : line_next ≡ held_with line held part
  pub whole : take r line_next ≡ take longest (take held line ++ part)

-- the longest output line: 4 digits, 4 for each of 16 cards, and a line feed
abbrev pub most_written : ℕ
most_written = 69

-- The machine stands at m: what is returned, and what the run is then. From there it goes on as m does.
pub record Stands (m : Machine) (written : ℕ) (table out : List ℕ) (run_next : Run) (out_next : List ℕ) : Type 0 where
  pub feed_is : run_next.feed ≡ kept_feed m
  pub written_is : written ≡ length (written_by m)
  pub short : written ≤ most_written
  pub records : run_next.table ≡ sets table 0 (records_of m)
  pub text : out_next ≡ sets out 0 (written_by m)
  pub goes_on : machine_of run_next ≡ going_on m

-- a line is at its end, whatever stays behind of it in its buffer
abbrev pub Ends : Machine → List ℕ → List ℕ → Ended → List ℕ → List ℕ → Type 0
Ends m table out r table_next out_next =
    (line : List ℕ) → Stands m r.written table out (record { feed = r.feed; line = line; table = table_next }) out_next

-- a place of a piece, and from there the part up to a line's end: with its line feed, if it has one
abbrev pub place_in : List ℕ → ℕ → ℕ
place_in piece at = min at (length piece)

abbrev pub next_of : List ℕ → ℕ → ℕ
next_of piece end = min (end + 1) (length piece)

abbrev pub part_to : List ℕ → ℕ → ℕ → List ℕ
part_to piece from end = take (next_of piece end - from) (drop from piece)

abbrev pub line_end : List ℕ → ℕ → ℕ
line_end piece at = end_from piece (place_in piece at)

-- what is fed of a piece from a place on
abbrev pub part_from : List ℕ → ℕ → List ℕ
part_from piece at = part_to piece (place_in piece at) (line_end piece at)

-- the buffer of the line when a piece was fed from a place on
unfoldable pub line_after : Feed → List ℕ → ℕ → List ℕ → List ℕ
line_after (Reading stage held) piece at line =
    held_with line held (take (line_end piece at - place_in piece at) (drop (place_in piece at) piece))
line_after Stopped piece at line = line

-- a part of a piece is fed
pub record Feeds (run : Run) (piece : List ℕ) (at : ℕ) (out : List ℕ) (r : Fed) (run_next : Run) (out_next : List ℕ) : Type 0 where
  pub next : r.next ≡ next_of piece (line_end piece at)
  pub held : run_next.line ≡ line_after run.feed piece at run.line
  pub stands : Stands (fed (machine_of run) (part_from piece at)) r.written run.table out run_next out_next

-- what is written when no more lines come
abbrev pub missing : KeptStage → List ℕ
missing AtHeader = refusal_line 1 10
missing (AtStart h) = refusal_line 2 10
missing (AtBeat h beat) = []

-- the input is at its end: the records of its last line are in the table, and nothing else of the run changes
pub record Finishes (run : Run) (out : List ℕ) (r : ℕ) (run_next : Run) (out_next : List ℕ) : Type 0 where
  pub written : r ≡ length (finished (machine_of run))
  pub short : r ≤ most_written
  pub feed_stays : run_next.feed ≡ run.feed
  pub line_stays : run_next.line ≡ run.line
  pub records : run_next.table ≡ sets run.table 0 (records_of (last_fed (machine_of run)))
  pub text : out_next ≡ sets out 0 (finished (machine_of run))

-- What the calls on pieces write, as their contracts have it: the calls that a caller makes from some point on, to the end of the
-- input. It holds `run`, as the last call left it. What is left of the input is `pieces`, the first of them from its place `at` on. A call
-- is lent a buffer `out`, and writes as much of it as it returns; the next call goes on from the place that it returns, with the run as
-- it left it. `text` is all that is written, put together.
pub data CallsWrite : (run : Run) (at : ℕ) (pieces : List (List ℕ)) (text : List ℕ) → Type 0 where
  -- `feed_from` on the first piece, from the place on
  feeds : {run run_next : Run} {piece out out_next text : List ℕ} {at : ℕ} {others : List (List ℕ)} {r : Fed}
      → length out ≡ most_written → Feeds run piece at out r run_next out_next → CallsWrite run_next r.next (piece ∷ others) text
      → CallsWrite run at (piece ∷ others) (take r.written out_next ++ text)
  -- the first piece is at its end: the next one is fed from its place 0 on
  turns : {run : Run} {piece text : List ℕ} {at : ℕ} {others : List (List ℕ)}
      → length piece ≤ at → CallsWrite run 0 others text → CallsWrite run at (piece ∷ others) text
  -- a line was refused: what is left need not be fed
  leaves : {run : Run} {text : List ℕ} {at : ℕ} {pieces : List (List ℕ)}
      → run.feed ≡ Stopped → CallsWrite run 0 [] text → CallsWrite run at pieces text
  -- no piece is left: `finish`
  finishes : {run run_next : Run} {out out_next : List ℕ} {at r : ℕ}
      → length out ≡ most_written → Finishes run out r run_next out_next → CallsWrite run at [] (take r out_next)

-- all of a piece is fed: the run stands where that leads
abbrev pub FeedsAll : Run → List ℕ → Run → Type 0
FeedsAll run piece run_next = machine_of run_next ≡ going_on (fed (machine_of run) piece)

-- the run stands where some pieces, fed one after the other from the start on, lead
pub record Reached (run : Run) : Type 0 where
  pub pieces : List (List ℕ)
  pub led : machine_of run ≡ going_on (fed start (joined pieces))
