-- What the calls write, one after the other, is what the rules say of the whole text; and where all of a piece leads.
use mathlib.Core.Path.{◌≡◌, refl, sym, ap, ◌∙◌}
use mathlib.Core.Logic.{⊎_elim}
use mathlib.Core.Bool.{true, false}
use mathlib.Core.List.{List, [], ◌∷◌, ◌++◌, append_assoc, append-nil}
use Prim.Native.Nat.{ℕ, ◌+◌, ◌-◌, ◌≤◌, ◌<◌}
use native.Mathlib.Omega.{arith}
use lib.Dec.{eqb}
use lib.ListN.{length, take, drop, take-append-drop, drop_of_length-le}
use lib.Seq.{sets, drop-drop, drop-length}
use Rattle.std.proofs.lemmas.Bool.{cases_Bool}
use Rattle.rules.specs.Text.{line_feed}
use Rattle.rules.specs.RunFile.{Stage, at_end, Taken, accepted, refused, refusal_line, run_text}
use Rattle.rules.proofs.Tests.{le_or_lt}
use Rattle.runfile.specs.declared.Stage.TheVariants.{AtHeader}
use Rattle.runfile.specs.Runs.{stage_of, taken_line}
use Rattle.runfile.proofs.Stores.{first_taken}
use Rattle.feed.specs.declared.Feed.{Feed}
use Rattle.feed.specs.declared.Feed.TheVariants.{Reading, Stopped}
use Rattle.feed.specs.declared.Run.{Run}
use Rattle.feed.specs.declared.Fed.{Fed}
use Rattle.feed.specs.Feeds.{Machine, reading, stopped, line_of, after_line, ended, fed_byte, fed, last_fed, all_written}
use Rattle.feed.specs.Feeds.{finished, start, joined}
use Rattle.feed.specs.Calls.{machine_at, machine_of, written_by, going_on, place_in, next_of, line_end, part_from, most_written, Feeds}
use Rattle.feed.specs.Calls.{CallsWrite, feeds, turns, leaves, finishes, FeedsAll, Reached}
use Rattle.feed.proofs.Pieces.{fed_append, fed_stopped, fed_all, nothing_fed}

-- some text was written before
unfoldable wrote : List ℕ → Machine → Machine
wrote before (reading stage held written) = reading stage held (before ++ written)
wrote before (stopped written) = stopped (before ++ written)

after_wrote : (before written : List ℕ) (stage : Stage) (t : Taken)
    → after_line stage (before ++ written) t ≡ wrote before (after_line stage written t)
unfolding after_line wrote
after_wrote before written stage (accepted next text) = rw (append_assoc before written text)
after_wrote before written stage (refused refusal) = rw (append_assoc before written (refusal_line (line_of stage) refusal))

byte_wrote : (before : List ℕ) (feed : Machine) (ch : ℕ) → fed_byte (wrote before feed) ch ≡ wrote before (fed_byte feed ch)
unfolding fed_byte wrote ended
byte_wrote before (reading stage held written) ch = ⊎_elim
    (λ (z : eqb ch line_feed ≡ true). rw z (after_wrote before written stage (taken_line stage held)))
    (λ (z : eqb ch line_feed ≡ false). rw z)
    (cases_Bool (eqb ch line_feed))
byte_wrote before (stopped written) ch = refl

fed_wrote : (before : List ℕ) (feed : Machine) (text : List ℕ) → fed (wrote before feed) text ≡ wrote before (fed feed text)
unfolding fed
fed_wrote before feed [] = refl
fed_wrote before feed (ch ∷ text) = rw (byte_wrote before feed ch) (fed_wrote before (fed_byte feed ch) text)

all_wrote : (before : List ℕ) (feed : Machine) → all_written (wrote before feed) ≡ before ++ all_written feed
unfolding all_written wrote
all_wrote before (reading stage held written) = append_assoc before written (at_end (line_of stage) stage)
all_wrote before (stopped written) = refl

last_wrote : (before : List ℕ) (feed : Machine) → last_fed (wrote before feed) ≡ wrote before (last_fed feed)
unfolding last_fed wrote ended
last_wrote before (reading stage [] written) = refl
last_wrote before (reading stage (ch ∷ held) written) = after_wrote before written stage (taken_line stage (ch ∷ held))
last_wrote before (stopped written) = refl

finished_wrote : (before : List ℕ) (feed : Machine) → finished (wrote before feed) ≡ before ++ finished feed
unfolding finished
finished_wrote before feed = ap all_written (last_wrote before feed) ∙ all_wrote before (last_fed feed)

-- a machine is what it goes on with, after what it has written
written_before : (feed : Machine) → wrote (written_by feed) (going_on feed) ≡ feed
unfolding wrote written_by going_on
written_before (reading stage held written) = rw (append-nil written)
written_before (stopped written) = rw (append-nil written)

-- one part, and then the rest
one_part : (feed : Machine) (part rest : List ℕ)
    → written_by (fed feed part) ++ finished (fed (going_on (fed feed part)) rest) ≡ finished (fed feed (part ++ rest))
one_part feed part rest =
    let m = fed feed part in
    sym (finished_wrote (written_by m) (fed (going_on m) rest))
    ∙ ap finished
    (sym (fed_wrote (written_by m) (going_on m) rest) ∙ ap (λ (f : Machine). fed f rest) (written_before m)
    ∙ sym (fed_append feed part rest))

-- where the calls start
starts : (run : Run) → run.feed ≡ Reading AtHeader 0 → machine_of run ≡ start
unfolding machine_at stage_of
starts run e = rw e refl

-- a place behind a piece counts as its end
drop_place : (piece : List ℕ) (at : ℕ) → drop (place_in piece at) piece ≡ drop at piece
drop_place piece at = ⊎_elim
    (λ (l : at ≤ length piece). let e : place_in piece at ≡ at = omega arith in rw e)
    (λ (l : length piece < at).
    let e : place_in piece at ≡ length piece = omega arith in
    rw (e, drop-length piece) (sym (drop_of_length-le piece {i = at} (omega arith))))
    (le_or_lt at (length piece))

-- what a call feeds of a piece, and what it leaves to the next one, are the piece from its place on
part_and_rest : (piece : List ℕ) (at : ℕ) → part_from piece at ++ drop (next_of piece (line_end piece at)) piece ≡ drop at piece
part_and_rest piece at =
    let from = place_in piece at in
    let next = next_of piece (line_end piece at) in
    let inside : from + (next - from) ≡ next = omega arith in
    let rest : drop (next - from) (drop from piece) ≡ drop next piece = drop-drop (next - from) from piece ∙ rw inside in
    rw (← rest) (take-append-drop (next - from) (drop from piece) ∙ drop_place piece at)

-- what is left of some pieces
unfoldable left_of : ℕ → List (List ℕ) → List ℕ
left_of at [] = []
left_of at (piece ∷ others) = drop at piece ++ joined others

all_left : (pieces : List (List ℕ)) → left_of 0 pieces ≡ joined pieces
unfolding left_of joined
all_left [] = refl
all_left (piece ∷ others) = refl

-- a stopped run writes nothing, whatever comes
still_stopped : (run : Run) (text : List ℕ) → run.feed ≡ Stopped → fed (machine_of run) text ≡ machine_of run
unfolding machine_at
still_stopped run text e = rw e (fed_stopped [] text)

-- what a call writes stands in its buffer
text_in_lem : (out out_next text : List ℕ) (written : ℕ) → length out ≡ most_written → written ≡ length text → written ≤ most_written
    → out_next ≡ sets out 0 text → take written out_next ≡ text
text_in_lem out out_next text written size e short o = rw o (first_taken out text written (sym e) (omega arith))

-- the calls to the end of the input write what the machine does that is fed all that is left
calls_whole : {run : Run} {at : ℕ} {pieces : List (List ℕ)} {text : List ℕ}
    → CallsWrite run at pieces text → text ≡ finished (fed (machine_of run) (left_of at pieces))
unfolding left_of
calls_whole (feeds {run = run} {piece = piece} {out = out} {out_next = out_next} {at = at} {others = others} {r = r} size f later) =
    let m = machine_of run in
    let part = part_from piece at in
    let s = f.stands in
    let text = text_in_lem out out_next (written_by (fed m part)) r.written size s.written_is s.short s.text in
    rw (text, calls_whole later, f.next, s.goes_on)
    (one_part m part (drop (next_of piece (line_end piece at)) piece ++ joined others) ∙ rw (← append_assoc, part_and_rest piece at))
calls_whole (turns {piece = piece} {at = at} {others = others} l later) =
    calls_whole later ∙ rw (all_left others, drop_of_length-le piece {i = at} l)
calls_whole (leaves {run = run} {at = at} {pieces = pieces} e later) =
    calls_whole later ∙ rw (still_stopped run (left_of 0 []) e, still_stopped run (left_of at pieces) e)
calls_whole (finishes {run = run} {out = out} size f) =
    rw (nothing_fed (machine_of run)) (text_in_lem out _ _ _ size f.written f.short f.text)

-- The calls on the pieces of a text, cut anywhere, write what the rules say of the whole text: from a run on whose feed is what `new`
-- answers, with buffers that hold anything.
pub calls_run : (run : Run) (pieces : List (List ℕ)) (text : List ℕ) → run.feed ≡ Reading AtHeader 0
    → CallsWrite run 0 pieces text → text ≡ run_text (joined pieces)
calls_run run pieces text e calls = calls_whole calls ∙ rw (starts run e, all_left pieces) (fed_all (joined pieces))

-- what was written before changes nothing of where a text leads
goes_wrote : (before : List ℕ) (feed : Machine) → going_on (wrote before feed) ≡ going_on feed
unfolding going_on wrote
goes_wrote before (reading stage held written) = refl
goes_wrote before (stopped written) = refl

goes_fed : (feed : Machine) (text : List ℕ) → going_on (fed (going_on feed) text) ≡ going_on (fed feed text)
goes_fed feed text =
    sym (goes_wrote (written_by feed) (fed (going_on feed) text))
    ∙ ap going_on (sym (fed_wrote (written_by feed) (going_on feed) text) ∙ ap (λ (f : Machine). fed f text) (written_before feed))

-- what a call leaves of a piece leads from there to where the piece leads from the call's place on
pub part_fed : (run : Run) (piece : List ℕ) (at : ℕ) (out : List ℕ) (r : Fed) (run_next : Run) (out_next : List ℕ)
    → Feeds run piece at out r run_next out_next
    → going_on (fed (machine_of run_next) (drop r.next piece)) ≡ going_on (fed (machine_of run) (drop at piece))
part_fed run piece at out r run_next out_next f =
    let m = machine_of run in
    let part = part_from piece at in
    let rest = drop (next_of piece (line_end piece at)) piece in
    rw (f.next, f.stands.goes_on)
    (goes_fed (fed m part) rest ∙ ap going_on (sym (fed_append m part rest) ∙ rw (part_and_rest piece at)))

-- what was written is no longer known of a run
goes_on_is : (feed : Feed) (line table : List ℕ) → going_on (machine_at feed line table) ≡ machine_at feed line table
unfolding machine_at going_on
goes_on_is (Reading stage held) line table = refl
goes_on_is Stopped line table = refl

-- and at the piece's end nothing is left of it
pub all_fed : (run : Run) (piece : List ℕ) (at : ℕ) → length piece ≤ at
    → going_on (fed (machine_of run) (drop at piece)) ≡ machine_of run
all_fed run piece at l =
    rw (drop_of_length-le piece {i = at} l, nothing_fed (machine_of run)) (goes_on_is run.feed run.line run.table)

-- the start is reached by no piece, and from any run that is reached one piece more leads to another
pub reached_start : (run : Run) → run.feed ≡ Reading AtHeader 0 → Reached run
unfolding fed joined going_on
reached_start run e = record { pieces = []; led = starts run e }

joined_more : (pieces : List (List ℕ)) (piece : List ℕ) → joined (pieces ++ (piece ∷ [])) ≡ joined pieces ++ piece
unfolding joined
joined_more [] piece = append-nil piece
joined_more (first ∷ others) piece = rw (joined_more others piece, append_assoc first (joined others) piece)

pub reached_more : (run run_next : Run) (piece : List ℕ) → Reached run → FeedsAll run piece run_next → Reached run_next
reached_more run run_next piece reached all =
    let before = joined reached.pieces in
    record {
      pieces = reached.pieces ++ (piece ∷ []);
      led = all ∙ rw (reached.led, joined_more reached.pieces piece, fed_append start before piece) (goes_fed (fed start before) piece);
    }
