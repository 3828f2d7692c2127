-- The calls on pieces do what the machine does.
use mathlib.Core.Path.{◌≡◌, refl, sym, ap, ◌∙◌}
use mathlib.Core.Logic.{◌⊎◌, inl, inr, ⊎_elim}
use mathlib.Core.Bool.{true, false}
use mathlib.Core.List.{List, [], ◌∷◌, ◌++◌, append-nil}
use Prim.Native.Nat.{ℕ, ◌+◌, ◌-◌, ◌≤◌, ◌<◌, min}
use native.Mathlib.Omega.{arith}
use borrow.Author.Tests.{eqb-true, eqb-false}
use lib.Dec.{eqb}
use lib.ListN.{length, take, drop, length-append, length-take, length-drop, take-append-drop}
use borrow.Rule.Slice.PartMut.{put_mid}
use lib.Seq.{sets, sets-eq, take_all, take_at, take-append-add, drop-length, length-take-le}
use Rattle.std.proofs.lemmas.Bool.{cases_Bool}
use Rattle.std.specs.Prelude.{Ok, Err}
use Rattle.rules.specs.declared.Refusal.{Refusal}
use Rattle.rules.specs.Refusals.{number_of}
use Rattle.rules.specs.Text.{words_at}
use Rattle.rules.specs.WholeBeat.{table_after}
use Rattle.rules.specs.RunFile.{Stage, at_header, at_start, at_beat, Taken, accepted, refused, take_line, at_end, refusal_line}
use Rattle.rules.specs.RunFile.{start_words, beat_words, header_refusal, start_line_refusal, beat_line_refusal, or_refused}
use Rattle.rules.proofs.Lists.{part_back}
use Rattle.rules.proofs.Numbers.{number_not_0}
use Rattle.rules.proofs.Tests.{le_or_lt}
use Rattle.digits.proofs.WordsOfText.{words_length}
use Rattle.text.specs.Lines.{line_length, end_from}
use Rattle.frames.specs.Headers.{said}
use Rattle.frames.proofs.Headers.{good, start_most}
use Rattle.frames.proofs.Stores.{prefix_stored}
use Rattle.frames.proofs.Shown.{line_length_lem, refusal_length}
use Rattle.runfile.specs.declared.Stage.{Stage as KeptStage}
use Rattle.runfile.specs.declared.Stage.TheVariants.{AtHeader, AtStart, AtBeat}
use Rattle.runfile.specs.declared.Taken.{Taken as KeptTaken}
use Rattle.runfile.specs.Runs.{stage_of, kept_of, table_of, stage_tests, taken_line, refusal_in, answer_of, table_in, text_in, Takes}
use Rattle.runfile.proofs.Stores.{first_taken}
use Rattle.runfile.proofs.Takes.{after_length}
use Rattle.feed.specs.declared.Feed.TheVariants.{Reading, Stopped}
use Rattle.feed.specs.declared.Run.{Run}
use Rattle.feed.specs.declared.Ended.{Ended}
use Rattle.feed.specs.Feeds.{line_of, Machine, reading, stopped, longest, after_line, ended, fed, last_fed, all_written, finished}
use Rattle.feed.specs.Calls.{most_written, line_number, missing, machine_at, machine_of, kept_feed, records_of, written_by, going_on}
use Rattle.feed.specs.Calls.{held_with, place_in, next_of, part_to, line_end, part_from, line_after}
use Rattle.feed.specs.Calls.{Holds, Stands, Ends, Feeds, Finishes}
use Rattle.feed.proofs.Pieces.{unrefused, unrefused_text, fed_stopped, part_held, part_ended}

-- the run as it is kept
pub number_is : (stage : KeptStage) (table : List ℕ) → line_of (stage_of stage table) ≡ line_number stage
unfolding line_of stage_of
number_is AtHeader table = refl
number_is (AtStart h) table = refl
number_is (AtBeat h beat) table = refl

run_is : (stage : KeptStage) (table : List ℕ) → kept_of (stage_of stage table) ≡ stage
unfolding kept_of stage_of
run_is AtHeader table = refl
run_is (AtStart h) table = refl
run_is (AtBeat h beat) table = refl

-- its records stand in the table already
stored_already : (k : ℕ) (table : List ℕ) → sets table 0 (take k table) ≡ table
stored_already k table = ⊎_elim
    (λ (l : k ≤ length table). sym (prefix_stored table (take k table) k (length-take-le k table l) l) ∙ take-append-drop k table)
    (λ (l : length table < k).
    rw (take_all k table (omega arith))
    (sym (prefix_stored table table (length table) refl (omega arith)) ∙ rw (drop-length table) (append-nil table)))
    (le_or_lt k (length table))

records_stay : (stage : KeptStage) (table : List ℕ) → sets table 0 (table_of (stage_of stage table)) ≡ table
unfolding table_of stage_of
records_stay AtHeader table = refl
records_stay (AtStart h) table = refl
records_stay (AtBeat h beat) table = stored_already (start_words (said h)) table

-- a run whose records have their words and fit a table
unfoldable pub Sized : Stage → ℕ → Type 0
Sized at_header size = Unit
Sized (at_start h) size = Unit
Sized (at_beat h beat table) size = (length table ≡ start_words h) × (start_words h ≤ size)

stands_again : (stage : Stage) (table : List ℕ) → Sized stage (length table)
    → stage_of (kept_of stage) (sets table 0 (table_of stage)) ≡ stage
unfolding stage_of kept_of table_of Sized
stands_again at_header table s = refl
stands_again (at_start h) table s = refl
stands_again (at_beat h beat records) table s = rw (first_taken table records (start_words h) s.0 s.1)

-- an accepted line leads to such a run
taken_passed : (stage next : Stage) (line text : List ℕ) → taken_line stage line ≡ accepted next text
    → (stage_tests stage ≡ 0) × (take_line stage line ≡ accepted next text)
unfolding taken_line or_refused
taken_passed stage next line text e = ⊎_elim
    (λ (z : eqb (stage_tests stage) 0 ≡ true). (eqb-true (stage_tests stage) 0 z, rw z at e))
    (λ (z : eqb (stage_tests stage) 0 ≡ false). let k = rw z at e in let y : ◌≡◌ {A = ℕ} 0 1 = cc in absurd (omega arith))
    (cases_Bool (eqb (stage_tests stage) 0))

line_sized : (stage next : Stage) (line text : List ℕ) (size : ℕ) → stage_tests stage ≡ 0 → take_line stage line ≡ accepted next text
    → 400 ≤ size → Sized next size
unfolding take_line stage_tests Sized
line_sized at_header next line text size z e l = rw (← (unrefused (header_refusal line) _ next _ text e).1) tt
line_sized (at_start h) next line text size z e l =
    rw (← (unrefused (start_line_refusal h line) _ next _ text e).1) (words_length line 4 (start_words h), omega (arith, start_most h z))
line_sized (at_beat h beat table) next line text size z e l =
    rw (← (unrefused (beat_line_refusal h beat line) _ next _ text e).1)
    (after_length h table (words_at line 4 (beat_words h)), omega (arith, start_most h z))

pub accepted_sized : (stage next : Stage) (line text : List ℕ) (size : ℕ) → taken_line stage line ≡ accepted next text
    → 400 ≤ size → Sized next size
accepted_sized stage next line text size e l =
    let p = taken_passed stage next line text e in
    line_sized stage next line text size p.0 p.1 l

-- and its output line is short
line_short : (stage next : Stage) (line text : List ℕ) → stage_tests stage ≡ 0 → take_line stage line ≡ accepted next text
    → length text ≤ most_written
unfolding take_line stage_tests
line_short at_header next line text z e = rw (← (unrefused_text (header_refusal line) _ next _ text e)) (omega arith)
line_short (at_start h) next line text z e =
    rw (← (unrefused_text (start_line_refusal h line) _ next _ text e))
    (omega (arith, line_length_lem h 0 (words_at line 4 (start_words h)), (good h z).shape.cards))
line_short (at_beat h beat table) next line text z e =
    let after = table_after h.n h.f h.c h.set table (words_at line 4 (beat_words h)) in
    rw (← (unrefused_text (beat_line_refusal h beat line) _ next _ text e))
    (omega (arith, line_length_lem h (beat + 1) after, (good h z).shape.cards))

pub accepted_short : (stage next : Stage) (line text : List ℕ) → taken_line stage line ≡ accepted next text → length text ≤ most_written
accepted_short stage next line text e =
    let p = taken_passed stage next line text e in
    line_short stage next line text p.0 p.1

-- no line is refused by 0
none_refused : (refusal : ℕ) (t : Taken) → (t ≡ refused 0 → ⊥) → or_refused refusal t ≡ refused 0 → ⊥
unfolding or_refused
none_refused refusal t h e = ⊎_elim
    (λ (z : eqb refusal 0 ≡ true). h (rw z at e))
    (λ (z : eqb refusal 0 ≡ false). let k = rw z at e in let y : refusal ≡ 0 = cc in eqb-false refusal 0 z y)
    (cases_Bool (eqb refusal 0))

accepted_not : (next : Stage) (text : List ℕ) → accepted next text ≡ refused 0 → ⊥
accepted_not next text e = let y : ◌≡◌ {A = ℕ} 0 1 = cc in omega arith

line_not_0 : (stage : Stage) (line : List ℕ) → take_line stage line ≡ refused 0 → ⊥
unfolding take_line
line_not_0 at_header line = none_refused (header_refusal line) _ (accepted_not _ _)
line_not_0 (at_start h) line = none_refused (start_line_refusal h line) _ (accepted_not _ _)
line_not_0 (at_beat h beat table) line = none_refused (beat_line_refusal h beat line) _ (accepted_not _ _)

pub taken_not_0 : (stage : Stage) (line : List ℕ) → taken_line stage line ≡ refused 0 → ⊥
unfolding taken_line
taken_not_0 stage line = none_refused (stage_tests stage) (take_line stage line) (line_not_0 stage line)

-- a refused line is at its end
pub ends_refused : (stage : KeptStage) (t : Taken) (table out : List ℕ) (e : Refusal) (table_next out_next out_last : List ℕ) (written : ℕ)
    → Takes stage t table out (Err e) table_next out_next
    → written ≡ length (refusal_line (line_number stage) (number_of e))
    → out_last ≡ sets out_next 0 (refusal_line (line_number stage) (number_of e))
    → Ends (after_line (stage_of stage table) [] t) table out (record { feed = Stopped; written = written }) table_next out_last
unfolding after_line kept_feed records_of written_by going_on machine_at refusal_in table_in text_in
ends_refused stage (accepted next text) table out e table_next out_next out_last written t w o line =
    absurd (number_not_0 e t.answer.refusal)
ends_refused stage (refused refusal) table out e table_next out_next out_last written t w o line =
    let k : number_of e ≡ refusal = t.answer.refusal in
    record {
      feed_is = refl;
      written_is = rw (number_is stage table, ← k) w;
      short = omega (arith, w, refusal_length (line_number stage) (number_of e));
      records = t.records;
      text = rw (number_is stage table, ← k, ← t.line) o;
      goes_on = refl;
    }

-- and so is an accepted one
pub ends_accepted : (stage : KeptStage) (t : Taken) (table out : List ℕ) (r : KeptTaken) (table_next out_next : List ℕ)
    → (t ≡ refused 0 → ⊥)
    → ((next : Stage) (text : List ℕ) → t ≡ accepted next text → Sized next (length table) × (length text ≤ most_written))
    → Takes stage t table out (Ok r) table_next out_next
    → Ends (after_line (stage_of stage table) [] t) table out (record { feed = Reading r.stage 0; written = r.written }) table_next out_next
unfolding after_line kept_feed records_of written_by going_on machine_at refusal_in answer_of table_in text_in
ends_accepted stage (accepted next text) table out r table_next out_next n s t line =
    let k : r.stage ≡ kept_of next = ap (λ (a : KeptTaken). a.stage) t.answer.taken in
    record {
      feed_is = rw k;
      written_is = ap (λ (a : KeptTaken). a.written) t.answer.taken;
      short = rw t.answer.taken (s next text refl).1;
      records = t.records;
      text = t.line;
      goes_on = rw (k, t.records, stands_again next table (s next text refl).0);
    }
ends_accepted stage (refused refusal) table out r table_next out_next n s t line =
    absurd (n (ap refused (sym t.answer.refusal)))

-- what is held of a line with a part of a piece
abbrev held_to : List ℕ → ℕ → List ℕ → ℕ → ℕ → List ℕ
held_to line held piece from end = take longest (take held line ++ take (end - from) (drop from piece))

-- what is held of a line
module _ (line : List ℕ) (held : ℕ) (size : length line ≡ longest) where
  held_length : length (take held line) ≡ min held longest
  held_length = rw (← size) (length-take held line)

  -- at most `longest` are held
  held_all : take longest (take held line) ≡ take held line
  held_all = take_all longest (take held line) (omega (arith, held_length))

  pub held_min : take (min held longest) line ≡ take held line
  held_min = ⊎_elim
      (λ (l : held ≤ longest). let e : min held longest ≡ held = omega arith in rw e)
      (λ (l : longest < held).
      let e : min held longest ≡ longest = omega arith in
      rw (e, take_all longest line (omega arith), take_all held line (omega arith)))
      (le_or_lt held longest)

  -- as much of a part is held as there is room for
  taken_min : (part : List ℕ) (room : ℕ) → take (min (length part) room) part ≡ take room part
  taken_min part room = ⊎_elim
      (λ (l : room ≤ length part). let e : min (length part) room ≡ room = omega arith in rw e)
      (λ (l : length part < room).
      let e : min (length part) room ≡ length part = omega arith in
      rw (e, take_all (length part) part (omega arith), take_all room part (omega arith)))
      (le_or_lt room (length part))

  -- it is copied into the buffer
  pub part_stored : (part more : List ℕ) (start count : ℕ) → start ≡ min held longest → count ≡ min (length part) (longest - start)
      → more ≡ take count part → put_mid start (start + count - start) line more ≡ held_with line held part
  part_stored part more start count s n e =
      let room = longest - min held longest in
      let k : more ≡ take room part = e ∙ rw (n, s) (taken_min part room) in
      let size_more = length-take room part in
      let fits : min held longest + length (take room part) ≤ length line = omega arith in
      let w : start + count - start ≡ length (take room part) = omega arith in
      rw (k, w, s) (part_back (take room part) line (min held longest) _ refl fits)

  -- a part is held
  pub part_holds : (part : List ℕ) (r : ℕ) (line_next : List ℕ)
      → r ≡ min held longest + min (length part) (longest - min held longest) → line_next ≡ held_with line held part
      → Holds line held part r line_next
  part_holds part r line_next e k =
      let room = longest - min held longest in
      let more = take room part in
      let all : length (take held line) + room ≡ longest = omega (arith, held_length) in
      let grown : take longest (take held line ++ part) ≡ take held line ++ more =
      ap (λ (k : ℕ). take k (take held line ++ part)) (sym all) ∙ take-append-add (take held line) part room in
      let count : length (take held line ++ more) ≡ r =
      omega (arith, length-append (take held line) more, held_length, length-take room part) in
      let fits : min held longest + length more ≤ length line = omega (arith, length-take room part) in
      record {
        count = rw grown (sym count);
        room = omega (arith, e);
        kept = k;
        whole = rw (grown, k, sets-eq more line (min held longest) fits, held_min) (take_at (take held line ++ more) _ r count);
      }

  -- where the machine stands when the part has no line feed, and when it has one
  module _ (stage : Stage) (piece : List ℕ) (from end : ℕ) (inside : from ≤ length piece) (at_end : end ≡ end_from piece from) where
    pub fed_held : end ≡ length piece
        → fed (reading stage (take held line) []) (part_to piece from end) ≡ reading stage (held_to line held piece from end) []
    fed_held e =
        let t = drop from piece in
        let n : next_of piece end - from ≡ line_length t = omega arith in
        let m : end - from ≡ line_length t = omega arith in
        rw (n, m) (rw held_all at (part_held t (take held line) stage []))

    pub fed_ended : end < length piece
        → fed (reading stage (take held line) []) (part_to piece from end) ≡ ended stage (held_to line held piece from end) []
    fed_ended l =
        let t = drop from piece in
        let n : next_of piece end - from ≡ line_length t + 1 = omega arith in
        let m : end - from ≡ line_length t = omega arith in
        rw (n, m) (rw held_all at (part_ended t (take held line) stage [] (omega (arith, length-drop from piece))))

pub holds_stands : (stage : KeptStage) (held r : ℕ) (line part table out line_next : List ℕ) → Holds line held part r line_next
    → Stands (reading (stage_of stage table) (take longest (take held line ++ part)) []) 0 table out
    (record { feed = Reading stage r; line = line_next; table = table }) out
unfolding kept_feed records_of written_by going_on machine_at
holds_stands stage held r line part table out line_next h =
    record {
      feed_is = rw (run_is stage table, ← h.count);
      written_is = refl;
      short = omega arith;
      records = sym (records_stay stage table);
      text = refl;
      goes_on = rw h.whole;
    }

-- a part of a piece is fed, from a place that may lie behind it: to a run that is stopped, to one that holds all of it, and to one whose
-- line is at its end there
module _ (run : Run) (piece : List ℕ) (at : ℕ) (out : List ℕ) (from end next : ℕ) where
  pub feeds_stopped : from ≡ place_in piece at → end ≡ end_from piece from → next ≡ next_of piece end → run.feed ≡ Stopped
      → Feeds run piece at out (record { next = next; written = 0 }) run out
  unfolding line_after kept_feed records_of written_by going_on machine_at
  feeds_stopped p e n s =
      let q : end ≡ line_end piece at = e ∙ rw p in
      record {
        next = rw (← q) n;
        held = rw s refl;
        stands = rw (s, fed_stopped [] (part_from piece at))
            (record { feed_is = refl; written_is = refl; short = omega arith; records = refl; text = refl; goes_on = refl });
      }

  module _ (stage : KeptStage) (held count : ℕ) (line_next : List ℕ) (size : length run.line ≡ longest) where
    pub feeds_held : from ≡ place_in piece at → end ≡ end_from piece from → next ≡ next_of piece end → run.feed ≡ Reading stage held
        → Holds run.line held (take (end - from) (drop from piece)) count line_next → end ≡ length piece
        → Feeds run piece at out (record { next = next; written = 0 })
        (record { feed = Reading stage count; line = line_next; table = run.table }) out
    unfolding line_after machine_at
    feeds_held p e n s h z =
        let q : end ≡ line_end piece at = e ∙ rw p in
        let run_stage = stage_of stage run.table in
        record {
          next = rw (← q) n;
          held = rw (s, ← q, ← p) h.kept;
          stands = rw (s, ← q, ← p, fed_held run.line held size run_stage piece from end (omega arith) e z)
              (holds_stands stage held count run.line _ run.table out line_next h);
        }

    pub feeds_ended : (r : Ended) (table_next out_next : List ℕ)
        → from ≡ place_in piece at → end ≡ end_from piece from → next ≡ next_of piece end → run.feed ≡ Reading stage held
        → Holds run.line held (take (end - from) (drop from piece)) count line_next → end < length piece
        → Ends (ended (stage_of stage run.table) (take count line_next) []) run.table out r table_next out_next
        → Feeds run piece at out (record { next = next; written = r.written })
        (record { feed = r.feed; line = line_next; table = table_next }) out_next
    unfolding line_after machine_at
    feeds_ended r table_next out_next p e n s h l t =
        let q : end ≡ line_end piece at = e ∙ rw p in
        let run_stage = stage_of stage run.table in
        record {
          next = rw (← q) n;
          held = rw (s, ← q, ← p) h.kept;
          stands = rw (s, ← q, ← p, fed_ended run.line held size run_stage piece from end (omega arith) e l) (rw h.whole at t line_next);
        }

-- what is written where no more lines come
missing_is : (stage : KeptStage) (table : List ℕ) → at_end (line_of (stage_of stage table)) (stage_of stage table) ≡ missing stage
unfolding stage_of at_end line_of
missing_is AtHeader table = refl
missing_is (AtStart h) table = refl
missing_is (AtBeat h beat) table = refl

missing_kept : (stage : Stage) → missing (kept_of stage) ≡ at_end (line_of stage) stage
unfolding kept_of at_end line_of
missing_kept at_header = refl
missing_kept (at_start h) = refl
missing_kept (at_beat h beat table) = refl

pub missing_short : (stage : KeptStage) → length (missing stage) ≤ 15
missing_short AtHeader = omega (arith, refusal_length 1 10)
missing_short (AtStart h) = omega (arith, refusal_length 2 10)
missing_short (AtBeat h beat) = omega arith

-- no character of the last line is held
pub finishes_none : (run : Run) (stage : KeptStage) (held count : ℕ) (out : List ℕ) (r : ℕ) (out_next : List ℕ)
    → length run.line ≡ longest → run.feed ≡ Reading stage held → count ≡ min held longest → eqb (length (take count run.line)) 0 ≡ true
    → r ≡ length (missing stage) → out_next ≡ sets out 0 (missing stage) → Finishes run out r run out_next
unfolding machine_at finished last_fed all_written records_of
finishes_none run stage held count out r out_next size e n z w o =
    let none : held ≡ 0 = omega (arith, eqb-true (length (take count run.line)) 0 z, length-take count run.line) in
    record {
      written = rw (e, none, missing_is stage run.table) w;
      short = omega (arith, w, missing_short stage);
      feed_stays = refl;
      line_stays = refl;
      records = rw (e, none) (sym (records_stay stage run.table));
      text = rw (e, none, missing_is stage run.table) o;
    }

pub finishes_stopped : (run : Run) (out : List ℕ) → run.feed ≡ Stopped → Finishes run out 0 run out
unfolding machine_at finished last_fed all_written records_of
finishes_stopped run out e =
    record {
      written = rw e refl;
      short = omega arith;
      feed_stays = refl;
      line_stays = refl;
      records = rw e refl;
      text = rw e refl;
    }

-- some are: the line is at its end
last_is : (stage : Stage) (held written : List ℕ) → 0 < length held → last_fed (reading stage held written) ≡ ended stage held written
unfolding last_fed
last_is stage [] written l = absurd (omega arith)
last_is stage (ch ∷ held) written l = refl

pub finished_is : (run : Run) (stage : KeptStage) (held count : ℕ) → length run.line ≡ longest → run.feed ≡ Reading stage held
    → count ≡ min held longest → eqb (length (take count run.line)) 0 ≡ false
    → last_fed (machine_of run) ≡ ended (stage_of stage run.table) (take count run.line) []
unfolding machine_at
finished_is run stage held count size e n z =
    let some = eqb-false (length (take count run.line)) 0 z in
    let more : 0 < held = omega (arith, some, length-take count run.line) in
    rw (e, n, held_min run.line held size)
    (last_is (stage_of stage run.table) (take held run.line) [] (omega (arith, held_length run.line held size)))

-- nothing more is written after a refusal
pub finishes_refused : (run : Run) (last : Machine) (out : List ℕ) (r : Ended) (table_next out_next : List ℕ)
    → last_fed (machine_of run) ≡ last → r.feed ≡ Stopped → Ends last run.table out r table_next out_next
    → Finishes run out r.written (record run { table = table_next }) out_next
unfolding finished all_written kept_feed written_by
finishes_refused run (reading stage held text) out r table_next out_next e k s =
    let y : Reading (kept_of stage) (length held) ≡ Stopped = sym (s []).feed_is ∙ k in
    let z : ◌≡◌ {A = ℕ} 0 1 = cc in
    absurd (omega arith)
finishes_refused run (stopped text) out r table_next out_next e k s =
    let t = s run.line in
    record {
      written = rw e t.written_is;
      short = t.short;
      feed_stays = refl;
      line_stays = refl;
      records = rw e t.records;
      text = rw e t.text;
    }

-- after an accepted last line either it or the missing one is written
pub finishes_accepted : (run : Run) (last : Machine) (out : List ℕ) (r : Ended) (table_next out_next out_last : List ℕ)
    (next : KeptStage) (held more : ℕ)
    → last_fed (machine_of run) ≡ last → r.feed ≡ Reading next held → (written_by last ≡ []) ⊎ (missing next ≡ [])
    → Ends last run.table out r table_next out_next → more ≡ length (missing next) → out_last ≡ sets out_next 0 (missing next)
    → Finishes run out (r.written + more) (record run { table = table_next }) out_last
unfolding finished all_written kept_feed written_by
finishes_accepted run (stopped text) out r table_next out_next out_last next held more e k one s w o =
    let y : Stopped ≡ Reading next held = sym (s []).feed_is ∙ k in
    let z : ◌≡◌ {A = ℕ} 0 1 = cc in
    absurd (omega arith)
finishes_accepted run (reading stage kept text) out r table_next out_next out_last next held more e k one s w o =
    let t = s run.line in
    let y : Reading (kept_of stage) (length kept) ≡ Reading next held = sym t.feed_is ∙ k in
    let n : kept_of stage ≡ next = cc in
    let q : at_end (line_of stage) stage ≡ missing next = sym (missing_kept stage) ∙ ap missing n in
    record {
      written = rw (e, q) (omega (arith, t.written_is, length-append text (missing next)));
      short = ⊎_elim
          (λ (p : text ≡ []). let z : r.written ≡ 0 = t.written_is ∙ ap length p in omega (arith, missing_short next))
          (λ (p : missing next ≡ []). let z : more ≡ 0 = w ∙ ap length p in omega (arith, t.short))
          one;
      feed_stays = refl;
      line_stays = refl;
      records = rw e t.records;
      text = rw (e, q) (o ∙ rw t.text (both text (missing next) one));
    }
  where
    both : (a b : List ℕ) → (a ≡ []) ⊎ (b ≡ []) → sets (sets out 0 a) 0 b ≡ sets out 0 (a ++ b)
    both a b (inl p) = rw p
    both a b (inr p) = rw (p, append-nil a)

line_one : (stage next : Stage) (line text : List ℕ) → take_line stage line ≡ accepted next text
    → (text ≡ []) ⊎ (missing (kept_of next) ≡ [])
unfolding take_line kept_of
line_one at_header next line text e = inl (sym (unrefused_text (header_refusal line) _ next _ text e))
line_one (at_start h) next line text e = inr (rw (← (unrefused (start_line_refusal h line) _ next _ text e).1))
line_one (at_beat h beat table) next line text e = inr (rw (← (unrefused (beat_line_refusal h beat line) _ next _ text e).1))

pub one_written : (stage : Stage) (line : List ℕ) (next : KeptStage) (held : ℕ) → kept_feed (ended stage line []) ≡ Reading next held
    → (written_by (ended stage line []) ≡ []) ⊎ (missing next ≡ [])
unfolding ended after_line kept_feed written_by
one_written stage line next held e = go (taken_line stage line) refl e
  where
    go : (t : Taken) → taken_line stage line ≡ t → kept_feed (after_line stage [] t) ≡ Reading next held
        → (written_by (after_line stage [] t) ≡ []) ⊎ (missing next ≡ [])
    go (accepted after text) q k =
        let n : kept_of after ≡ next = cc in
        rw n at (line_one stage after line text (taken_passed stage after line text q).1)
    go (refused refusal) q k = let z : ◌≡◌ {A = ℕ} 0 1 = cc in absurd (omega arith)
