-- The lines that are written for a run file show the counts of its whole beats, and so settle at T(f).
use mathlib.Core.Path.{◌≡◌, refl, sym, ap, ◌∙◌}
use mathlib.Core.Logic.{⊎_elim}
use mathlib.Core.Bool.{Bool, true, false, not, true≢false, false≢true}
use mathlib.Core.List.{List, [], ◌∷◌}
use Prim.Native.Nat.{ℕ, zero, suc, ◌+◌, ◌%◌, ◌≤◌, ◌<◌}
use native.Mathlib.Nat.{zero-add, add-zero, mod-lt}
use native.Mathlib.Numerals.{add-one}
use native.Mathlib.Omega.{arith}
use borrow.Author.Tests.{eqb-true}
use lib.Dec.{eqb}
use lib.ListN.{length, get_or}
use Rattle.std.proofs.lemmas.Bool.{cases_Bool}
use Rattle.rules.specs.Parameters.{none_word, settle_beats}
use Rattle.rules.specs.Groups.{word_of}
use Rattle.rules.specs.Refusals.{beat_refusal}
use Rattle.rules.specs.Text.{well_formed, words_at, lines_of}
use Rattle.rules.specs.RunFile.{Header, header_tests, header_digits, header_of, header_refusal, start_words, beat_words, last_beat, beat_of}
use Rattle.rules.specs.RunFile.{start_line_refusal, beat_line_refusal, shown_word, output_line, refusal_line, Stage, at_header}
use Rattle.rules.specs.RunFile.{at_start, at_beat}
use Rattle.rules.specs.RunFile.{accepted, or_refused, take_line, at_end, continued, run_lines, run_text}
use Rattle.rules.proofs.Shapes.{not_given, counter_accepted}
use Rattle.rules.proofs.Lines.{no_lines, line_at_lem}
use Rattle.rules.proofs.RunFiles.{beat_passed, beat_formed}
use Rattle.digits.proofs.WordsOfText.{words_length}
use Rattle.settle.specs.Run.{table_at}
use Rattle.settle.proofs.WholeBeats.{settles_on_beats}
use Rattle.end_to_end.specs.RunFiles.{Shows, SettlesInFiles, and_others, may_end, accepted_from, accepted_file, SettlesInAcceptedFiles}
use Rattle.end_to_end.proofs.OutputLines.{shown_line, line_shows, shown_first, refusal_alone}

-- A run from line 2 on: `line b` is the input line of the beat b
module _ (h : Header) (line : ℕ → List ℕ) where
  start : List ℕ
  start = words_at (line 0) 4 (start_words h)

  sent : ℕ → List ℕ
  sent r = words_at (line (suc r)) 4 (beat_words h)

  -- the n records after a beat
  abbrev table : ℕ → List ℕ
  table = table_at h.n h.f h.c h.set start sent

  -- where the run stands before the line of a beat, and what that line is refused for
  unfoldable before : ℕ → Stage
  before zero = at_start h
  before (suc b) = at_beat h b (table b)

  unfoldable refusal_on : ℕ → ℕ
  refusal_on zero = start_line_refusal h (line 0)
  refusal_on (suc b) = beat_line_refusal h b (line (suc b))

  -- the line is taken as the rules say
  taken : (b : ℕ) → take_line (before b) (line b) ≡ or_refused (refusal_on b) (accepted (before (suc b)) (output_line h b (table b)))
  unfolding take_line before refusal_on table_at start sent
  taken zero = refl
  taken (suc b) = rw (add-one b)

  -- and there is none after the last beat
  in_time : (b : ℕ) → refusal_on b ≡ 0 → b ≤ last_beat
  unfolding refusal_on
  in_time zero e = omega arith
  in_time (suc b) e = omega (arith, (beat_formed h b (line (suc b)) e).1)

  -- a line of the output, where the input from its beat on is good or not: it shows the records of the beat, or is a refusal
  data Written (b : ℕ) (good : Bool) (text : List ℕ) : Type 0 where
    shown : b ≤ last_beat → text ≡ shown_line h b (table b) → Written b good text
    refusal : beat_of text ≡ none_word → good ≡ false → Written b good text

  -- the lines of the output from a beat on: if the input is good, as many as it has lines left
  record Output (b : ℕ) (good : Bool) (size : ℕ) (lines : List (List ℕ)) : Type 0 where
    pub whole : good ≡ true → length lines ≡ size
    pub at : (i : ℕ) → i < length lines → Written (b + i) good (get_or lines i [])

  -- a line and those behind it
  first_and_others : (b : ℕ) (good : Bool) (first : List ℕ) (lines : List (List ℕ)) → Written b good first
      → ((i : ℕ) → i < length lines → Written (suc b + i) good (get_or lines i []))
      → (i : ℕ) → i < suc (length lines) → Written (b + i) good (get_or (first ∷ lines) i [])
  first_and_others b good first lines w o zero l = rw (add-zero b) w
  first_and_others b good first lines w o (suc i) l = let e : b + suc i ≡ suc b + i = omega arith in rw e (o i (omega arith))

  shown_output : (b : ℕ) (good : Bool) (size : ℕ) (lines : List (List ℕ)) → b ≤ last_beat → Output (suc b) good size lines
      → Output b good (suc size) (shown_line h b (table b) ∷ lines)
  shown_output b good size lines l o =
      record { whole = λ e. ap suc (o.whole e); at = first_and_others b good (shown_line h b (table b)) lines (shown l refl) o.at }

  refusal_output : (b k why size : ℕ) → Output b false size (lines_of (refusal_line k why))
  refusal_output b k why size =
      let r = refusal_alone k why in
      rw r.1
      (record {
        whole = λ e. absurd (false≢true e);
        at = first_and_others b false r.0 [] (refusal r.2 refl) (λ i l. absurd (omega arith));
      })

  -- what is written from a beat on for the lines that are left
  output : (b k : ℕ) (left : List (List ℕ)) → ((i : ℕ) → i < length left → get_or left i [] ≡ line (b + i))
      → Output b (accepted_from left (before b)) (length left) (lines_of (run_lines k left (before b)))
  unfolding run_lines accepted_from before at_end may_end continued and_others or_refused
  output zero k [] same = refusal_output 0 k 10 0
  output (suc b) k [] same = rw no_lines (record { whole = λ e. refl; at = λ i l. absurd (omega arith) })
  output b k (l ∷ left) same =
      let here : l ≡ line b = rw (add-zero b) at (same 0 (omega arith)) in
      let others : (i : ℕ) → i < length left → get_or left i [] ≡ line (suc b + i)
      = λ i li. let e : b + suc i ≡ suc b + i = omega arith in rw e at (same (suc i) (omega arith)) in
      ⊎_elim
      (λ (z : eqb (refusal_on b) 0 ≡ true).
      rw (here, taken b, z, shown_first h b (table b) _)
      (shown_output b _ (length left) _ (in_time b (eqb-true (refusal_on b) 0 z)) (output (suc b) (suc k) left others)))
      (λ (z : eqb (refusal_on b) 0 ≡ false). rw (here, taken b, z) (refusal_output b k (refusal_on b) (suc (length left))))
      (cases_Bool (eqb (refusal_on b) 0))

  -- a header that passes its tests: every beat is accepted, and the counts settle
  module _ (tests : header_tests h ≡ 0) where
    beats_accepted : (r : ℕ) → beat_refusal h.n h.f h.c h.set (length start) (length (sent r)) (length start) ≡ 0
    unfolding start sent
    beats_accepted r =
        let held = words_length (line 0) 4 (start_words h) in
        beat_passed h tests _ _ _ held (words_length (line (suc r)) 4 (beat_words h)) held

    settled : (x : ℕ) × (x < h.c) × ((k : ℕ) → settle_beats h.f + k ≤ last_beat
        → Shows h (settle_beats h.f + k) ((x + k) % h.c) (shown_line h (settle_beats h.f + k) (table (settle_beats h.f + k))))
    unfolding shown_word word_of
    settled =
        let s = settles_on_beats h.n h.f h.c h.set start sent beats_accepted in
        let most = (counter_accepted h.n h.f h.c _ tests).most in (
          s.0,
          s.1,
          λ k l.
              line_shows h _ _ (table (settle_beats h.f + k)) l (omega (arith, mod-lt (s.0 + k) {m = h.c} (omega arith)))
              (λ v lv sv. rw (sv, s.2 k v lv sv)),
        )

    -- so every line from T(f) on that is no refusal shows them
    written_shows : (k : ℕ) (good : Bool) (text : List ℕ) → Written (settle_beats h.f + k) good text
        → (beat_of text ≡ none_word → good ≡ false → ⊥) → Shows h (settle_beats h.f + k) ((settled.0 + k) % h.c) text
    written_shows k good text (shown l e) other = rw e (settled.2 k l)
    written_shows k good text (refusal p g) other = absurd (other p g)

-- what is written for a file whose line 1 is good
file_output : (lines : List (List ℕ)) → header_refusal (get_or lines 0 []) ≡ 0
    → (size : ℕ) × (size + 1 ≡ length lines)
    × Output (header_of (get_or lines 0 [])) (λ b. get_or lines (suc b) []) 0 (accepted_from lines at_header) size
    (lines_of (run_lines 1 lines at_header))
unfolding run_lines accepted_from take_line or_refused continued and_others before header_refusal well_formed
file_output [] e = absurd (omega arith)
file_output (l ∷ left) e =
    (length left, omega arith, rw e (output (header_of l) (λ b. get_or (l ∷ left) (suc b) []) 0 2 left (λ i li. rw (zero-add i))))

header_tests_lem : (line : List ℕ) → header_refusal line ≡ 0
    → header_tests (header_of line) ≡ 0
unfolding header_refusal
header_tests_lem line e = (not_given 10 (not (well_formed header_digits line)) _ (omega arith) e).1

-- a file that is accepted to its end has a good line 1
header_accepted : (lines : List (List ℕ)) → accepted_from lines at_header ≡ true → header_refusal (get_or lines 0 []) ≡ 0
unfolding accepted_from take_line or_refused and_others may_end
header_accepted [] e = absurd (false≢true e)
header_accepted (l ∷ left) e = ⊎_elim
    (λ (z : eqb (header_refusal l) 0 ≡ true). eqb-true (header_refusal l) 0 z)
    (λ (z : eqb (header_refusal l) 0 ≡ false). absurd (false≢true (rw z at e)))
    (cases_Bool (eqb (header_refusal l) 0))

-- The same of a whole file, where a line is known to be no refusal: by its own beat, or by the file
file_settles : (lines : List (List ℕ)) → header_refusal (get_or lines 0 []) ≡ 0
    → let h = header_of (get_or lines 0 []) in let out = lines_of (run_lines 1 lines at_header) in
    (x : ℕ) × (x < h.c)
    × ((k : ℕ) → let beat = settle_beats h.f + k in beat < length out
    → (beat_of (get_or out beat []) ≡ none_word → accepted_from lines at_header ≡ false → ⊥)
    → Shows h beat ((x + k) % h.c) (get_or out beat []))
file_settles lines passed =
    let h = header_of (get_or lines 0 []) in
    let line : ℕ → List ℕ = λ b. get_or lines (suc b) [] in
    let tests = header_tests_lem (get_or lines 0 []) passed in
    let s = settled h line tests in
    let o = (file_output lines passed).2 in (
      s.0,
      s.1,
      λ k l other.
          let beat = settle_beats h.f + k in
          written_shows h line tests k _ _ (rw (zero-add beat) at (o.at beat l)) other,
    )

-- what is promised (RULES 13), in run files
pub settles_in_files : SettlesInFiles
unfolding run_text
settles_in_files text passed =
    let s = file_settles (lines_of text) (rw (line_at_lem 0 text) at passed) in
    rw (line_at_lem 0 text) (s.0, s.1, λ k l good. s.2 k l (λ p g. good p))

pub settles_in_accepted_files : SettlesInAcceptedFiles
unfolding run_text accepted_file
settles_in_accepted_files text good =
    let passed = header_accepted (lines_of text) good in
    let o = file_output (lines_of text) passed in
    let s = file_settles (lines_of text) passed in
    rw (line_at_lem 0 text) (omega (arith, o.2.whole good), (s.0, s.1, λ k l. s.2 k l (λ p g. true≢false (sym good ∙ g))))
