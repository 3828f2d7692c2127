-- RULES 11: run files and the run program.
use Rattle.std.specs.Prelude.{ℕ, suc, ◌+◌, ◌*◌, cond, not, ◌&&◌, List, [], ◌∷◌, ◌++◌, eqb, leb}
use Rattle.rules.specs.Counting.{rows}
use Rattle.rules.specs.Parameters.{record_words, none_word}
use Rattle.rules.specs.Groups.{heard_in, word_of}
use Rattle.rules.specs.OneBeat.{shown_count}
use Rattle.rules.specs.WholeBeat.{is_broken, bad_set, sent_words, table_after}
use Rattle.rules.specs.Text.{hex_of, number_at, well_formed, words_at, lines_of, line_feed}
use Rattle.rules.specs.Refusals.{given, counter_refusal}

-- what line 1 says
pub record Header : Type 0 where
  pub n : ℕ
  pub f : ℕ
  pub c : ℕ
  pub set : ℕ

-- RULES 11.1: "n (2 digits), f (2 digits), c (4 digits), the broken set (4 digits)."
abbrev pub header_digits : ℕ
header_digits = 12

unfoldable pub header_of : List ℕ → Header
header_of line = record { n = number_at line 0 2; f = number_at line 2 2; c = number_at line 4 4; set = number_at line 8 4 }

-- RULES 11.5: "Line 1 is then tested for 1, 2, 3 and 7."
abbrev pub header_tests : Header → ℕ
header_tests h = counter_refusal h.n h.f h.c (given 7 (bad_set h.n h.f h.set) 0)

-- RULES 11.5: "On every line, 10 comes first"
unfoldable pub header_refusal : List ℕ → ℕ
header_refusal line = given 10 (not (well_formed header_digits line)) (header_tests (header_of line))

-- RULES 11.3: "its beat (4 digits)", and then words of 4 digits
abbrev pub frame_digits : ℕ → ℕ
frame_digits words = 4 + 4 * words

abbrev pub beat_of : List ℕ → ℕ
beat_of line = number_at line 0 4

-- RULES 11.2: "The beat 0000, then the n records that the cards start with."; RULES 11.5: "Line 2 with a beat other than 0000 is 11."
abbrev pub start_words : Header → ℕ
start_words h = h.n * record_words h.f

unfoldable pub start_line_refusal : Header → List ℕ → ℕ
start_line_refusal h line =
    given 10 (not (well_formed (frame_digits (start_words h)) line)) (given 11 (not (eqb (beat_of line) 0)) 0)

-- RULES 11.3: "Each later line has its beat (4 digits), then the broken cards' words for that beat."
abbrev pub beat_words : Header → ℕ
beat_words h = sent_words h.n h.f h.set

-- RULES 11.3: "Beats run from 0001 to fffe."
abbrev pub last_beat : ℕ
last_beat = 65534

-- RULES 11.5: "A later line whose beat is not the next one is 11, and so is any well-formed line after beat fffe."
unfoldable pub beat_line_refusal : Header → ℕ → List ℕ → ℕ
beat_line_refusal h beat line =
    given 10 (not (well_formed (frame_digits (beat_words h)) line))
    (given 11 (not (eqb (beat_of line) (beat + 1) && leb (beat_of line) last_beat)) 0)

-- RULES 11.4: "for each card in order, its shown count (4 digits), ffff for none and for a broken card"
unfoldable pub shown_word : Header → List ℕ → ℕ → ℕ
shown_word h table v =
    cond (is_broken h.set v) none_word (word_of (shown_count h.f h.c (heard_in (record_words h.f) table v)))

-- RULES 11.4: "Every output line ends with a line feed."
unfoldable pub output_line : Header → ℕ → List ℕ → List ℕ
output_line h beat table = hex_of 4 beat ++ rows h.n (λ (v : ℕ). hex_of 4 (shown_word h table v)) ++ (line_feed ∷ [])

-- RULES 11.5: "At the first bad line the run program writes ffff, the number of the line (8 digits) and the refusal (2 digits), and
-- stops."
unfoldable pub refusal_line : ℕ → ℕ → List ℕ
refusal_line k refusal = hex_of 4 none_word ++ hex_of 8 k ++ hex_of 2 refusal ++ (line_feed ∷ [])

-- where a run file stands between two lines
pub data Stage : Type 0 where
  at_header : Stage
  at_start : Header → Stage
  at_beat : Header → ℕ → List ℕ → Stage

-- what a line does: the run goes on and some text is written, or it is refused
pub data Taken : Type 0 where
  accepted : Stage → List ℕ → Taken
  refused : ℕ → Taken

unfoldable pub or_refused : ℕ → Taken → Taken
or_refused refusal taken = cond (eqb refusal 0) taken (refused refusal)

-- one line
unfoldable pub take_line : Stage → List ℕ → Taken
take_line at_header line = or_refused (header_refusal line) (accepted (at_start (header_of line)) [])
take_line (at_start h) line =
    let table = words_at line 4 (start_words h) in
    or_refused (start_line_refusal h line) (accepted (at_beat h 0 table) (output_line h 0 table))
take_line (at_beat h beat table) line =
    let next = table_after h.n h.f h.c h.set table (words_at line 4 (beat_words h)) in
    or_refused (beat_line_refusal h beat line) (accepted (at_beat h (beat + 1) next) (output_line h (beat + 1) next))

-- RULES 11.5: "If line 1 or line 2 is missing, its number is given with 10."; RULES 11.3: "The file may end after line 2 or after any
-- later line."
unfoldable pub at_end : ℕ → Stage → List ℕ
at_end k at_header = refusal_line k 10
at_end k (at_start h) = refusal_line k 10
at_end k (at_beat h beat table) = []

-- go on after a line, or write its refusal and stop
unfoldable pub continued : ℕ → Taken → (Stage → List ℕ) → List ℕ
continued k (accepted stage written) others = written ++ others stage
continued k (refused refusal) others = refusal_line k refusal

-- what is written for the lines from line k on
unfoldable pub run_lines : ℕ → List (List ℕ) → Stage → List ℕ
run_lines k [] stage = at_end k stage
run_lines k (line ∷ others) stage = continued k (take_line stage line) (run_lines (suc k) others)

-- the whole output text of the run program for a whole input text
unfoldable pub run_text : List ℕ → List ℕ
run_text text = run_lines 1 (lines_of text) at_header
