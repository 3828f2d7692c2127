-- A text that is fed character by character is run as a whole.
use mathlib.Core.Path.{◌≡◌, refl, sym, ◌∙◌}
use mathlib.Core.Logic.{⊎_elim}
use mathlib.Core.Bool.{true, false, not}
use mathlib.Core.List.{List, [], ◌∷◌, ◌++◌, append_assoc, append-nil}
use Prim.Native.Nat.{ℕ, suc, ◌+◌, ◌*◌, ◌≤◌, ◌<◌}
use native.Mathlib.Numerals.{add-one}
use native.Mathlib.Omega.{arith}
use borrow.Author.Tests.{lt-ltb, ne_eqb, eqb-true}
use lib.Dec.{eqb}
use lib.ListN.{length, take, get_or, length-append}
use lib.Seq.{take_all, take-append-le, length-take-le, take-suc, append_snoc}
use Rattle.std.proofs.lemmas.Bool.{cases_Bool}
use Rattle.rules.specs.Text.{line_feed, lines_of, well_formed}
use Rattle.rules.specs.RunFile.{Stage, at_header, at_start, at_beat, Taken, accepted, refused, take_line, continued, run_lines, run_text}
use Rattle.rules.specs.RunFile.{header_refusal, start_line_refusal, beat_line_refusal, start_words, beat_words, or_refused}
use Rattle.rules.proofs.Tests.{le_or_lt}
use Rattle.rules.proofs.Shapes.{not_given}
use Rattle.rules.proofs.Lines.{no_feed, no_feed_more, no_lines, line_alone, line_first}
use Rattle.text.specs.Lines.{line_length}
use Rattle.frames.proofs.Headers.{start_most, sent_most}
use Rattle.runfile.specs.Runs.{stage_tests, taken_line}
use Rattle.runfile.proofs.Takes.{taken_is}
use Rattle.feed.specs.Feeds.{Machine, reading, stopped, line_of, longest, with_more, after_line, ended, fed_byte, fed}
use Rattle.feed.specs.Feeds.{last_fed, all_written, finished, start}

-- feeding two pieces is feeding the one and then the other
pub fed_append : (feed : Machine) (a b : List ℕ) → fed feed (a ++ b) ≡ fed (fed feed a) b
unfolding fed
fed_append feed [] b = refl
fed_append feed (ch ∷ a) b = fed_append (fed_byte feed ch) a b

-- once stopped, nothing more is written
pub fed_stopped : (written text : List ℕ) → fed (stopped written) text ≡ stopped written
unfolding fed fed_byte
fed_stopped written [] = refl
fed_stopped written (ch ∷ text) = fed_stopped written text

pub stopped_all : (written : List ℕ) → finished (stopped written) ≡ written
unfolding finished last_fed all_written
stopped_all written = refl

-- the characters of a line, of which `longest` are held
one_held : (line : List ℕ) (ch : ℕ) → with_more (take longest line) ch ≡ take longest (line ++ (ch ∷ []))
unfolding with_more
one_held line ch = ⊎_elim
    (λ (l : longest ≤ length line).
    let n : length (take longest line) ≡ longest = length-take-le longest line l in
    rw (n, take-append-le longest line (ch ∷ []) l))
    (λ (l : length line < longest).
    rw (take_all longest line (omega arith), lt-ltb (length line) longest l)
    (sym (take_all longest (line ++ (ch ∷ [])) (omega (arith, length-append line (ch ∷ []))))))
    (le_or_lt longest (length line))

-- a line that is too long is refused whether or not all of it is held
too_long : (size : ℕ) (line : List ℕ) → size < length line → well_formed size line ≡ false
unfolding well_formed
too_long size line l = rw (ne_eqb (length line) size (omega arith))

refused_long : (stage : Stage) (line : List ℕ) → stage_tests stage ≡ 0 → longest ≤ length line → take_line stage line ≡ refused 10
unfolding take_line header_refusal start_line_refusal beat_line_refusal or_refused stage_tests
refused_long at_header line e l = rw (too_long 12 line (omega arith))
refused_long (at_start h) line e l = rw (too_long (4 + 4 * start_words h) line (omega (arith, start_most h e)))
refused_long (at_beat h beat table) line e l = rw (too_long (4 + 4 * beat_words h) line (omega (arith, (sent_most h e).2)))

held_enough : (stage : Stage) (line : List ℕ) → stage_tests stage ≡ 0 → taken_line stage (take longest line) ≡ take_line stage line
held_enough stage line e = ⊎_elim
    (λ (l : longest ≤ length line).
    taken_is stage (take longest line) e
    ∙ refused_long stage (take longest line) e (omega (arith, length-take-le longest line l))
    ∙ sym (refused_long stage line e l))
    (λ (l : length line < longest). rw (take_all longest line (omega arith)) (taken_is stage line e))
    (le_or_lt longest (length line))

-- an accepted line leads to such a run again, and to the next line's number
pub unrefused : (refusal : ℕ) (stage next : Stage) (text written : List ℕ)
    → or_refused refusal (accepted stage text) ≡ accepted next written → (refusal ≡ 0) × (stage ≡ next)
unfolding or_refused
unrefused refusal stage next text written e = ⊎_elim
    (λ (z : eqb refusal 0 ≡ true). (eqb-true refusal 0 z, let k = rw z at e in cc))
    (λ (z : eqb refusal 0 ≡ false). let k = rw z at e in let y : ◌≡◌ {A = ℕ} 0 1 = cc in absurd (omega arith))
    (cases_Bool (eqb refusal 0))

pub unrefused_text : (refusal : ℕ) (stage next : Stage) (text written : List ℕ)
    → or_refused refusal (accepted stage text) ≡ accepted next written → text ≡ written
unfolding or_refused
unrefused_text refusal stage next text written e = ⊎_elim
    (λ (z : eqb refusal 0 ≡ true). let k = rw z at e in cc)
    (λ (z : eqb refusal 0 ≡ false). let k = rw z at e in let y : ◌≡◌ {A = ℕ} 0 1 = cc in absurd (omega arith))
    (cases_Bool (eqb refusal 0))

next_line : (stage next : Stage) (line text : List ℕ) → stage_tests stage ≡ 0 → take_line stage line ≡ accepted next text
    → (stage_tests next ≡ 0) × (line_of next ≡ suc (line_of stage))
unfolding take_line stage_tests line_of header_refusal
next_line at_header next line text e t =
    let u = unrefused (header_refusal line) _ next _ text t in
    rw (← u.1) ((not_given 10 (not (well_formed 12 line)) _ (omega arith) u.0).1, refl)
next_line (at_start h) next line text e t =
    let u = unrefused (start_line_refusal h line) _ next _ text t in
    rw (← u.1) (e, refl)
next_line (at_beat h beat table) next line text e t =
    let u = unrefused (beat_line_refusal h beat line) _ next _ text t in
    rw (← u.1) (e, omega arith)

-- one line is taken, and then the others are
after_line_lem : (stage : Stage) (written : List ℕ) (t : Taken) (go_on : Machine → List ℕ) (others : Stage → List ℕ)
    → ((w : List ℕ) → go_on (stopped w) ≡ w)
    → ((next : Stage) (text : List ℕ) → t ≡ accepted next text
    → go_on (reading next [] (written ++ text)) ≡ (written ++ text) ++ others next)
    → go_on (after_line stage written t) ≡ written ++ continued (line_of stage) t others
unfolding after_line continued
after_line_lem stage written (accepted next text) go_on others s h = h next text refl ∙ append_assoc written text (others next)
after_line_lem stage written (refused refusal) go_on others s h = s (written ++ _)

-- the last line
last_line : (line : List ℕ) (stage : Stage) (written : List ℕ) → stage_tests stage ≡ 0 → no_feed line
    → finished (reading stage (take longest line) written) ≡ written ++ run_lines (line_of stage) (lines_of line) stage
unfolding finished last_fed all_written ended run_lines
last_line [] stage written e p = rw no_lines
last_line (ch ∷ line) stage written e p =
    rw (line_alone ch line p, held_enough stage (ch ∷ line) e)
    (after_line_lem stage written (take_line stage (ch ∷ line)) all_written (run_lines (suc (line_of stage)) []) (λ w. refl)
    (λ next text t. rw (next_line stage next (ch ∷ line) text e t).1))

-- from any place of a text on
fed_lines : (text line : List ℕ) (stage : Stage) (written : List ℕ) → stage_tests stage ≡ 0 → no_feed line
    → finished (fed (reading stage (take longest line) written) text) ≡ written ++ run_lines (line_of stage) (lines_of (line ++ text)) stage
unfolding fed fed_byte ended run_lines no_feed
fed_lines [] line stage written e p = rw (append-nil line) (last_line line stage written e p)
fed_lines (ch ∷ rest) line stage written e p = ⊎_elim
    (λ (z : eqb ch line_feed ≡ true).
    let y : ch ≡ line_feed = eqb-true ch line_feed z in
    rw (z, y, line_first line rest p, held_enough stage line e)
    (after_line_lem stage written (take_line stage line) (λ f. finished (fed f rest)) (run_lines (suc (line_of stage)) (lines_of rest))
    (λ w. rw (fed_stopped w rest) (stopped_all w))
    (λ next text t.
    let n = next_line stage next line text e t in
    rw (← n.1) (fed_lines rest [] next (written ++ text) n.0 tt))))
    (λ (z : eqb ch line_feed ≡ false).
    rw (z, one_held line ch, ← (append_snoc line ch rest))
    (fed_lines rest (line ++ (ch ∷ [])) stage written e (no_feed_more line ch p z)))
    (cases_Bool (eqb ch line_feed))

-- a text that is fed character by character writes what the rules say of the whole text
pub fed_all : (text : List ℕ) → finished (fed start text) ≡ run_text text
unfolding run_text stage_tests line_of no_feed
fed_all text = fed_lines text [] at_header [] refl tt

-- a character that is no line feed is held
fed_one : (ch : ℕ) (t line : List ℕ) (stage : Stage) (written : List ℕ) → eqb ch line_feed ≡ false
    → fed (reading stage (take longest line) written) (ch ∷ t) ≡ fed (reading stage (take longest (line ++ (ch ∷ []))) written) t
unfolding fed fed_byte
fed_one ch t line stage written z = rw (z, one_held line ch)

pub nothing_fed : (feed : Machine) → fed feed [] ≡ feed
unfolding fed
nothing_fed feed = refl

-- the part of a piece up to the next line feed is held
pub part_held : (t line : List ℕ) (stage : Stage) (written : List ℕ)
    → fed (reading stage (take longest line) written) (take (line_length t) t)
    ≡ reading stage (take longest (line ++ take (line_length t) t)) written
unfolding line_length
part_held [] line stage written = rw (append-nil line) (nothing_fed _)
part_held (ch ∷ rest) line stage written = ⊎_elim
    (λ (z : eqb ch line_feed ≡ true). rw (z, append-nil line) (nothing_fed _))
    (λ (z : eqb ch line_feed ≡ false).
    rw z
    (fed_one ch (take (line_length rest) rest) line stage written z
    ∙ part_held rest (line ++ (ch ∷ [])) stage written
    ∙ rw (append_snoc line ch (take (line_length rest) rest))))
    (cases_Bool (eqb ch line_feed))

feed_there : (t : List ℕ) → line_length t < length t → get_or t (line_length t) 0 ≡ line_feed
unfolding line_length
feed_there [] l = absurd (omega arith)
feed_there (ch ∷ rest) l = ⊎_elim
    (λ (z : eqb ch line_feed ≡ true). rw z (eqb-true ch line_feed z))
    (λ (z : eqb ch line_feed ≡ false). let k : suc (line_length rest) < suc (length rest) = rw z at l in
    rw z (feed_there rest (omega arith)))
    (cases_Bool (eqb ch line_feed))

-- and at the line feed the line is at its end
pub part_ended : (t line : List ℕ) (stage : Stage) (written : List ℕ) → line_length t < length t
    → fed (reading stage (take longest line) written) (take (line_length t + 1) t)
    ≡ ended stage (take longest (line ++ take (line_length t) t)) written
unfolding fed fed_byte
part_ended t line stage written l =
    rw (
      add-one (line_length t),
      take-suc t (line_length t) 0 l,
      feed_there t l,
      fed_append (reading stage (take longest line) written) (take (line_length t) t) (line_feed ∷ []),
      part_held t line stage written,
    )
