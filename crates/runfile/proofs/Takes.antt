-- What a line does to the buffers, refused or accepted.
use mathlib.Core.Path.{◌≡◌, refl, sym, ap, ◌∙◌}
use mathlib.Core.Logic.{⊎_elim}
use mathlib.Core.Bool.{true, false}
use mathlib.Core.List.{List, []}
use Prim.Native.Nat.{ℕ, ◌≤◌}
use borrow.Author.Tests.{eq-eqb, ne_eqb}
use lib.Dec.{eqb}
use lib.ListN.{length, take}
use lib.Seq.{sets, length-take-le}
use Rattle.std.proofs.lemmas.Bool.{cases_Bool}
use Rattle.std.specs.Prelude.{Result, Ok, Err}
use Rattle.rules.specs.declared.Refusal.{Refusal}
use Rattle.rules.specs.Refusals.{number_of}
use Rattle.rules.specs.Parameters.{record_words}
use Rattle.rules.specs.WholeBeat.{table_after}
use Rattle.rules.specs.Calls.{beat_out}
use Rattle.rules.specs.RunFile.{Header, header_tests, start_words, beat_words}
use Rattle.rules.specs.RunFile.{Stage, at_header, Taken, accepted, header_refusal, or_refused, take_line}
use Rattle.rules.proofs.Numbers.{number_not_0}
use Rattle.rules.proofs.Lists.{rows_length}
use Rattle.rules.proofs.Records.{record_length}
use Rattle.rules.proofs.RunFiles.{beat_passed}
use Rattle.rack.specs.declared.Rack.{Rack}
use Rattle.frames.specs.Headers.{said}
use Rattle.runfile.specs.declared.Stage.{Stage as KeptStage}
use Rattle.runfile.specs.declared.Stage.TheVariants.{AtHeader, AtStart, AtBeat}
use Rattle.runfile.specs.declared.Taken.{Taken as KeptTaken}
use Rattle.runfile.specs.Runs.{stage_of, kept_of, table_of, kept_tests, stage_tests, taken_line}
use Rattle.runfile.specs.Runs.{records_after, table_next, refusal_in, answer_of, table_in, text_in, Answers, Takes}

-- a line is refused by the refusal that the rules give
pub refused_answers : (stage : KeptStage) (number : ℕ) (e : Refusal) (t : Taken) → number_of e ≡ number
    → Answers stage (or_refused number t) (Err e)
unfolding or_refused answer_of refusal_in
refused_answers stage number e t n =
    rw (← n, ne_eqb (number_of e) 0 (number_not_0 e)) (record { refusal = refl; taken = refl })

pub refused_takes : (stage : KeptStage) (number : ℕ) (e : Refusal) (t : Taken) (table out : List ℕ) → number_of e ≡ number
    → Takes stage (or_refused number t) table out (Err e) table out
unfolding or_refused table_in text_in
refused_takes stage number e t table out n =
    let not_0 : eqb number 0 ≡ false = rw (← n) (ne_eqb (number_of e) 0 (number_not_0 e)) in
    record { answer = refused_answers stage number e t n; records = rw not_0; line = rw not_0 }

-- and accepted where they give none
pub accepted_answers : (stage : KeptStage) (number : ℕ) (next : Stage) (text : List ℕ) (written : ℕ)
    → number ≡ 0 → written ≡ length text
    → Answers stage (or_refused number (accepted next text)) (Ok (record { stage = kept_of next; written = written }))
unfolding or_refused answer_of refusal_in
accepted_answers stage number next text written e w =
    rw (eq-eqb number 0 e) (record { refusal = refl; taken = rw w })

pub accepted_takes : (stage : KeptStage) (number : ℕ) (next : Stage) (text table out table_next out_next : List ℕ) (written : ℕ)
    → number ≡ 0 → table_next ≡ sets table 0 (table_of next) → out_next ≡ sets out 0 text → written ≡ length text
    → Takes stage (or_refused number (accepted next text)) table out
    (Ok (record { stage = kept_of next; written = written })) table_next out_next
unfolding or_refused table_in text_in
accepted_takes stage number next text table out table_next out_next written e p q w =
    record {
      answer = accepted_answers stage number next text written e w;
      records = rw (eq-eqb number 0 e) p;
      line = rw (eq-eqb number 0 e) q;
    }

-- a run keeps the tests of its header
pub tests_kept : (stage : KeptStage) (table : List ℕ) → stage_tests (stage_of stage table) ≡ kept_tests stage
unfolding stage_tests stage_of kept_tests
tests_kept AtHeader table = refl
tests_kept (AtStart rack) table = refl
tests_kept (AtBeat rack beat) table = refl

-- the run of a file passes its tests
pub taken_is : (stage : Stage) (line : List ℕ) → stage_tests stage ≡ 0 → taken_line stage line ≡ take_line stage line
unfolding taken_line or_refused
taken_is stage line e = rw e

-- line 1 leaves the buffers as they are
header_writes : (line : List ℕ) → (table_in (take_line at_header line) ≡ []) × (text_in (take_line at_header line) ≡ [])
unfolding take_line or_refused table_in text_in table_of
header_writes line = ⊎_elim
    (λ (z : eqb (header_refusal line) 0 ≡ true). rw z (refl, refl))
    (λ (z : eqb (header_refusal line) 0 ≡ false). rw z (refl, refl))
    (cases_Bool (eqb (header_refusal line) 0))

pub header_takes : (line table out : List ℕ) (r : Result KeptTaken Refusal) → Answers AtHeader (take_line at_header line) r
    → Takes AtHeader (take_line at_header line) table out r table out
header_takes line table out r e =
    let w = header_writes line in
    record { answer = e; records = rw w.0; line = rw w.1 }

-- the records after a beat have their words
pub after_length : (h : Header) (held sent : List ℕ) → length (table_after h.n h.f h.c h.set held sent) ≡ start_words h
unfolding table_after
after_length h held sent = rows_length h.n (record_words h.f) _ (λ v l. record_length h.n h.f h.c h.set held sent v)

pub next_length : (h : Header) (table line : List ℕ) → length (table_next h table line) ≡ start_words h
next_length h table line = after_length h _ _

-- where the run is known and passes its tests, a line is taken as the rules say
pub takes_as : (stage known : KeptStage) (table line out : List ℕ) (r : Result KeptTaken Refusal) (table_next out_next : List ℕ)
    → stage ≡ known → kept_tests known ≡ 0
    → Takes known (take_line (stage_of known table) line) table out r table_next out_next
    → Takes stage (taken_line (stage_of stage table) line) table out r table_next out_next
takes_as stage known table line out r table_next out_next e z t =
    rw (e, taken_is (stage_of known table) line (tests_kept known table ∙ z)) t

-- and where it does not pass them, it is refused by their number
pub untested : (stage known : KeptStage) (table line out : List ℕ) (e : Refusal) → stage ≡ known → number_of e ≡ kept_tests known
    → Takes stage (taken_line (stage_of stage table) line) table out (Err e) table out
unfolding taken_line
untested stage known table line out e k n =
    rw k (refused_takes known _ e (take_line (stage_of known table) line) table out (n ∙ sym (tests_kept known table)))

-- a whole beat on the records of a rack that passes its tests: they are those after it, as many as before
pub beat_done : (rack : Rack) (table sent blank next : List ℕ) (words : ℕ) → header_tests (said rack) ≡ 0 → words ≡ start_words (said rack)
    → length sent ≡ beat_words (said rack) → words ≤ length table → words ≤ length blank
    → next ≡ beat_out rack.counter.n rack.counter.f rack.counter.c rack.set (take words table) sent (take words blank)
    → (next ≡ records_after (said rack) table sent) × (length next ≡ words)
unfolding beat_out
beat_done rack table sent blank next words p e q l m n =
    let h = said rack in
    let held = length-take-le words table l in
    let out = length-take-le words blank m in
    let all : next ≡ table_after h.n h.f h.c h.set (take words table) sent =
    n ∙ rw (beat_passed h p (length (take words table)) (length sent) (length (take words blank)) (held ∙ e) q (out ∙ e)) in
    (rw e at all, ap length all ∙ after_length h (take words table) sent ∙ sym e)
