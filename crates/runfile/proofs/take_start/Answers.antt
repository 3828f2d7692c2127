-- Line 2 is refused as the rules say, or its records are stored and shown.
use mathlib.Core.Path.{◌≡◌, sym, ap, ◌∙◌}
use mathlib.Core.List.{◌++◌}
use Prim.Native.Nat.{◌≤◌}
use native.Mathlib.Omega.{arith}
use lib.ListN.{length, drop}
use lib.Seq.{sets, length-take-le}
use Rattle.std.proofs.lemmas.Result.{err_from_is_err_and}
use Rattle.rules.specs.Text.{words_at}
use Rattle.rules.specs.RunFile.{start_words, start_line_refusal, output_line, at_beat, take_line}
use Rattle.rules.proofs.RunFiles.{start_formed}
use Rattle.digits.proofs.WordsOfText.{words_length}
use Rattle.frames.specs.Headers.{said}
use Rattle.frames.proofs.Shown.{line_of_stored}
use Rattle.frames.proofs.Stores.{prefix_stored}
use Rattle.runfile.specs.declared.Stage.TheVariants.{AtStart}
use Rattle.runfile.specs.Runs.{kept_of, table_of}
use Rattle.runfile.proofs.Takes.{refused_takes, accepted_takes}
use Rattle.runfile.proofs.take_start.Goals as goal

pub returns-in_err-start_line_refusal : goal.returns-in_err-start_line_refusal
unfolding take_line
returns-in_err-start_line_refusal c =
    let p = err_from_is_err_and c.from_residual.result c.from_residual.ensures.1 in
    rw (p.1, p.2) (refused_takes _ _ _ _ _ _ c.in_err-start_line_refusal.ensures)

pub read_words-requires : goal.read_words-requires
read_words-requires c =
    let a = c.args in
    let few = c.start_words.ensures in
    rw (length-take-le c.start_words.result a.table.now (omega (arith, few.1, c.requires)), few.0)
    (start_formed (said a.header.rack) a.line.now (sym c.in_ok-start_line_refusal.ensures))

pub returns : goal.returns
unfolding take_line kept_of table_of
returns c =
    let a = c.args in
    let h = said a.header.rack in
    let table = a.table.now in
    let count = c.start_words.result in
    let few = c.start_words.ensures in
    let fits : count ≤ length table = omega (arith, few.1, c.requires) in
    let words = words_at a.line.now 4 (start_words h) in
    let long = words_length a.line.now 4 (start_words h) in
    let read : c.read_words.new.buffer ≡ words = c.read_words.ensures ∙ rw (length-take-le count table fits, few.0) in
    let stored : c.read_words.new.buffer ++ drop count table ≡ sets table 0 words =
    rw read (prefix_stored table words count (rw few.0 long) fits) in
    let text : output_line h 0 (c.read_words.new.buffer ++ drop count table) ≡ output_line h 0 words =
    rw stored (line_of_stored h 0 table words long (rw few.0 at fits)) in
    accepted_takes (AtStart a.header.rack) (start_line_refusal h a.line.now) (at_beat h 0 words) (output_line h 0 words)
    table a.out.now _ _ _ (sym c.in_ok-start_line_refusal.ensures) stored
    (c.put_line.ensures.1 ∙ rw text) (c.put_line.ensures.0 ∙ ap length text)
