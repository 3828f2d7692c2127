-- A later line is refused as the rules say, or the records after its beat are stored and shown.
use mathlib.Core.Path.{◌≡◌, sym, ap, ◌∙◌}
use Prim.Native.Nat.{◌+◌, ◌≤◌}
use native.Mathlib.Omega.{arith}
use lib.ListN.{length}
use Rattle.std.proofs.lemmas.Result.{err_from_is_err_and}
use Rattle.rules.specs.RunFile.{start_words, beat_line_refusal, output_line, at_beat, take_line}
use Rattle.rules.proofs.RunFiles.{beat_formed}
use Rattle.frames.specs.Headers.{said}
use Rattle.frames.proofs.Headers.{start_most}
use Rattle.frames.proofs.Shown.{line_of_stored}
use Rattle.runfile.specs.declared.Stage.TheVariants.{AtBeat}
use Rattle.runfile.specs.Runs.{stage_of, kept_of, table_of, table_next}
use Rattle.runfile.proofs.Takes.{refused_takes, accepted_takes, next_length}
use Rattle.runfile.proofs.take_beat.Goals as goal

pub returns-in_err-beat_line_refusal : goal.returns-in_err-beat_line_refusal
unfolding take_line stage_of
returns-in_err-beat_line_refusal c =
    let p = err_from_is_err_and c.from_residual.result c.from_residual.ensures.1 in
    rw (p.1, p.2) (refused_takes _ _ _ _ _ _ c.in_err-beat_line_refusal.ensures)

pub next_table-requires : goal.next_table-requires
next_table-requires c =
    let a = c.args in
    (c.requires, (beat_formed (said a.header.rack) a.beat a.line.now (sym c.in_ok-beat_line_refusal.ensures)).0)

pub overflow_add-next : goal.overflow_add-next
overflow_add-next c =
    let a = c.args in
    omega (arith, beat_formed (said a.header.rack) a.beat a.line.now (sym c.in_ok-beat_line_refusal.ensures))

pub put_line-requires : goal.put_line-requires
put_line-requires c =
    omega (arith, start_most (said c.args.header.rack) c.args.header.passes, c.requires, c.next_table.auto.table)

pub returns : goal.returns
unfolding take_line stage_of kept_of table_of
returns c =
    let a = c.args in
    let h = said a.header.rack in
    let table = a.table.now in
    let line = a.line.now in
    let next = a.beat + 1 in
    let records = table_next h table line in
    let fits : start_words h ≤ length table = omega (arith, start_most h c.args.header.passes, c.requires) in
    let text : output_line h next c.next_table.new.table ≡ output_line h next records =
    rw c.next_table.ensures (line_of_stored h next table records (next_length h table line) fits) in
    accepted_takes (AtBeat a.header.rack a.beat) (beat_line_refusal h a.beat line) (at_beat h next records) (output_line h next records)
    table a.out.now _ _ _ (sym c.in_ok-beat_line_refusal.ensures) c.next_table.ensures
    (c.put_line.ensures.1 ∙ rw text) (c.put_line.ensures.0 ∙ ap length text)
