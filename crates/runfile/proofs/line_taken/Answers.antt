-- A run whose header passes its tests takes the line as the rules say, case by case.
use mathlib.Core.Path.{refl, sym, ap, ◌∙◌}
use Rattle.std.proofs.lemmas.Result.{err_from_is_err_and}
use Rattle.runfile.specs.declared.Stage.TheVariants.{AtHeader, AtStart, AtBeat}
use Rattle.runfile.specs.Runs.{kept_tests, stage_of}
use Rattle.runfile.proofs.Takes.{untested, header_takes, takes_as}
use Rattle.runfile.proofs.line_taken.Goals as goal

pub returns-in_err-of-in-AtStart : goal.returns-in_err-of-in-AtStart
unfolding kept_tests
returns-in_err-of-in-AtStart c =
    let a = c.args in
    let p = err_from_is_err_and c.from_residual.result c.from_residual.ensures.1 in
    rw (p.1, p.2)
    (untested a.stage _ a.table.now a.line.now a.out.now _ c.in-AtStart.is c.in_err-of-in-AtStart.ensures.0)

pub returns-in_err-of-in-AtBeat : goal.returns-in_err-of-in-AtBeat
unfolding kept_tests
returns-in_err-of-in-AtBeat c =
    let a = c.args in
    let r = c.from_residual-in_err-of-in-AtBeat in
    let p = err_from_is_err_and r.result r.ensures.1 in
    rw (p.1, p.2)
    (untested a.stage _ a.table.now a.line.now a.out.now _ c.in-AtBeat.is c.in_err-of-in-AtBeat.ensures.0)

pub returns-in-AtHeader : goal.returns-in-AtHeader
unfolding stage_of kept_tests
returns-in-AtHeader c =
    let a = c.args in
    takes_as a.stage AtHeader a.table.now a.line.now a.out.now _ _ _ c.in-AtHeader.is refl
    (header_takes a.line.now a.table.now a.out.now _ c.take_header.ensures)

pub returns-in_ok-of-in-AtStart : goal.returns-in_ok-of-in-AtStart
unfolding stage_of kept_tests
returns-in_ok-of-in-AtStart c =
    let a = c.args in
    let same = c.in_ok-of-in-AtStart.ensures.1 in
    takes_as a.stage (AtStart c.in_ok-of-in-AtStart.field-0.rack) a.table.now a.line.now a.out.now _ _ _
    (c.in-AtStart.is ∙ ap AtStart (sym same)) c.in_ok-of-in-AtStart.field-0.passes c.take_start.ensures

pub returns-in_ok-of-in-AtBeat : goal.returns-in_ok-of-in-AtBeat
unfolding kept_tests
returns-in_ok-of-in-AtBeat c =
    let a = c.args in
    let same = c.in_ok-of-in-AtBeat.ensures.1 in
    takes_as a.stage (AtBeat c.in_ok-of-in-AtBeat.field-0.rack c.in-AtBeat.beat) a.table.now a.line.now a.out.now _ _ _
    (c.in-AtBeat.is ∙ rw (← same)) c.in_ok-of-in-AtBeat.field-0.passes c.take_beat.ensures
