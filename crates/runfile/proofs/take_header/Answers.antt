-- Line 1 is refused as the rules say, or it is well formed and read.
use borrow.Author.Tests.{not-false}
use mathlib.Core.Path.{refl, sym}
use mathlib.Core.Bool.{not}
use mathlib.Core.List.{[]}
use native.Mathlib.Omega.{arith}
use Rattle.std.proofs.lemmas.Result.{err_from_is_err_and}
use Rattle.rules.specs.Text.{well_formed}
use Rattle.rules.specs.RunFile.{at_start, header_of, header_refusal, take_line}
use Rattle.rules.proofs.Shapes.{not_given}
use Rattle.runfile.specs.declared.Stage.TheVariants.{AtHeader}
use Rattle.runfile.specs.Runs.{kept_of}
use Rattle.runfile.proofs.Takes.{refused_answers, accepted_answers}
use Rattle.runfile.proofs.take_header.Goals as goal

pub returns-in_err-header_refusal : goal.returns-in_err-header_refusal
unfolding take_line
returns-in_err-header_refusal c =
    let p = err_from_is_err_and c.from_residual.result c.from_residual.ensures.1 in
    rw (p.1, p.2) (refused_answers AtHeader _ _ _ c.in_err-header_refusal.ensures)

pub header_of-requires : goal.header_of-requires
unfolding header_refusal
header_of-requires c =
    let line = c.args.line.now in
    not-false (well_formed 12 line) (not_given 10 (not (well_formed 12 line)) _ (omega arith) (sym c.in_ok-header_refusal.ensures)).0

pub returns : goal.returns
unfolding take_line kept_of
returns c =
    let line = c.args.line.now in
    rw c.header_of.ensures
    (accepted_answers AtHeader (header_refusal line) (at_start (header_of line)) [] 0 (sym c.in_ok-header_refusal.ensures) refl)
