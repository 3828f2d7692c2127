use Rattle.std.proofs.Common.{◌≡◌, [], ◌+◌, ◌-◌, drop, sym, ◌∙◌, arith}
use lib.ListN.{drop_of_length-le}
use lib.Seq.{drop-nil}
use Rattle.rules.specs.Text.{lines_of}
use Rattle.text.proofs.FirstLine.{end_within, one_passed, line_stands, no_line, no_line_0}
use Rattle.text.proofs.lines.place_of.Goals as goal

-- no line is left
pub returns-then-text-start : goal.returns-then-text-start
unfolding lines_of
returns-then-text-start c =
    let a = c.args in
    let none : drop (a.k - 1) (lines_of a.text.now) ≡ [] =
    sym c.loop-number.invariant.left ∙ rw (drop_of_length-le a.text.now {i = c.loop-number.start} (omega arith))
    (drop-nil (a.k - c.loop-number.number)) in
    no_line a.k a.text.now (omega arith) none

pub returns-then-number-k : goal.returns-then-number-k
returns-then-number-k c =
    let a = c.args in
    let left = a.k - c.loop-number.number in
    rw c.line_end-end.ensures
    (line_stands a.k a.text.now c.loop-number.start left (omega arith) (omega arith) (omega arith)
    c.loop-number.invariant.left c.loop-number.invariant.passed)

pub overflow_add-start : goal.overflow_add-start
overflow_add-start c = omega (arith, c.line_end-end.ensures, end_within c.args.text.now c.loop-number.start (omega arith))

pub loop-number-preserved : goal.loop-number-preserved
loop-number-preserved c =
    let a = c.args in
    let left = a.k - c.loop-number.number in
    let p = one_passed a.text.now c.loop-number.start left (left - 1) (omega arith) (omega arith) in
    let next : a.k - (c.loop-number.number + 1) ≡ left - 1 = omega arith in
    rw (c.line_end-end.ensures, next)
    record { counted = omega arith; left = p.0 ∙ c.loop-number.invariant.left; passed = p.1 ∙ c.loop-number.invariant.passed }

-- there is no line 0
pub returns : goal.returns
returns c = no_line_0 c.args.text.now c.args.k (omega arith)
