use Prim.Native.Nat.{◌≤◌, ◌<◌}
use native.Mathlib.Omega.{arith}
use lib.ListN.{length}
use Rattle.text.proofs.FirstLine.{end_within}
use Rattle.feed.proofs.Calls.{feeds_stopped, feeds_held, feeds_ended}
use Rattle.feed.proofs.Run.feed_from.Goals as goal
use Rattle.feed.proofs.Run.feed_from.Goals.{After-line_end-end}

within : (c : After-line_end-end) → c.line_end-end.result ≤ length c.args.piece.now
within c = omega (arith, end_within c.args.piece.now c.min-from.result (omega arith))

pub overflow_add-end : goal.overflow_add-end
overflow_add-end c = omega (arith, within c)

pub returns-in_default : goal.returns-in_default
returns-in_default c =
    feeds_stopped c.args.self.now c.args.piece.now c.args.at c.args.out.now _ _ _
    c.min-from.ensures c.line_end-end.ensures (omega arith) c.in_default.is

pub slice_bounds-hold-end : goal.slice_bounds-hold-end
slice_bounds-hold-end c = omega (arith, within (goal.at.slice_bounds-hold-end c).After-line_end-end)

pub returns-then-end-piece : goal.returns-then-end-piece
returns-then-end-piece c =
    feeds_held c.args.self.now c.args.piece.now c.args.at c.args.out.now _ _ _ _ _ _ _ (omega arith)
    c.min-from.ensures c.line_end-end.ensures (omega arith) c.in-Reading.is c.hold-count.ensures c.if-end-piece.true

pub returns : goal.returns
returns c =
    let l = within (goal.at.returns c).After-line_end-end in
    let before : c.line_end-end.result < length c.args.piece.now = omega (arith, c.if-end-piece.false) in
    feeds_ended c.args.self.now c.args.piece.now c.args.at c.args.out.now _ _ _ _ _ _ _ (omega arith) c.end_line-feed.result _ _
    c.min-from.ensures c.line_end-end.ensures (omega arith) c.in-Reading.is c.hold-count.ensures before c.end_line-feed.ensures
