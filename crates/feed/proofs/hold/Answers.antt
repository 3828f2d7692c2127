use native.Mathlib.Omega.{arith}
use Rattle.feed.proofs.Calls.{part_holds, part_stored}
use Rattle.feed.proofs.hold.Goals as goal

pub returns : goal.returns
returns c =
    let a = c.args in
    part_holds a.line.now a.held (omega arith) a.part.now _ _ (omega arith)
    (part_stored a.line.now a.held (omega arith) a.part.now _ _ _ (omega arith) (omega arith) c.copy_from_slice.ensures.after)
