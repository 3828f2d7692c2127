use borrow.Author.Rules.{rules}
use Rattle.runfile.specs.Runs.{stage_of}
use Rattle.feed.specs.Feeds.{ended}
use Rattle.feed.proofs.Calls.{taken_not_0, accepted_sized, accepted_short, ends_refused, ends_accepted}
use Rattle.feed.proofs.end_line.Goals as goal

pub returns-in-Ok : goal.returns-in-Ok
unfolding ended
returns-in-Ok c =
    let a = c.args in
    let line = a.line.now in
    let stage = stage_of a.stage a.table.now in
    ends_accepted a.stage _ a.table.now a.out.now c.in-Ok.taken _ _ (taken_not_0 stage line)
    (λ next text e. (accepted_sized stage next line text _ e (search rules), accepted_short stage next line text e)) c.in-Ok.ensures

pub returns-in-Err : goal.returns-in-Err
unfolding ended
returns-in-Err c =
    let a = c.args in
    let written = rw (c.line_number.ensures, c.from.ensures) at c.put_refusal.ensures in
    ends_refused a.stage _ a.table.now a.out.now c.in-Err.refusal _ _ _ _ c.in-Err.ensures written.0 written.1
