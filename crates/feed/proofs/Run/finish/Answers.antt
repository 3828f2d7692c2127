use mathlib.Core.Path.{◌≡◌, sym, ◌∙◌}
use mathlib.Core.List.{[]}
use native.Mathlib.Omega.{arith}
use lib.ListN.{take}
use Rattle.runfile.specs.Runs.{stage_of}
use Rattle.feed.specs.Feeds.{ended, last_fed}
use Rattle.feed.specs.Calls.{machine_of}
use Rattle.feed.proofs.Calls.{finishes_none, finishes_stopped, finishes_refused, finishes_accepted, finished_is, one_written, missing_short}
use Rattle.feed.proofs.Run.finish.Goals as goal
use Rattle.feed.proofs.Run.finish.Goals.{After-end_line-feed}

pub returns-in_default : goal.returns-in_default
returns-in_default c = finishes_stopped c.args.self.now c.args.out.now c.in_default.is

pub returns-then-is_empty : goal.returns-then-is_empty
returns-then-is_empty c =
    let missed = c.put_missing.ensures in
    finishes_none c.args.self.now c.in-Reading.stage c.in-Reading.held _ c.args.out.now _ _ (omega arith) c.in-Reading.is (omega arith)
    (sym c.is_empty.ensures ∙ c.if-is_empty.true) missed.0 missed.1

-- where the last line leads
left : (c : After-end_line-feed)
    → let run = c.args.self.now in
    last_fed (machine_of run) ≡ ended (stage_of c.in-Reading.stage run.table) (take c.min.result run.line) []
left c =
    finished_is c.args.self.now c.in-Reading.stage c.in-Reading.held _ (omega arith) c.in-Reading.is (omega arith)
    (sym c.is_empty.ensures ∙ c.if-is_empty.false)

pub returns-in-Stopped : goal.returns-in-Stopped
returns-in-Stopped c =
    finishes_refused c.args.self.now _ c.args.out.now c.end_line-feed.result _ _ (left (goal.at.returns-in-Stopped c).After-end_line-feed)
    c.in-Stopped.is c.end_line-feed.ensures

pub overflow_add-result : goal.overflow_add-result
overflow_add-result c =
    let last = c.end_line-feed.ensures c.args.self.now.line in
    omega (arith, last.short, missing_short c.in-Reading-feed.next, c.put_missing-in-Reading-feed.ensures.0)

pub returns-in-Reading-feed : goal.returns-in-Reading-feed
returns-in-Reading-feed c =
    let run = c.args.self.now in
    let missed = c.put_missing-in-Reading-feed.ensures in
    let stands = c.end_line-feed.ensures in
    let one = one_written _ _ _ c.in-Reading-feed.field-1 (sym (stands run.line).feed_is ∙ c.in-Reading-feed.is) in
    finishes_accepted run _ c.args.out.now c.end_line-feed.result _ _ _ _ c.in-Reading-feed.field-1 _
    (left (goal.at.returns-in-Reading-feed c).After-end_line-feed) c.in-Reading-feed.is one stands missed.0 missed.1
