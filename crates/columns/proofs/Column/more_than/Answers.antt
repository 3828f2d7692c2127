use Rattle.std.proofs.Common.{ℕ, ◌+◌, Bool, sym, ◌∙◌, arith}
use Rattle.rules.specs.Counting.{count_below}
use Rattle.rules.proofs.Counting.{count_yes, count_no}
use Rattle.columns.specs.Columns.{Computes, word_in}
use Rattle.columns.proofs.Sent.{more_already, never_more}
use Rattle.columns.proofs.Column.more_than.Goals as goal
use Rattle.columns.proofs.Column.more_than.Goals.{then-test+else-few-many, else-test}

pub loop-u-init : goal.loop-u-init
unfolding count_below
loop-u-init g c = (omega arith, omega arith, λ passes computes. omega arith)

pub returns-then-few-many : goal.returns-then-few-many
returns-then-few-many g c = λ passes computes.
    let col = c.args.self in
    let says = λ (v : ℕ). passes (word_in col v) in
    let u = c.loop-u.u in
    let e = rw c.said.ensures at (computes c.said.result c.test.result (omega arith) c.test.ensures) in
    let z = count_yes u says (sym e ∙ c.if-test.true) in
    sym (more_already says col.n c.args.few (u + 1) (omega arith) (omega (arith, z, c.loop-u.invariant.2 passes computes)))

pub loop-u-preserved : goal.loop-u-preserved
loop-u-preserved g c =
    let col = c.args.self in
    let u = c.loop-u.u in
    let h = c.loop-u.invariant in
    let e = λ (passes : ℕ → Bool) (computes : Computes (goal.F-post g c.args.test) passes).
    rw c.said.ensures at (computes c.said.result c.test.result (omega arith) c.test.ensures) in
    elim c.if-test.branch [
      | then-test+else-few-many w ↦ (
        omega arith,
        omega arith,
        λ passes computes.
            let z = count_yes u (λ (v : ℕ). passes (word_in col v)) (sym (e passes computes) ∙ w.if-test.true) in
            omega (arith, h.2 passes computes),
      )
      | else-test w ↦ (
        omega arith,
        omega arith,
        λ passes computes.
            let z = count_no u (λ (v : ℕ). passes (word_in col v)) (sym (e passes computes) ∙ w.if-test.false) in
            omega (arith, h.2 passes computes),
      )
    ]

pub returns : goal.returns
returns g c = λ passes computes.
    let col = c.args.self in
    let h = c.loop-u.invariant in
    sym (never_more (λ (v : ℕ). passes (word_in col v)) col.n c.args.few c.loop-u.u (omega arith) (omega (arith, h.2 passes computes)))
