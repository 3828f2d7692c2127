use Rattle.std.proofs.Common.{◌≡◌, refl, sym, ap, ◌∙◌, arith}
use lib.ListN.{length-set}
use Rattle.rules.specs.declared.Vote.TheVariants.{Count, None}
use Rattle.rules.specs.Groups.{read_vote}
use Rattle.rules.proofs.Votes.{read_below, read_above}
use Rattle.columns.specs.Columns.{votes_in}
use Rattle.columns.proofs.Sent.{sent_le}
use Rattle.columns.proofs.Tallies.{tally_start, tally_more, tally_same, leads_start, leads_same, leads_more, leads_is}
use Rattle.columns.proofs.Column.most_frequent.Goals as goal
use Rattle.columns.proofs.Column.most_frequent.Goals.{then-x-m, else-x-m}

pub loop-u-init : goal.loop-u-init
loop-u-init c =
    let a = c.args in
    let v = votes_in a.m a.self in
    (refl, tally_start v a.m 128 (omega arith), leads_start v a.m (omega arith))

pub overflow_add-tally : goal.overflow_add-tally
overflow_add-tally c =
    let x = c.said-x.result in
    let counted = c.loop-u.invariant.1.counts x c.if-x-m.true in
    omega (arith, counted, sent_le (votes_in c.args.m c.args.self) c.loop-u.u (Count x))

pub loop-u-preserved : goal.loop-u-preserved
loop-u-preserved c =
    let m = c.args.m in
    let v = votes_in m c.args.self in
    let l = c.loop-u in
    let u = l.u in
    let x = c.said-x.result in
    elim c.if-x-m.branch [
      | then-x-m w ↦
          let z : v u ≡ Count x = ap (read_vote m) (sym c.said-x.ensures) ∙ read_below m x w.if-x-m.true in
          let more = tally_more v m l.tally u x (omega arith) z w.if-x-m.true l.invariant.1 in
          let leads = leads_more v m u l.best x z w.if-x-m.true l.invariant.2 _ _
          (more.counts x w.if-x-m.true) (more.counts l.best l.invariant.2.below) in
          rw (w.tally-is, w.best-is, w.lead-best.ensures) (simp length-set l.invariant.0, more, leads)
      | else-x-m w ↦
          let z : v u ≡ None = ap (read_vote m) (sym c.said-x.ensures) ∙ read_above m x w.if-x-m.false in
          rw (w.tally-is, w.best-is)
          (l.invariant.0, tally_same v m l.tally u z l.invariant.1, leads_same v m u l.best z l.invariant.2)
    ]

pub returns : goal.returns
returns c =
    let a = c.args in
    let e : c.loop-u.u ≡ a.self.n = omega arith in
    sym (leads_is (votes_in a.m a.self) a.m a.self.n c.loop-u.best (rw e at c.loop-u.invariant.2))
