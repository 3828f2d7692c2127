use Rattle.std.proofs.Common.{◌≡◌, ◌+◌, ◌<◌, refl, sym, ap, ◌∙◌, arith}
use lib.ListN.{length-set}
use Rattle.rules.specs.declared.Vote.TheVariants.{Count, None}
use Rattle.rules.specs.Groups.{read_vote}
use Rattle.rules.specs.OneBeat.{sent_by}
use Rattle.rules.proofs.Votes.{read_below, read_above}
use Rattle.columns.specs.Columns.{votes_in}
use Rattle.columns.proofs.Sent.{sent_le, sent_zero, vote_found, vote_none, still_short, short_still}
use Rattle.columns.proofs.Tallies.{tally_start, tally_more, tally_same}
use Rattle.columns.proofs.Column.vote_of.Goals as goal
use Rattle.columns.proofs.Column.vote_of.Goals.{then-x-m+else-enough-tally, else-x-m}

pub loop-u-init : goal.loop-u-init
loop-u-init c =
    let v = votes_in c.args.m c.args.self in
    (refl, tally_start v c.args.m 128 (omega arith), λ j k. omega (arith, sent_zero v (Count j)))

pub overflow_add-tally : goal.overflow_add-tally
overflow_add-tally c =
    let x = c.said-word.result in
    let counted = c.loop-u.invariant.1.counts x c.if-x-m.true in
    omega (arith, counted, sent_le (votes_in c.args.m c.args.self) c.loop-u.u (Count x))

pub returns-then-enough-tally : goal.returns-then-enough-tally
returns-then-enough-tally c =
    let a = c.args in
    let v = votes_in a.m a.self in
    let l = c.loop-u in
    let x = c.said-word.result in
    let z : v l.u ≡ Count x = ap (read_vote a.m) (sym c.said-word.ensures) ∙ read_below a.m x c.if-x-m.true in
    let more = tally_more v a.m l.tally l.u x (omega arith) z c.if-x-m.true l.invariant.1 in
    sym
    (vote_found v a.self.n a.f a.m (l.u + 1) x (omega arith) (omega arith) (omega arith)
    (omega (arith, more.counts x c.if-x-m.true)))

pub loop-u-preserved : goal.loop-u-preserved
loop-u-preserved c =
    let a = c.args in
    let v = votes_in a.m a.self in
    let l = c.loop-u in
    let u = l.u in
    let x = c.said-word.result in
    elim c.if-x-m.branch [
      | then-x-m+else-enough-tally w ↦
          let z : v u ≡ Count x = ap (read_vote a.m) (sym c.said-word.ensures) ∙ read_below a.m x w.if-x-m.true in
          let more = tally_more v a.m l.tally u x (omega arith) z w.if-x-m.true l.invariant.1 in
          let short : sent_by (u + 1) v (Count x) + a.f < a.self.n = omega (arith, more.counts x w.if-x-m.true) in
          rw w.tally-is
          (simp length-set l.invariant.0, more, still_short v a.self.n a.f a.m u x z short l.invariant.2)
      | else-x-m w ↦
          let z : v u ≡ None = ap (read_vote a.m) (sym c.said-word.ensures) ∙ read_above a.m x w.if-x-m.false in
          rw w.tally-is
          (l.invariant.0, tally_same v a.m l.tally u z l.invariant.1, short_still v a.self.n a.f a.m u z l.invariant.2)
    ]

pub returns : goal.returns
returns c =
    let a = c.args in
    let e : c.loop-u.u ≡ a.self.n = omega arith in
    sym (vote_none (votes_in a.m a.self) a.self.n a.f a.m (rw e at c.loop-u.invariant.2))
