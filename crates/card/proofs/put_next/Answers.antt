-- `card::put_next` meets its contract: the group of all cards writes the record over the zeros.
use Rattle.std.proofs.Common.{◌∙◌, suc}
use native.Mathlib.Omega.{arith}
use Rattle.rules.specs.Calls.{step_out}
use Rattle.rules.proofs.Shapes.{step_accepted}
use Rattle.card.proofs.Words.{whole_fits, record_is}
use Rattle.card.proofs.put_next.Goals as goal

pub step_group-requires : goal.step_group-requires
step_group-requires c =
    let k = c.args.counter in
    let g = step_accepted k.n k.f k.c c.args.card _ _ c.requires.0 in
    record {
      fits = whole_fits c.args.records k.n k.f k.c c.args.card _ c.record_words.result g c.record_words.ensures;
      member = g.card_below;
      words = omega (arith, g.out_whole);
    }

pub returns : goal.returns
unfolding step_out
returns c =
    let a = c.args in
    let k = a.counter in
    let w = c.record_words in
    let g = step_accepted k.n k.f k.c a.card _ _ c.requires.0 in
    rw c.requires.0
    (record_is a.records k.n k.f k.c a.card w.result a.out.now _
    w.ensures (c.requires.1 ∙ rw (g.out_whole, w.ensures)) (c.step_group.ensures (suc k.f) (omega arith)))
