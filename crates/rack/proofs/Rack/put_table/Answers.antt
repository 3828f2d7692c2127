-- `rack::Rack::put_table` meets its contract: the records of the cards gone through are written.
use Rattle.std.proofs.Common.{◌≡◌, refl, sym, ◌∙◌, length, ◌+◌, ◌*◌, ◌≤◌}
use native.Mathlib.Nat.{zero-mul}
use native.Mathlib.Omega.{arith}
use lib.Seq.{take_all}
use Rattle.rules.specs.Counting.{rows}
use Rattle.rules.specs.WholeBeat.{table_after}
use Rattle.rules.proofs.Records.{record_length}
use Rattle.rack.specs.Racks.{size, record_of}
use Rattle.rack.proofs.Accepted.{accepted, record_fits}
use Rattle.rack.proofs.Tables.{next_record_lem}
use Rattle.rack.proofs.Rack.put_table.Goals as goal

pub loop-v-init : goal.loop-v-init
unfolding rows
loop-v-init c =
    let same = c.copy_from_slice.ensures.after in
    (rw same (λ u j e l. refl), rw (zero-mul (size c.args.self)))

pub loop-v-preserved : goal.loop-v-preserved
loop-v-preserved c =
    let a = c.args in
    let r = a.self in
    let v = c.loop-v.v in
    let row = record_of r a.held.now a.sent.now in
    let inside = (record_fits r _ _ _ v (size r) c.requires.0 c.loop-v-test.true refl).inside in
    let fits : v * size r + size r ≤ length c.loop-v.out = omega (arith, inside, c.loop-v.auto.out) in (
      c.put_record.ensures.1,
      rw c.put_record.ensures.0
          (next_record_lem c.loop-v.out (size r) v row
          (record_length r.counter.n r.counter.f r.counter.c r.set _ _ v) fits c.loop-v.invariant.1),
    )

pub returns : goal.returns
unfolding table_after
returns c =
    let r = c.args.self in
    let n = r.counter.n in
    let g = accepted r _ _ _ c.requires.0 in
    let e : c.loop-v.v ≡ n = omega arith in
    sym (take_all (n * size r) c.loop-v.out (omega (arith, c.loop-v.auto.out, g.out_whole))) ∙ rw e at c.loop-v.invariant.1
