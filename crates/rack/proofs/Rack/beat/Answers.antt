-- `rack::Rack::beat` meets its contract: a refused call writes nothing, another the records after the beat.
use Rattle.std.proofs.Common.{rules, sym}
use native.Mathlib.Omega.{arith}
use lib.Seq.{length-take-le}
use Rattle.rules.specs.Calls.{beat_out}
use Rattle.rack.proofs.Accepted.{held_most}
use Rattle.rack.proofs.Rack.beat.Goals as goal

pub returns-in_err-beat_refusal : goal.returns-in_err-beat_refusal
unfolding beat_out
returns-in_err-beat_refusal c = search rules

pub slice_bounds-heard-end : goal.slice_bounds-heard-end
slice_bounds-heard-end c = omega (arith, held_most c.args.self _ _ _ (sym c.in_ok-beat_refusal.ensures))

pub slice_bounds-put_table-end : goal.slice_bounds-put_table-end
slice_bounds-put_table-end c = sym (length-take-le _ _ (held_most c.args.self _ _ _ (sym c.in_ok-beat_refusal.ensures)))

pub put_table-requires : goal.put_table-requires
put_table-requires c =
    let passed = sym c.in_ok-beat_refusal.ensures in
    (passed, length-take-le _ _ (held_most c.args.self _ _ _ passed))

pub returns : goal.returns
unfolding beat_out
returns c = search rules
