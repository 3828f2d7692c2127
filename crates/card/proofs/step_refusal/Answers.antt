-- `card::step_refusal` meets its contract: the lengths that it computes are small.
use native.Mathlib.Omega.{arith}
use Rattle.card.proofs.Lengths.{small}
use Rattle.card.proofs.step_refusal.Goals as goal

pub overflow_mul-counter : goal.overflow_mul-counter
overflow_mul-counter c =
    let k = c.args.counter in
    omega (arith, (small 0 k.n k.f k.c _ (omega arith) c.in_ok-counter_refusal.ensures c.record_words-w.ensures).table)

pub overflow_mul-units : goal.overflow_mul-units
overflow_mul-units c =
    let k = c.args.counter in
    omega (arith, (small c.args.units k.n k.f k.c _ (omega arith) c.in_ok-counter_refusal.ensures c.record_words-w.ensures).table_units)

pub overflow_mul-units-2 : goal.overflow_mul-units-2
overflow_mul-units-2 c =
    let k = c.args.counter in
    omega (arith, (small c.args.units k.n k.f k.c _ (omega arith) c.in_ok-counter_refusal.ensures c.record_words-w.ensures).record_units)
