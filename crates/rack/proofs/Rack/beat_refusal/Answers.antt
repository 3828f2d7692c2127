-- `rack::Rack::beat_refusal` meets its contract: the lengths that it computes are small.
use Rattle.std.proofs.Common.{refl}
use native.Mathlib.Omega.{arith}
use Rattle.rack.proofs.Accepted.{small}
use Rattle.rack.proofs.Rack.beat_refusal.Goals as goal

pub overflow_mul-table : goal.overflow_mul-table
overflow_mul-table c =
    let r = c.args.self in
    omega (arith, (small r _ _ c.in_ok-counter_refusal.ensures c.record_words-w.ensures refl).table)

pub overflow_mul-n : goal.overflow_mul-n
overflow_mul-n c =
    let r = c.args.self in
    omega (arith, (small r _ _ c.in_ok-counter_refusal.ensures c.record_words-w.ensures c.broken_below.ensures).row)

pub overflow_mul-n-2 : goal.overflow_mul-n-2
overflow_mul-n-2 c =
    let r = c.args.self in
    omega (arith, (small r _ _ c.in_ok-counter_refusal.ensures c.record_words-w.ensures c.broken_below.ensures).sent)

pub overflow_cast-n : goal.overflow_cast-n
overflow_cast-n c =
    let r = c.args.self in
    omega (arith, (small r _ _ c.in_ok-counter_refusal.ensures c.record_words-w.ensures c.broken_below.ensures).sent)
