-- The products are small.
use mathlib.Core.Path.{refl}
use native.Mathlib.Omega.{arith}
use Rattle.frames.specs.Headers.{said}
use Rattle.frames.proofs.Headers.{sent_most}
use Rattle.frames.proofs.header.Header.beat_words.Goals as goal

pub overflow_mul-result : goal.overflow_mul-result
overflow_mul-result c =
    omega (arith, rw (← c.broken_below.ensures) at (sent_most (said c.args.self.rack) c.args.self.passes).1)

pub overflow_mul-result-2 : goal.overflow_mul-result-2
overflow_mul-result-2 c =
    omega (arith, rw (← c.broken_below.ensures, ← c.record_words.ensures) at (sent_most (said c.args.self.rack) c.args.self.passes).2)

pub overflow_cast-result : goal.overflow_cast-result
overflow_cast-result c =
    omega (arith, rw (← c.broken_below.ensures, ← c.record_words.ensures) at (sent_most (said c.args.self.rack) c.args.self.passes).2)

pub returns : goal.returns
returns c =
    rw (c.broken_below.ensures, c.record_words.ensures) (refl, (sent_most (said c.args.self.rack) c.args.self.passes).2)
