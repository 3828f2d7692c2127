-- The product is small.
use mathlib.Core.Path.{refl}
use native.Mathlib.Omega.{arith}
use Rattle.frames.specs.Headers.{said}
use Rattle.frames.proofs.Headers.{start_most}
use Rattle.frames.proofs.header.Header.start_words.Goals as goal

pub overflow_mul-result : goal.overflow_mul-result
overflow_mul-result c =
    omega (arith, rw (← c.record_words.ensures) at (start_most (said c.args.self.rack) c.args.self.passes))

pub returns : goal.returns
returns c = rw c.record_words.ensures (refl, start_most (said c.args.self.rack) c.args.self.passes)
