-- `encode` meets its contract: all the words are written.
use Rattle.std.proofs.Common.{◌≡◌, length, arith}
use Rattle.wordbytes.proofs.Places.{bytes_are}
use Rattle.wordbytes.proofs.encode.Goals as goal

pub returns : goal.returns
returns c =
    let all : c.loop-i.i ≡ length c.args.words.now = omega arith in
    bytes_are _ _ (omega arith) (λ k l. c.loop-i.invariant k (omega arith))
