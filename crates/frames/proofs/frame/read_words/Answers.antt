-- Behind the beat stand as many words as the buffer holds.
use mathlib.Core.Path.{◌∙◌}
use Prim.Native.Nat.{◌-◌}
use native.Mathlib.Omega.{arith}
use lib.ListN.{length}
use Rattle.digits.proofs.Hexadecimal.{formed}
use Rattle.digits.proofs.Parts.{formed_part, words_part}
use Rattle.frames.proofs.frame.read_words.Goals as goal

pub slice_bounds-read_words-count : goal.slice_bounds-read_words-count
slice_bounds-read_words-count c = omega (arith, formed _ _ c.requires)

pub slice_bounds-read_words-start : goal.slice_bounds-read_words-start
slice_bounds-read_words-start c = omega (arith, formed _ _ c.requires)

pub read_words-requires : goal.read_words-requires
read_words-requires c =
    let f = formed _ _ c.requires in
    formed_part _ c.args.line.now 4 (length c.args.line.now - 4) _ c.requires (omega arith) (omega arith)

pub returns : goal.returns
returns c =
    let f = formed _ _ c.requires in
    c.read_words.ensures
    ∙ words_part c.args.line.now 4 (length c.args.line.now - 4) (length c.args.buffer.now) (omega arith)
