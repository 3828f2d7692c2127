use Rattle.std.proofs.Common.{◌≡◌, ◌+◌, ◌-◌, ◌*◌, length, add-one, refl, sym, ◌∙◌, arith}
use Rattle.std.proofs.Math.Seq.{take-length}
use Rattle.std.proofs.lemmas.Slice.{take-put_mid}
use Rattle.rules.specs.Counting.{rows}
use Rattle.rules.specs.Text.{text_of}
use Rattle.digits.proofs.words.put_words.Goals as goal

pub loop-i-init : goal.loop-i-init
unfolding rows
loop-i-init c = refl

pub loop-i-preserved : goal.loop-i-preserved
unfolding rows
loop-i-preserved c =
    let i = c.loop-i.i in
    take-put_mid (4 * i) (4 * i + 4 - 4 * i) c.loop-i.out c.put_word.new.out (4 * (i + 1)) (omega arith) (omega arith)
    ∙ rw (add-one i, c.loop-i.invariant, c.put_word.ensures)

pub returns : goal.returns
unfolding text_of
returns c =
    let i : c.loop-i.i ≡ length c.args.words.now = omega arith in
    let all : 4 * length c.args.words.now ≡ length c.loop-i.out = omega arith in
    sym (take-length c.loop-i.out) ∙ rw (i, all) at c.loop-i.invariant
