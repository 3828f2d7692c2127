-- `decode` meets its contract: all the words are read.
use borrow.Author.Count.{below_more}
use lib.ListN.{get_or, set}
use lib.Seq.{get_or-set_same, get_or-set_other}
use Rattle.std.proofs.Common.{◌≡◌, ◌∙◌, ℕ, length, arith}
use Rattle.rules.specs.Bytes.{word_at}
use Rattle.wordbytes.proofs.Places.{words_are}
use Rattle.wordbytes.proofs.decode.Goals as goal

pub returns : goal.returns
returns c =
    let all : c.loop-i.i ≡ length c.args.words.now = omega arith in
    words_are _ _ (word_at c.args.bytes.now) c.loop-i.auto.words (λ k l. c.loop-i.invariant k (omega arith))

pub loop-i-preserved : goal.loop-i-preserved
loop-i-preserved c =
    let l = c.loop-i in
    let x = c.from_le_bytes.result in
    let read : x ≡ word_at c.args.bytes.now l.i = omega (arith, c.from_le_bytes.ensures) in
    below_more (λ (k : ℕ). get_or (set l.words l.i x) k 0 ≡ word_at c.args.bytes.now k) l.i
    (λ k h. get_or-set_other l.words l.i k x 0 (omega arith) ∙ l.invariant k h)
    (get_or-set_same l.words l.i x 0 (omega arith) ∙ read)
