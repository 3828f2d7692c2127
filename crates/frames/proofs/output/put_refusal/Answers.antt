-- The line is stored part by part.
use mathlib.Core.Path.{sym, ◌∙◌}
use native.Mathlib.Omega.{arith}
use Rattle.rules.specs.Groups.{word_of}
use Rattle.frames.proofs.Shown.{refusal_length, refusal_written}
use Rattle.frames.proofs.output.put_refusal.Goals as goal

pub returns : goal.returns
unfolding word_of
returns c =
    let a = c.args in (
      sym (refusal_length a.number a.refusal),
      refusal_written a.number a.refusal a.out.now _ _ _ (omega arith)
          (c.put_word.ensures ∙ rw c.from.ensures) c.put_number.ensures c.put_number-2.ensures,
    )
