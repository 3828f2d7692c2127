-- Two results that a contract allows coincide, answers and buffers, for all inputs.
use mathlib.Core.Path.{refl, sym, ap, ◌∙◌}
use Rattle.rules.specs.Parameters.{none_word}
use Rattle.rules.specs.Groups.{read_vote}
use Rattle.rules.proofs.Determined.{Determined, only_one}
use Rattle.rules.proofs.Numbers.{same_verdict, same_answer}
use Rattle.card.proofs.step.Kinds as step_kinds
use Rattle.card.proofs.step.Reads as step_reads
use Rattle.card.proofs.shown_count.Kinds as shown_kinds
use Rattle.card.proofs.shown_count.Reads as shown_reads

pub step_determined : Determined step_kinds.ps step_kinds.r step_reads.Pre step_reads.Post
step_determined = (λ κs a. tt, λ κs a x y v w p q. (same_verdict x y (only_one p.0 q.0), rw (only_one p.1 q.1)))

pub shown_determined : Determined shown_kinds.ps shown_kinds.r shown_reads.Pre shown_reads.Post
shown_determined = (
  λ κs a. tt,
  λ κs a x y v w p q.
      let count = p.told ∙ ap (read_vote none_word) (only_one p.number q.number) ∙ sym q.told in
      (same_answer _ x y (only_one p.refusal q.refusal) count, refl),
)
