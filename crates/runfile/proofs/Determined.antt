-- Two results that a contract allows coincide, answers and buffers, for all inputs.
use Rattle.rules.proofs.Determined.{Determined, only_one}
use Rattle.rules.proofs.Numbers.{same_answer}
use Rattle.runfile.proofs.take_line.Kinds as take_line_kinds
use Rattle.runfile.proofs.take_line.Reads as take_line_reads

pub take_line_determined : Determined take_line_kinds.ps take_line_kinds.r take_line_reads.Pre take_line_reads.Post
take_line_determined = (
  λ κs a. tt,
  λ κs a x y v w p q.
      let same = same_answer _ x y (only_one p.answer.refusal q.answer.refusal) (only_one p.answer.taken q.answer.taken) in
      (same, rw (only_one p.records q.records, only_one p.line q.line)),
)
