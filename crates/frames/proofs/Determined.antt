-- Two results that a contract allows coincide, answers and buffers, for all inputs.
use mathlib.Core.Path.{refl}
use Rattle.rules.proofs.Determined.{Determined, only_one}
use Rattle.rules.proofs.Numbers.{same_verdict}
use Rattle.frames.proofs.header.header_tests.Kinds as header_tests_kinds
use Rattle.frames.proofs.header.header_tests.Reads as header_tests_reads
use Rattle.frames.proofs.header.header_refusal.Kinds as header_refusal_kinds
use Rattle.frames.proofs.header.header_refusal.Reads as header_refusal_reads
use Rattle.frames.proofs.output.put_refusal.Kinds as put_refusal_kinds
use Rattle.frames.proofs.output.put_refusal.Reads as put_refusal_reads

pub header_tests_determined : Determined header_tests_kinds.ps header_tests_kinds.r header_tests_reads.Pre header_tests_reads.Post
header_tests_determined = (λ κs a. tt, λ κs a x y v w p q. (same_verdict x y (only_one p q), refl))

pub header_refusal_determined : Determined header_refusal_kinds.ps header_refusal_kinds.r header_refusal_reads.Pre header_refusal_reads.Post
header_refusal_determined = (λ κs a. tt, λ κs a x y v w p q. (same_verdict x y (only_one p q), refl))

pub put_refusal_determined : Determined put_refusal_kinds.ps put_refusal_kinds.r put_refusal_reads.Pre put_refusal_reads.Post
put_refusal_determined = (λ κs a. tt, λ κs a x y v w p q. (only_one p.0 q.0, rw (only_one p.1 q.1)))
