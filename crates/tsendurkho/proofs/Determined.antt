-- Two results that a contract allows coincide, answers and buffers, for all inputs.
use mathlib.Core.Path.{refl}
use Rattle.rules.proofs.Determined.{Determined, only_one}
use Rattle.tsendurkho.proofs.tsendurkho_step.Kinds as step_kinds
use Rattle.tsendurkho.proofs.tsendurkho_step.Reads as step_reads
use Rattle.tsendurkho.proofs.tsendurkho_lag_refusal.Kinds as lag_refusal_kinds
use Rattle.tsendurkho.proofs.tsendurkho_lag_refusal.Reads as lag_refusal_reads
use Rattle.tsendurkho.proofs.tsendurkho_lag.Kinds as lag_kinds
use Rattle.tsendurkho.proofs.tsendurkho_lag.Reads as lag_reads

pub step_determined : Determined step_kinds.ps step_kinds.r step_reads.Pre step_reads.Post
step_determined = (λ κs a. tt, λ κs a x y v w p q. (only_one p.0 q.0, rw (only_one p.1 q.1)))

pub lag_refusal_determined : Determined lag_refusal_kinds.ps lag_refusal_kinds.r lag_refusal_reads.Pre lag_refusal_reads.Post
lag_refusal_determined = (λ κs a. tt, λ κs a x y v w p q. (only_one p q, refl))

pub lag_determined : Determined lag_kinds.ps lag_kinds.r lag_reads.Pre lag_reads.Post
lag_determined = (λ κs a. tt, λ κs a x y v w p q. (only_one p q, refl))
