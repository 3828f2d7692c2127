-- Two results that a contract allows coincide, for all inputs.
use mathlib.Core.Path.{refl}
use Rattle.rules.proofs.Determined.{Determined, only_one}
use Rattle.rules.proofs.Numbers.{same_verdict}
use Rattle.lag.proofs.lag_refusal.Kinds as lag_refusal_kinds
use Rattle.lag.proofs.lag_refusal.Reads as lag_refusal_reads
use Rattle.lag.proofs.lag_of.Kinds as lag_kinds
use Rattle.lag.proofs.lag_of.Reads as lag_reads

pub lag_refusal_determined : Determined lag_refusal_kinds.ps lag_refusal_kinds.r lag_refusal_reads.Pre lag_refusal_reads.Post
lag_refusal_determined = (λ κs a. tt, λ κs a x y v w p q. (same_verdict x y (only_one p q), refl))

pub lag_determined : Determined lag_kinds.ps lag_kinds.r lag_reads.Pre lag_reads.Post
lag_determined = (λ κs a. tt, λ κs a x y v w p q. (only_one p q, refl))
