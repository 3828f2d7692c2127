-- Two results that a contract allows coincide, for all inputs.
use mathlib.Core.Path.{refl}
use Rattle.rules.proofs.Determined.{Determined, only_one}
use Rattle.digits.proofs.well_formed.Kinds as well_formed_kinds
use Rattle.digits.proofs.well_formed.Reads as well_formed_reads

pub well_formed_determined : Determined well_formed_kinds.ps well_formed_kinds.r well_formed_reads.Pre well_formed_reads.Post
well_formed_determined = (λ κs a. tt, λ κs a x y v w p q. (only_one p q, refl))
