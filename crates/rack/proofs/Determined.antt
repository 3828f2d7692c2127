-- Two results that a contract allows coincide, answers and buffers, for all inputs.
use Rattle.rules.proofs.Determined.{Determined, only_one}
use Rattle.rules.proofs.Numbers.{same_verdict}
use Rattle.rack.proofs.Rack.beat.Kinds as beat_kinds
use Rattle.rack.proofs.Rack.beat.Reads as beat_reads

pub beat_determined : Determined beat_kinds.ps beat_kinds.r beat_reads.Pre beat_reads.Post
beat_determined = (λ κs a. tt, λ κs a x y v w p q. (same_verdict x y (only_one p.0 q.0), rw (only_one p.1 q.1)))
