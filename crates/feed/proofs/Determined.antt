-- Two results that a contract allows coincide, for all inputs.
use mathlib.Core.Path.{◌≡◌, refl}
use Rattle.rules.proofs.Determined.{Determined, only_one}
use Rattle.feed.specs.declared.Fed.{Fed}
use Rattle.feed.specs.declared.Run.{Run}
use Rattle.feed.proofs.Run.new.Kinds as start_kinds
use Rattle.feed.proofs.Run.new.Reads as start_reads
use Rattle.feed.proofs.Run.feed_from.Kinds as feed_from_kinds
use Rattle.feed.proofs.Run.feed_from.Reads as feed_from_reads
use Rattle.feed.proofs.Run.finish.Kinds as finish_kinds
use Rattle.feed.proofs.Run.finish.Reads as finish_reads

pub start_determined : Determined start_kinds.ps start_kinds.r start_reads.Pre start_reads.Post
start_determined = (λ κs a. tt, λ κs a x y v w p q. (only_one p q, refl))

-- an answer is its two parts, and a run its three
same_fed : (a b : Fed) → a.next ≡ b.next → a.written ≡ b.written → a ≡ b
same_fed a b next written = λ i. record { next = next i; written = written i }

same_run : (a b : Run) → a.feed ≡ b.feed → a.line ≡ b.line → a.table ≡ b.table → a ≡ b
same_run a b feed line table = λ i. record { feed = feed i; line = line i; table = table i }

pub feed_from_determined : Determined feed_from_kinds.ps feed_from_kinds.r feed_from_reads.Pre feed_from_reads.Post
feed_from_determined = (
  λ κs a. tt,
  λ κs a x y v w p q. (
    same_fed x y (only_one p.next q.next) (only_one p.stands.written_is q.stands.written_is),
    rw (
      same_run _ _ (only_one p.stands.feed_is q.stands.feed_is) (only_one p.held q.held)
          (only_one p.stands.records q.stands.records),
      only_one p.stands.text q.stands.text,
    ),
  ),
)

pub finish_determined : Determined finish_kinds.ps finish_kinds.r finish_reads.Pre finish_reads.Post
finish_determined = (
  λ κs a. tt,
  λ κs a x y v w p q. (
    only_one p.written q.written,
    rw (
      same_run _ _ (only_one p.feed_stays q.feed_stays) (only_one p.line_stays q.line_stays) (only_one p.records q.records),
      only_one p.text q.text,
    ),
  ),
)
