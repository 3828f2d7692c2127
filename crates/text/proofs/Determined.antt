-- Two results that a contract allows coincide, for all inputs.
use mathlib.Core.Path.{◌≡◌, refl, sym, ◌∙◌}
use mathlib.Core.List.{List}
use Prim.Native.Nat.{ℕ}
use Rattle.std.specs.Prelude.{Option, Some, None}
use Rattle.std.specs.declared.ops.Range.{Range}
use Rattle.std.proofs.lemmas.Bool.{false≢true}
use Rattle.rules.proofs.Numbers.{same_verdict}
use Rattle.rules.proofs.Determined.{DeterminedAs, Determined, only_one}
use Rattle.text.proofs.write_record.Kinds as write_record_kinds
use Rattle.text.proofs.write_record.Reads as write_record_reads
use Rattle.text.proofs.read_record.Kinds as read_record_kinds
use Rattle.text.proofs.read_record.Reads as read_record_reads
use Rattle.text.proofs.line.Kinds as line_kinds
use Rattle.text.proofs.line.Reads as line_reads
use Rattle.text.proofs.line_refusal.Kinds as line_refusal_kinds
use Rattle.text.proofs.line_refusal.Reads as line_refusal_reads
use Rattle.text.proofs.lines.line_end.Kinds as line_end_kinds
use Rattle.text.proofs.lines.line_end.Reads as line_end_reads
use Rattle.text.specs.Lines.{Placed}
use Rattle.text.proofs.lines.place_of.Kinds as place_kinds
use Rattle.text.proofs.lines.place_of.Reads as place_reads

pub write_record_determined : Determined write_record_kinds.ps write_record_kinds.r write_record_reads.Pre write_record_reads.Post
write_record_determined = (λ κs a. tt, λ κs a x y v w p q. (same_verdict x y (only_one p.0 q.0), rw (only_one p.1 q.1)))

pub read_record_determined : Determined read_record_kinds.ps read_record_kinds.r read_record_reads.Pre read_record_reads.Post
read_record_determined = (λ κs a. tt, λ κs a x y v w p q. (same_verdict x y (only_one p.0 q.0), rw (only_one p.1 q.1)))

-- of a part is seen what it holds, and where in the memory it begins
pub line_determined :
    DeterminedAs line_kinds.ps line_kinds.r line_reads.Pre line_reads.Post (λ κs. List ℕ × (ℕ × ℕ)) (λ κs r. (r.now, r.ref_ptr))
line_determined = (λ κs a. tt, λ κs a x y v w p q. (rw (only_one p.0 q.0, only_one p.1 q.1), refl))

pub line_refusal_determined : Determined line_refusal_kinds.ps line_refusal_kinds.r line_refusal_reads.Pre line_refusal_reads.Post
line_refusal_determined = (λ κs a. tt, λ κs a x y v w p q. (same_verdict x y (only_one p q), refl))

pub line_end_determined : Determined line_end_kinds.ps line_end_kinds.r line_end_reads.Pre line_end_reads.Post
line_end_determined = (λ κs a. tt, λ κs a x y v w p q. (only_one p q, refl))

-- of a line there is one place, and a line that is not there has none
same_place : (k : ℕ) (text : List ℕ) (x y : Option (Range ℕ)) → Placed k text x → Placed k text y → x ≡ y
same_place k text None None p q = refl
same_place k text None (Some b) p q = absurd (false≢true (sym p ∙ q.found))
same_place k text (Some a) None p q = absurd (false≢true (sym q ∙ p.found))
same_place k text (Some a) (Some b) p q =
    let start : a.start ≡ b.start = only_one p.start q.start in
    let end : a.end ≡ b.end = only_one p.end q.end in
    λ i. Some (record { start = start i; end = end i })

pub place_determined : Determined place_kinds.ps place_kinds.r place_reads.Pre place_reads.Post
place_determined = (λ κs a. tt, λ κs a x y v w p q. (same_place _ _ x y p q, refl))
