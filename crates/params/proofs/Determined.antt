-- Two results that a contract allows coincide, for all inputs; and the record size from leading zeros is the table's W.
use mathlib.Core.Path.{◌≡◌, refl}
use Prim.Native.Nat.{ℕ, zero, suc}
use Rattle.rules.specs.Parameters.{record_words}
use Rattle.rules.specs.Calls.{row_of}
use Rattle.rules.proofs.Determined.{Determined, only_one}
use Rattle.rules.proofs.Numbers.{same_verdict, same_answer}
use Rattle.params.specs.Answers.{row_read}
use Rattle.params.proofs.parameters_of.Kinds as parameters_kinds
use Rattle.params.proofs.parameters_of.Reads as parameters_reads
use Rattle.params.proofs.shape_refusal.Kinds as shape_refusal_kinds
use Rattle.params.proofs.shape_refusal.Reads as shape_refusal_reads
use Rattle.params.proofs.counter_refusal.Kinds as counter_refusal_kinds
use Rattle.params.proofs.counter_refusal.Reads as counter_refusal_reads
use Rattle.params.proofs.modulus_refused.Kinds as modulus_refused_kinds
use Rattle.params.proofs.modulus_refused.Reads as modulus_refused_reads
use Rattle.params.proofs.record_words.Kinds as record_words_kinds
use Rattle.params.proofs.record_words.Reads as record_words_reads

pub parameters_determined : Determined parameters_kinds.ps parameters_kinds.r parameters_reads.Pre parameters_reads.Post
parameters_determined = (λ κs a. tt, λ κs a x y v w p q. (same_answer _ x y (only_one p.0 q.0) (only_one p.1 q.1), refl))

pub shape_refusal_determined : Determined shape_refusal_kinds.ps shape_refusal_kinds.r shape_refusal_reads.Pre shape_refusal_reads.Post
shape_refusal_determined = (λ κs a. tt, λ κs a x y v w p q. (same_verdict x y (only_one p q), refl))

pub counter_refusal_determined :
    Determined counter_refusal_kinds.ps counter_refusal_kinds.r counter_refusal_reads.Pre counter_refusal_reads.Post
counter_refusal_determined = (λ κs a. tt, λ κs a x y v w p q. (same_verdict x y (only_one p q), refl))

pub modulus_refused_determined :
    Determined modulus_refused_kinds.ps modulus_refused_kinds.r modulus_refused_reads.Pre modulus_refused_reads.Post
modulus_refused_determined = (λ κs a. tt, λ κs a x y v w p q. (only_one p q, refl))

pub record_words_determined : Determined record_words_kinds.ps record_words_kinds.r record_words_reads.Pre record_words_reads.Post
record_words_determined = (λ κs a. tt, λ κs a x y v w p q. (only_one p q, refl))

-- the table's column of W holds the record size, for every f
pub table_words : (f : ℕ) → (row_read f).words ≡ record_words f
unfolding row_of
table_words zero = refl
table_words (suc f) = refl
