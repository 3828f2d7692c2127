-- The buffers of words that a step on bytes works with, cut from arrays of zeros: as long as the records and the output need,
-- and the step on them is not refused either.
use mathlib.Core.Path.{◌≡◌, ◌∙◌}
use mathlib.Core.List.{List}
use Prim.Native.Nat.{ℕ, ◌*◌, ◌/◌, ◌≤◌}
use native.Mathlib.Omega.{arith}
use lib.ListN.{length, take, replicate, length-replicate}
use lib.Seq.{length-take-le}
use Rattle.std.proofs.lemmas.List.{take-replicate}
use Rattle.rules.specs.Parameters.{record_words}
use Rattle.rules.specs.Refusals.{step_refusal, step_bytes_refusal}
use Rattle.rules.proofs.Records.{words_most}
use Rattle.tsendurkho.proofs.Accepted.{accepted}

-- the front of an array of zeros, with a word for two bytes
abbrev pub front : ℕ → ℕ → List ℕ
front size bytes = take (bytes / 2) (replicate size 0)

pub record Lent (size bytes : ℕ) : Type 0 where
  pub inside : bytes / 2 ≤ size
  pub whole : bytes ≡ 2 * length (front size bytes)
  pub zeros : front size bytes ≡ replicate (length (front size bytes)) 0

lent : (size bytes words : ℕ) → bytes ≡ 2 * words → words ≤ size → Lent size bytes
lent size bytes words e l =
    let n : length (replicate {A = ℕ} size 0) ≡ size = length-replicate size 0 in
    let long : length (front size bytes) ≡ bytes / 2 = length-take-le {A = ℕ} (bytes / 2) (replicate size 0) (omega arith) in
    record {
      inside = omega arith;
      whole = omega (arith, long);
      zeros = take-replicate (bytes / 2) size 0 (omega arith) ∙ rw long;
    }

-- the buffers of a step that is not refused, if the table has room for that many words
pub record Buffers (n f c card size records out : ℕ) : Type 0 where
  pub table : Lent size records
  pub next : Lent 25 out
  pub accepts : step_refusal n f c card (length (front size records)) (length (front 25 out)) ≡ 0

pub buffers : (n f c card size records out : ℕ) → step_bytes_refusal n f c card records out ≡ 0 → records ≤ 2 * size
    → Buffers n f c card size records out
buffers n f c card size records out z fits =
    let s = accepted n f c card records out z in
    let table = lent size records _ s.records_whole (omega (arith, s.records_whole)) in
    let next = lent 25 out _ s.out_whole (words_most f s.shape.broken) in
    let t : length (front size records) ≡ n * record_words f = omega (arith, table.whole, s.records_whole) in
    let w : length (front 25 out) ≡ record_words f = omega (arith, next.whole, s.out_whole) in
    record { table = table; next = next; accepts = rw (t, w) s.on_words }
