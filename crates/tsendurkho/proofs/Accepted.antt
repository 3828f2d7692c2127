-- One card's step on bytes that is not refused: what is known of its inputs, and that it is the step on their words.
use mathlib.Core.Path.{◌≡◌, refl, ap, ◌∙◌, fun_ext}
use mathlib.Core.Logic.{⊎_elim}
use mathlib.Core.List.{List}
use Prim.Native.Nat.{ℕ, ◌+◌, ◌*◌, ◌≤◌, ◌<◌}
use native.Mathlib.Omega.{arith}
use lib.Dec.{leb}
use lib.ListN.{length, get_or, get_or-eq_default}
use borrow.Author.Tests.{eq-eqb}
use Rattle.rules.specs.Parameters.{record_words, bad_cards, bad_broken, bad_modulus}
use Rattle.rules.specs.Counting.{tabulate}
use Rattle.rules.specs.Groups.{heard_in, place}
use Rattle.rules.specs.OneBeat.{next_record}
use Rattle.rules.specs.Bytes.{word_at, bytes_of}
use Rattle.rules.specs.Refusals.{wrong, step_refusal, step_bytes_refusal}
use Rattle.rules.specs.Calls.{step_out, step_bytes_out}
use Rattle.rules.proofs.Tests.{le_or_lt}
use Rattle.rules.proofs.Lists.{tabulate_length, tabulate_at}
use Rattle.rules.proofs.Shapes.{Shape, not_given, good_shape, right}

pub record StepBytes (n f c card records out : ℕ) : Type 0 where
  pub shape : Shape n f
  pub records_whole : records ≡ 2 * (n * record_words f)
  pub out_whole : out ≡ 2 * record_words f
  pub on_words : step_refusal n f c card (n * record_words f) (record_words f) ≡ 0

pub accepted : (n f c card records out : ℕ) → step_bytes_refusal n f c card records out ≡ 0 → StepBytes n f c card records out
accepted n f c card records out e =
    let p = not_given 1 (bad_cards n) _ (omega arith) e in
    let q = not_given 2 (bad_broken n f) _ (omega arith) p.1 in
    let m = not_given 3 (bad_modulus c) _ (omega arith) q.1 in
    let k = not_given 4 (leb n card) _ (omega arith) m.1 in
    let r = not_given 5 (wrong records (2 * (n * record_words f))) _ (omega arith) k.1 in
    let o = not_given 6 (wrong out (2 * record_words f)) 0 (omega arith) r.1 in
    record {
      shape = good_shape n f p.0 q.0;
      records_whole = right records (2 * (n * record_words f)) r.0;
      out_whole = right out (2 * record_words f) o.0;
      on_words = rw (p.0, q.0, m.0, k.0, eq-eqb (n * record_words f) _ refl, eq-eqb (record_words f) _ refl);
    }

-- the words of some bytes; beyond the end both are 0
word_of : (bytes : List ℕ) (size i : ℕ) → length bytes ≡ 2 * size → get_or (tabulate size (word_at bytes)) i 0 ≡ word_at bytes i
word_of bytes size i e = ⊎_elim
    (λ (l : size ≤ i).
    get_or-eq_default (tabulate size (word_at bytes)) 0 (omega (arith, tabulate_length size (word_at bytes)))
    ∙ rw (get_or-eq_default bytes 0 {n = 2 * i} (omega arith), get_or-eq_default bytes 0 {n = 2 * i + 1} (omega arith)))
    (λ (l : i < size). tabulate_at size (word_at bytes) i l)
    (le_or_lt size i)

-- so the same is heard
heard_same : (w : ℕ) (bytes : List ℕ) (size : ℕ) → length bytes ≡ 2 * size
    → heard_in w (tabulate size (word_at bytes)) ≡ (λ (u j : ℕ). word_at bytes (place w u j))
heard_same w bytes size e = fun_ext (λ u. fun_ext (λ j. word_of bytes size (place w u j) e))

-- the step on words is the step on bytes
pub step_same : (n f c card size : ℕ) (records out next : List ℕ) → step_bytes_refusal n f c card (length records) (length out) ≡ 0
    → length records ≡ 2 * size → length out ≡ 2 * length next
    → bytes_of (step_out n f c card (tabulate size (word_at records)) next) ≡ step_bytes_out n f c card records out
unfolding step_out step_bytes_out
step_same n f c card size records out next z er eo =
    let s = accepted n f c card (length records) (length out) z in
    let table : length (tabulate size (word_at records)) ≡ n * record_words f =
    omega (arith, tabulate_length size (word_at records), s.records_whole) in
    let words : length next ≡ record_words f = omega (arith, s.out_whole) in
    rw (table, words, s.on_words, z)
    (ap (λ (hear : ℕ → ℕ → ℕ). bytes_of (next_record n f c hear card)) (heard_same (record_words f) records size er))
