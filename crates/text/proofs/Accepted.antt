-- What the refusals of writing and reading say of the inputs.
use mathlib.Core.Path.{◌≡◌}
use mathlib.Core.Bool.{true, not}
use mathlib.Core.List.{List}
use Prim.Native.Nat.{ℕ, ◌*◌}
use native.Mathlib.Omega.{arith}
use borrow.Author.Tests.{not-false}
use Rattle.rules.specs.Parameters.{record_words, bad_cards, bad_broken}
use Rattle.rules.specs.Refusals.{wrong, write_refusal, read_refusal}
use Rattle.rules.specs.Text.{well_formed}
use Rattle.rules.proofs.Shapes.{not_given, right}

pub write_accepted : (n f words out : ℕ) → write_refusal n f words out ≡ 0 → (words ≡ record_words f) × (out ≡ 4 * record_words f)
write_accepted n f words out e =
    let p = not_given 1 (bad_cards n) _ (omega arith) e in
    let q = not_given 2 (bad_broken n f) _ (omega arith) p.1 in
    let r = not_given 5 (wrong words (record_words f)) _ (omega arith) q.1 in
    let s = not_given 6 (wrong out (4 * record_words f)) _ (omega arith) r.1 in
    (right words (record_words f) r.0, right out (4 * record_words f) s.0)

pub read_accepted : (n f : ℕ) (text : List ℕ) (out : ℕ) → read_refusal n f text out ≡ 0
    → (out ≡ record_words f) × (well_formed (4 * record_words f) text ≡ true)
read_accepted n f text out e =
    let p = not_given 1 (bad_cards n) _ (omega arith) e in
    let q = not_given 2 (bad_broken n f) _ (omega arith) p.1 in
    let r = not_given 6 (wrong out (record_words f)) _ (omega arith) q.1 in
    let s = not_given 10 (not (well_formed (4 * record_words f) text)) _ (omega arith) r.1 in
    (right out (record_words f) r.0, not-false (well_formed (4 * record_words f) text) s.0)
