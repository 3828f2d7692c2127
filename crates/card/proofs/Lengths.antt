-- A step's lengths in words are its lengths in units of one word; and they are small.
use mathlib.Core.Path.{◌≡◌, sym}
use Prim.Native.Nat.{ℕ, ◌*◌, ◌≤◌}
use native.Mathlib.Nat.{one-mul, mul-le-mul}
use Rattle.rules.specs.Parameters.{record_words}
use Rattle.rules.specs.Refusals.{counter_refusal, step_refusal}
use Rattle.rules.proofs.Records.{words_most, table_most}
use Rattle.rules.proofs.Shapes.{counter_shape}
use Rattle.card.specs.Lengths.{refusal_in}

pub in_words : (n f c card records out : ℕ) → refusal_in 1 n f c card records out ≡ step_refusal n f c card records out
in_words n f c card records out = rw (one-mul (n * record_words f), one-mul (record_words f))

-- a table of records is small, and so is a record, in any units
pub record Small (units n w : ℕ) : Type 0 where
  pub table : n * w ≤ 400
  pub table_units : units * (n * w) ≤ 255 * 400
  pub record_units : units * w ≤ 255 * 25

pub small : (units n f c w : ℕ) → units ≤ 255 → 0 ≡ counter_refusal n f c 0 → w ≡ record_words f → Small units n w
small units n f c w few passed is =
    let s = counter_shape n f c (sym passed) in
    let table = table_most n f s.cards s.broken in
    rw is
    (record { table = table; table_units = mul-le-mul few table; record_units = mul-le-mul few (words_most f s.broken) })
