-- The lengths for which one card's step is refused: in words or in bytes, `units` of which make a word.
use Rattle.std.specs.Prelude.{ℕ, ◌*◌, leb}
use Rattle.rules.specs.Parameters.{record_words}
use Rattle.rules.specs.Refusals.{given, wrong, counter_refusal}

-- with 1 this is the rules' `step_refusal`, with 2 their `step_bytes_refusal`
abbrev pub refusal_in : ℕ → ℕ → ℕ → ℕ → ℕ → ℕ → ℕ → ℕ
refusal_in units n f c card records out =
    counter_refusal n f c
    (given 4 (leb n card)
    (given 5 (wrong records (units * (n * record_words f)))
    (given 6 (wrong out (units * record_words f)) 0)))
