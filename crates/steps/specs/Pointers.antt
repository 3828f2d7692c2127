-- What the phase is computed from.
use Rattle.std.specs.Prelude.{◌≡◌, ℕ, ◌<◌}
use Rattle.rules.specs.Parameters.{turn}

-- the turn of a group with this f, so short that three times the turn is a word
pub record TurnOf (f t : ℕ) : Type 0 where
  pub is : t ≡ turn f
  pub short : t < 1024
