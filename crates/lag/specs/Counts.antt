-- Two counts that have a lag: both below a modulus that is allowed.
use Rattle.std.specs.Prelude.{ℕ, ◌<◌, ◌≤◌}
use Rattle.rules.specs.Parameters.{most_modulus}

pub record Counts (c x y : ℕ) : Type 0 where
  pub x_below : x < c
  pub y_below : y < c
  pub most : c ≤ most_modulus
