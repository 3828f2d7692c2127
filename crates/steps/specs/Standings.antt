-- The two words that the three steps change, as the rules have them, and what the steps require.
use Rattle.std.specs.Prelude.{ℕ, ◌/◌, ◌≤◌, ◌<◌}
use Rattle.rules.specs.OneBeat.{Standing}
use Rattle.columns.specs.declared.Column.{Column}
use Rattle.columns.specs.Columns.{Within}
use Rattle.steps.specs.declared.Standing.{Standing as Kept}

abbrev pub standing : Kept → Standing
standing s = record { a = s.a; b = s.b }

-- what `step_1` requires: a column of outputs, and an f and a c that are small enough to compute with
pub record StepAsks (col : Column) (f c : ℕ) : Type 0 where
  pub within : Within col
  pub few : f < 256
  pub modulus : c ≤ 65535

-- what `three_steps` requires: the phase d names a king of the group
pub record ThreeStepsAsks (col : Column) (f c d : ℕ) : Type 0 where
  pub within : Within col
  pub few : f < 256
  pub modulus : c ≤ 65535
  pub king : d / 3 < col.n
