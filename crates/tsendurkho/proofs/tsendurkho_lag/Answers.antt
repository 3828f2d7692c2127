-- `tsendurkho_lag` meets its contract: it answers what `lag_of` answers.
use borrow.Author.Rules.{rules}
use mathlib.Core.Path.{◌∙◌}
use mir.Val.{SFits}
use mir.Syntax.{w32}
use Rattle.std.proofs.Math.Facts.{to_z-of_z}
use Rattle.tsendurkho.proofs.tsendurkho_lag.Goals as goal

pub returns : goal.returns
returns c =
    let fits : SFits w32 c.lag_of.result = search rules in
    to_z-of_z fits ∙ c.lag_of.ensures
