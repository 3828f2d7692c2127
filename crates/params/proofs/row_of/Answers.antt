-- `params::row_of` meets its contract: the whole table is computed from the formulas, in one test.
use mathlib.Core.Path.{ap}
use mathlib.Core.List.{List, [], ◌∷◌}
use Prim.Native.Nat.{ℕ}
use native.Mathlib.Omega.{arith}
use lib.ListN.{get_or}
use Rattle.rules.specs.Parameters.{digits_in, binary_digits, beats_in, settle_beats}
use Rattle.rules.specs.Calls.{row_of}
use Rattle.params.specs.declared.Row.{Row}
use Rattle.params.proofs.Table.{at}
use Rattle.params.proofs.row_of.Goals as goal

-- a row's entries, in the table's order, and the row of them
rule : ℕ → List ℕ
rule f = let p = row_of f in p.turn ∷ p.c0 ∷ p.c1 ∷ p.restart ∷ p.words ∷ p.beats ∷ []

abbrev row_with : List ℕ → Row
row_with l =
    record { turn = get_or l 0 0; c0 = get_or l 1 0; c1 = get_or l 2 0; restart = get_or l 3 0; words = get_or l 4 0; beats = get_or l 5 0 }

pub returns : goal.returns
unfolding rule row_of digits_in binary_digits beats_in settle_beats
returns c = ap row_with (at 6 rule [] c.args.f (omega arith))
