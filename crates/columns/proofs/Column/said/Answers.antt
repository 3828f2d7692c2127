use Rattle.std.proofs.Common.{◌+◌, arith}
use lib.Arith.{digits_lt}
use Rattle.columns.proofs.Column.said.Goals as goal

-- the one place where the index of a word is computed
pub bounds-self-row : goal.bounds-self-row
bounds-self-row c =
    let col = c.args.self in
    let w = c.requires.0 in
    omega (arith, digits_lt {q = col.first + c.args.u} {m = col.first + col.n} {c = col.w} (omega arith) w.place)
