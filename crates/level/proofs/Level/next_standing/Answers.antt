use Rattle.std.proofs.Common.{◌<◌, ◌∙◌, arith}
use native.Mathlib.Nat.{mod-lt}
use Rattle.rules.specs.Parameters.{turn}
use Rattle.rules.specs.OneBeat.{phase, kept_d}
use Rattle.level.specs.Groups.{heard_by}
use Rattle.steps.specs.Standings.{standing}
use Rattle.level.proofs.Standings.{stand_is}
use Rattle.level.proofs.Places.{split_place, column_within}
use Rattle.level.proofs.Rows.{row_asked}
use Rattle.level.proofs.Level.next_standing.Goals as goal

pub phase-d-requires : goal.phase-d-requires
phase-d-requires c =
    let r = row_asked c.requires.0 in
    record { is = r.t; short = omega (arith, r.t, c.requires.0.split.fits.broken) }

pub column-requires : goal.column-requires
column-requires c = split_place c.requires.0.split _ (omega arith)

pub three_steps-s-requires : goal.three_steps-s-requires
unfolding phase
three_steps-s-requires c =
    let f = c.args.g.f in
    let below : c.phase-d.result < turn f = rw c.phase-d.ensures (mod-lt _ (omega arith)) in
    let s = c.requires.0.split in
    rw c.column.ensures
    (record {
      within = column_within s _ (omega arith);
      few = omega (arith, s.fits.broken);
      modulus = s.fits.modulus;
      king = omega (arith, s.fits.few, s.some);
    })

pub returns : goal.returns
unfolding kept_d
returns c =
    let g = c.args.g in
    let own = c.requires.1 in
    stand_is g.n g.f g.c (heard_by g) c.args.card c.phase-d.result c.gain.result
    (standing c.three_steps-s.result) c.requires.0.split.some
    (c.phase-d.ensures ∙ rw own)
    (c.three_steps-s.ensures ∙ rw (c.column.ensures, own))
    c.gain.ensures
