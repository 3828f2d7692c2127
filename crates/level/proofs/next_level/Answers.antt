use Rattle.std.proofs.Common.{ap, ◌∙◌, arith}
use Rattle.rules.specs.OneBeat.{Standing, next_wait}
use Rattle.level.specs.Levels.{level_after}
use Rattle.level.proofs.Places.{half_fits, half_common}
use Rattle.level.proofs.Rows.{row_asked, halves_asked}
use Rattle.level.proofs.next_level.Goals as goal

pub next_vote-vote0-requires : goal.next_vote-vote0-requires
next_vote-vote0-requires c =
    let r = row_asked c.requires in
    record { split = c.requires.split; a_half = omega arith; modulus = r.m0 }

pub next_vote-vote1-requires : goal.next_vote-vote1-requires
next_vote-vote1-requires c =
    let r = row_asked c.requires in
    record { split = c.requires.split; a_half = omega arith; modulus = r.m1 }

pub voted-requires : goal.voted-requires
voted-requires c =
    let r = row_asked c.requires in omega arith

pub voted-voted-requires : goal.voted-voted-requires
voted-voted-requires c =
    let r = row_asked c.requires in omega arith

pub next_standing-stand-requires : goal.next_standing-stand-requires
next_standing-stand-requires c = (c.requires, c.read-own.ensures)

pub half-requires : goal.half-requires
half-requires c = (halves_asked c.requires).0

pub common_output-requires : goal.common_output-requires
common_output-requires c =
    let s = c.requires.split in
    rw c.half.ensures (half_fits s 0 (omega arith), omega (arith, s.fits.broken))

pub half-requires-2 : goal.half-requires-2
half-requires-2 c = (halves_asked c.requires).1

pub common_output-requires-2 : goal.common_output-requires-2
common_output-requires-2 c =
    let s = c.requires.split in
    rw c.half-2.ensures (half_fits s 1 (omega arith), omega (arith, s.fits.broken))

pub returns : goal.returns
unfolding level_after next_wait
returns c =
    let r = row_asked c.requires in
    let m0 = c.common_output.ensures ∙ half_common c.args.g c.half.result 0 c.half.ensures in
    let m1 = c.common_output-2.ensures ∙ half_common c.args.g c.half-2.result 1 c.half-2.ensures in
    simp (
      m1,
      m0,
      c.voted-voted.ensures,
      c.voted.ensures,
      c.next_vote-vote1.ensures,
      c.next_vote-vote0.ensures,
      c.read-own.ensures,
      ap (λ (s : Standing). s.a) c.next_standing-stand.ensures,
      ap (λ (s : Standing). s.b) c.next_standing-stand.ensures,
      r.m0,
      r.m1,
      r.again,
    )
