use Rattle.std.proofs.Common.{arith, rules}
use Rattle.rules.specs.OneBeat.{next_vote}
use Rattle.level.proofs.Places.{split_place, column_within}
use Rattle.level.proofs.Rows.{modulus_small}
use Rattle.level.proofs.group.Group.next_vote.Goals as goal

pub column-requires : goal.column-requires
column-requires g c = split_place c.requires.split _ (omega arith)

pub vote_of-requires : goal.vote_of-requires
vote_of-requires g c =
    let fits = c.requires.split.fits in
    rw (c.column.ensures, c.requires.modulus)
    (record {
      within = column_within c.requires.split _ (omega arith);
      few = fits.few;
      room = modulus_small g.row.I c.args.self.f fits.broken;
    })

pub returns : goal.returns
unfolding next_vote
returns g c = search rules
