use Rattle.std.proofs.Common.{◌∙◌, ap, ◌+◌, ◌-◌, length, arith}
use lib.Seq.{sets}
use Rattle.rules.proofs.Lists.{part_back}
use Rattle.rules.proofs.Records.{eight_words}
use Rattle.level.specs.Groups.{heard_by}
use Rattle.level.proofs.Rows.{halves_asked}
use Rattle.groups.proofs.Words.{leaf_is, node_is, half_smaller}
use Rattle.groups.proofs.+step_group_step_half.Goals as goal

pub step_half-half-requires : goal.step_half-half-requires
step_half-half-requires t c = (halves_asked c.requires.0).0

pub step_half-step_group-requires : goal.step_half-step_group-requires
step_half-step_group-requires t c =
    let h = half_smaller 0 c.requires.0.split (omega arith) c.half.ensures in
    (omega arith, record { fits = h.fits; member = omega arith; words = omega (arith, c.requires.1) })

pub step_half-half-requires-else-card-before : goal.step_half-half-requires-else-card-before
step_half-half-requires-else-card-before t c = (halves_asked c.requires.0).1

pub step_half-step_group-requires-else-card-before : goal.step_half-step_group-requires-else-card-before
step_half-step_group-requires-else-card-before t c =
    let h = half_smaller 1 c.requires.0.split (omega arith) c.half-else-card-before.ensures in
    (omega arith, record { fits = h.fits; member = omega (arith, c.requires.0.member); words = omega (arith, c.requires.1) })

pub step_split-slice_bounds-put-end : goal.step_split-slice_bounds-put-end
step_split-slice_bounds-put-end t c =
    omega (arith, c.requires.words, eight_words c.args.g.f c.requires.split.some)

pub step_split-returns : goal.step_split-returns
step_split-returns t c =
    let g = c.args.g in
    let out = c.args.out.now in
    let there = part_back c.put.new.out out g.base (g.base + 8 - g.base) (omega (arith, ap length c.put.ensures))
    (omega (arith, c.requires.words, eight_words g.f c.requires.split.some)) in
    node_is g.n g.f g.c (heard_by g) c.args.card g.base out _ _ c.next_level.result c.requires.split.some
    c.next_level.ensures (there ∙ ap (sets out g.base) c.put.ensures) c.step_half.ensures

pub step_group-returns-then-g-eq0 : goal.step_group-returns-then-g-eq0
step_group-returns-then-g-eq0 t c =
    let g = c.args.g in
    leaf_is g.n g.f g.c (heard_by g) c.args.card g.base c.args.out.now c.leaf_word.result c.if-g-eq0.true c.leaf_word.ensures
