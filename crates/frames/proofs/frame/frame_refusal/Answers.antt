-- A well-formed line has the digits of its beat.
use mathlib.Core.Path.{◌≡◌, refl, sym, ◌∙◌}
use mathlib.Core.Bool.{true}
use native.Mathlib.Omega.{arith}
use borrow.Author.Tests.{eq-eqb, ne_eqb}
use Rattle.rules.specs.RunFile.{frame_digits}
use Rattle.rules.specs.Text.{well_formed}
use Rattle.digits.proofs.Hexadecimal.{formed}
use Rattle.rules.proofs.Lists.{part_length}
use Rattle.digits.proofs.Parts.{digits_cut, number_part}
use Rattle.frames.proofs.frame.frame_refusal.Goals as goal

pub slice_bounds-number_of-end : goal.slice_bounds-number_of-end
slice_bounds-number_of-end c =
    sym (part_length c.args.line.now 0 4 (omega (arith, formed _ _ (sym c.if-not-well_formed.ensures))))

pub number_of-requires-clause-digits_alone : goal.number_of-requires-clause-digits_alone
number_of-requires-clause-digits_alone c =
    digits_cut 0 4 _ (formed _ _ (sym c.if-not-well_formed.ensures)).1

pub returns-then-number_of-beat : goal.returns-then-number_of-beat
returns-then-number_of-beat c =
    let formed_so : true ≡ well_formed (frame_digits c.args.words) c.args.line.now = c.if-not-well_formed.ensures in
    let f = formed _ _ (sym formed_so) in
    let e = c.number_of.ensures ∙ number_part c.args.line.now 0 4 4 refl (omega arith) in
    rw (← formed_so, ← e, ne_eqb _ _ c.if-number_of-beat.true)

pub returns : goal.returns
returns c =
    let formed_so : true ≡ well_formed (frame_digits c.args.words) c.args.line.now = c.if-not-well_formed.ensures in
    let f = formed _ _ (sym formed_so) in
    let e = c.number_of.ensures ∙ number_part c.args.line.now 0 4 4 refl (omega arith) in
    rw (← formed_so, ← e, eq-eqb _ _ c.if-number_of-beat.false)
