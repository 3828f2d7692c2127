-- A well-formed line has the digits that are read.
use mathlib.Core.Path.{refl, sym, ◌∙◌}
use native.Mathlib.Omega.{arith}
use Rattle.rules.specs.RunFile.{header_of}
use Rattle.digits.proofs.Hexadecimal.{formed}
use Rattle.rules.proofs.Lists.{part_length}
use Rattle.digits.proofs.Parts.{digits_cut, number_part}
use Rattle.frames.proofs.header.header_of.Goals as goal

pub slice_bounds-number_of-end : goal.slice_bounds-number_of-end
slice_bounds-number_of-end c = sym (part_length c.args.line.now 0 2 (omega (arith, formed 12 _ c.requires)))

pub number_of-requires-clause-digits_alone : goal.number_of-requires-clause-digits_alone
number_of-requires-clause-digits_alone c = digits_cut 0 2 _ (formed 12 _ c.requires).1

pub slice_bounds-number_of-end-2 : goal.slice_bounds-number_of-end-2
slice_bounds-number_of-end-2 c = omega (arith, formed 12 _ c.requires)

pub number_of-requires-2-clause-digits_alone : goal.number_of-requires-2-clause-digits_alone
number_of-requires-2-clause-digits_alone c =
    let f = (formed 12 _ c.requires).1 in
    search digits_cut

pub slice_bounds-number_of-end-3 : goal.slice_bounds-number_of-end-3
slice_bounds-number_of-end-3 c = omega (arith, formed 12 _ c.requires)

pub number_of-requires-3-clause-digits_alone : goal.number_of-requires-3-clause-digits_alone
number_of-requires-3-clause-digits_alone c =
    let f = (formed 12 _ c.requires).1 in
    search digits_cut

pub slice_bounds-number_of-end-4 : goal.slice_bounds-number_of-end-4
slice_bounds-number_of-end-4 c = omega (arith, formed 12 _ c.requires)

pub number_of-requires-4-clause-digits_alone : goal.number_of-requires-4-clause-digits_alone
number_of-requires-4-clause-digits_alone c =
    let f = (formed 12 _ c.requires).1 in
    search digits_cut

pub returns : goal.returns
unfolding header_of
returns c =
    let line = c.args.line.now in
    let f = formed 12 line c.requires in
    rw (
      c.number_of.ensures ∙ number_part line 0 2 2 refl (omega arith),
      c.number_of-2.ensures ∙ number_part line 2 2 2 refl (omega arith),
      c.number_of-3.ensures ∙ number_part line 4 4 4 refl (omega arith),
      c.number_of-4.ensures ∙ number_part line 8 4 4 refl (omega arith),
    )
