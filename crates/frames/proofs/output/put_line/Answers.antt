-- The beat and each card's word fill the places that are cut for them.
use mathlib.Core.Path.{◌≡◌, refl, ap, ◌∙◌}
use Prim.Native.Nat.{◌+◌, ◌*◌, ◌-◌}
use native.Mathlib.Omega.{arith}
use lib.ListN.{length}
use lib.Seq.{length-sets}
use Rattle.rules.specs.Counting.{rows}
use Rattle.rules.specs.Text.{hex_of}
use Rattle.rules.proofs.Lists.{part_back}
use Rattle.digits.proofs.Hexadecimal.{hex_length}
use Rattle.digits.proofs.Stores.{rows_more}
use Rattle.frames.specs.Headers.{said}
use Rattle.frames.proofs.Headers.{good}
use Rattle.frames.proofs.Shown.{shown_text, line_length_lem, line_stored}
use Rattle.frames.proofs.output.put_line.Goals as goal

pub loop-v-init : goal.loop-v-init
unfolding rows
loop-v-init c =
    let a = c.args in
    let beat = c.put_word.new.out in
    let s = part_back beat a.out.now 0 4 (ap length c.put_word.ensures ∙ hex_length 4 a.beat) (omega arith) in
    (rw s (omega (arith, length-sets a.out.now 0 beat)), refl)

pub loop-v-preserved : goal.loop-v-preserved
loop-v-preserved c =
    let v = c.loop-v.v in
    let out = c.loop-v.out in
    let at = 4 + 4 * v in
    let word = c.put_word-in-loop-v.new.out in
    let shown = shown_text (said c.args.header.rack) c.args.table.now in
    let e : word ≡ shown v = c.put_word-in-loop-v.ensures ∙ ap (hex_of 4) c.shown_word.ensures in
    let four : at + 4 - at ≡ 4 = omega arith in
    let few = (good (said c.args.header.rack) c.args.header.passes).shape.cards in
    let s = part_back word out at (at + 4 - at) (rw (e, four) (hex_length 4 _)) (omega arith) in (
      rw s (omega (arith, length-sets out at word)),
      s ∙ rw (c.loop-v.invariant.1, e) (rows_more _ 4 v 4 at shown (λ j. hex_length 4 _) (omega arith)),
    )

pub returns : goal.returns
returns c =
    let a = c.args in
    let h = said a.header.rack in
    let e : c.loop-v.v ≡ h.n = omega arith in
    let s = part_back c.put_word.new.out a.out.now 0 4 (ap length c.put_word.ensures ∙ hex_length 4 a.beat) (omega arith) in (
      omega (arith, line_length_lem h a.beat a.table.now),
      rw (c.loop-v.invariant.1, e, s, c.put_word.ensures)
          (line_stored h a.beat (4 + 4 * h.n) a.table.now a.out.now refl),
    )
