-- A broken card is none, and another's count is read in its record.
use mathlib.Core.Path.{◌≡◌, sym, ◌∙◌}
use Prim.Native.Nat.{◌+◌, ◌*◌, ◌-◌, ◌≤◌}
use native.Mathlib.Omega.{arith}
use lib.ListN.{length, take, drop, length-drop}
use lib.Seq.{length-take-le}
use Rattle.rules.specs.declared.Vote.TheVariants.{Count}
use Rattle.rules.specs.Parameters.{record_words}
use Rattle.rules.specs.RunFile.{start_words}
use Rattle.frames.specs.Headers.{said}
use Rattle.rack.proofs.Accepted.{record_inside}
use Rattle.frames.proofs.Shown.{unwrapped, shown_sound, shown_broken}
use Rattle.frames.proofs.output.shown_word.Goals as goal

pub returns-then-is_broken : goal.returns-then-is_broken
returns-then-is_broken c = c.from.ensures ∙ shown_broken _ _ _ (sym c.if-is_broken.ensures)

pub returns : goal.returns
returns c =
    let a = c.args in
    let h = said a.header.rack in
    let w = c.record_words-w.result in
    let from = a.v * w in
    let row : from + w ≤ start_words h = rw c.record_words-w.ensures (record_inside a.v h.n (record_words h.f) c.requires.1) in
    let inside : from + w ≤ length a.table.now = omega (arith, c.requires.0) in
    let q : from + w - from ≡ w = omega arith in
    let words = take (from + w - from) (drop from a.table.now) in
    let whole : length words ≡ w = rw q (length-take-le w (drop from a.table.now) (omega (arith, length-drop from a.table.now))) in
    c.from-2.ensures
    ∙ rw (c.unwrap_or.ensures, unwrapped (Count 0) c.shown_count-shown.result) c.shown_count-shown.ensures.number
    ∙ shown_sound h a.table.now a.v w a.header.passes c.record_words-w.ensures inside (sym c.if-is_broken.ensures) words (rw q) whole
