-- The whole beat is not refused, and its table is copied.
use mathlib.Core.Path.{◌≡◌, ◌∙◌}
use native.Mathlib.Omega.{arith}
use Rattle.frames.proofs.Stores.{prefix_stored}
use Rattle.runfile.proofs.Takes.{beat_done}
use Rattle.runfile.proofs.beat_records.Goals as goal

pub returns : goal.returns
returns c =
    let a = c.args in
    let table = a.table.now in
    let words = c.start_words-words.result in
    let few = c.start_words-words.ensures in
    let d = beat_done a.header.rack table a.sent.now _ _ words a.header.passes few.0 c.requires.1
    (omega (arith, few.1, c.requires.0)) (omega (arith, few.1)) c.beat.ensures.1 in
    let copied : c.copy_from_slice.new.self ≡ c.beat.new.out = c.copy_from_slice.ensures.after in
    rw copied
    (prefix_stored table c.beat.new.out words d.1 (omega (arith, few.1, c.requires.0)) ∙ rw d.0)
