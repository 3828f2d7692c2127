-- `step_within` meets its contract: the buffers are as long as the step on their words needs, and that is the step on bytes.
use mathlib.Core.Path.{◌≡◌, ◌∙◌}
use native.Mathlib.Omega.{arith}
use lib.ListN.{length}
use Rattle.tsendurkho.proofs.Accepted.{step_same}
use Rattle.tsendurkho.proofs.Buffers.{front, buffers}
use Rattle.tsendurkho.proofs.step_within.Goals as goal

pub slice_bounds-next-end : goal.slice_bounds-next-end
slice_bounds-next-end g c =
    let a = c.args in
    let k = a.counter in
    (buffers k.n k.f k.c a.card g.row.TABLE _ _ c.requires.accepted c.requires.fits).next.inside

pub slice_bounds-next-end-2 : goal.slice_bounds-next-end-2
slice_bounds-next-end-2 g c =
    let a = c.args in
    let k = a.counter in
    let b = buffers k.n k.f k.c a.card g.row.TABLE _ _ c.requires.accepted c.requires.fits in
    omega (arith, b.next.whole)

pub put_next-requires : goal.put_next-requires
put_next-requires g c =
    let a = c.args in
    let k = a.counter in
    let b = buffers k.n k.f k.c a.card g.row.TABLE _ _ c.requires.accepted c.requires.fits in
    let same : length c.decode.new.words ≡ length (front g.row.TABLE (length a.records.now)) = c.decode.auto.words in
    (rw same b.accepts, b.next.zeros)

pub encode-requires : goal.encode-requires
encode-requires g c =
    let a = c.args in
    let k = a.counter in
    let b = buffers k.n k.f k.c a.card g.row.TABLE _ _ c.requires.accepted c.requires.fits in
    omega (arith, b.next.whole, c.put_next.auto.out)

pub returns : goal.returns
returns g c =
    let a = c.args in
    let k = a.counter in
    let b = buffers k.n k.f k.c a.card g.row.TABLE _ _ c.requires.accepted c.requires.fits in
    c.encode.ensures ∙ rw (c.put_next.ensures, c.decode.ensures)
    (step_same k.n k.f k.c a.card _ a.records.now a.out.now _ c.requires.accepted b.table.whole b.next.whole)
