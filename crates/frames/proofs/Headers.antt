-- What is known of a header whose tests are passed, and how long its lines are.
use mathlib.Core.Path.{◌≡◌, refl}
use Prim.Native.Nat.{◌*◌, ◌≤◌}
use native.Mathlib.Nat.{mul-le-mul}
use native.Mathlib.Omega.{arith}
use Rattle.rules.specs.WholeBeat.{broken_below}
use Rattle.rules.specs.RunFile.{Header, header_tests, start_words, beat_words}
use Rattle.rules.proofs.Records.{words_most, table_most}
use Rattle.rules.proofs.Shapes.{Beat, beat_accepted}
use Rattle.rules.proofs.RunFiles.{beat_passed}

-- a header that passes its tests is one of an accepted beat
pub good : (h : Header) → header_tests h ≡ 0 → Beat h.n h.f h.c h.set (start_words h) (beat_words h) (start_words h)
good h e =
    beat_accepted h.n h.f h.c h.set (start_words h) (beat_words h) (start_words h)
    (beat_passed h e (start_words h) (beat_words h) (start_words h) refl refl refl)

-- the longest lines
pub start_most : (h : Header) → header_tests h ≡ 0 → start_words h ≤ 400
start_most h e = let g = (good h e).shape in table_most h.n h.f g.cards g.broken

pub sent_most : (h : Header) → header_tests h ≡ 0
    → let count = broken_below h.set h.n in
    (count ≤ 5) × (h.n * count ≤ 80) × (beat_words h ≤ 2000)
sent_most h e =
    let g = good h e in
    let b : broken_below h.set h.n ≤ 5 = omega (arith, g.set_few, g.shape.broken) in
    let rows : h.n * broken_below h.set h.n ≤ 16 * 5 = mul-le-mul g.shape.cards b in
    (b, rows, mul-le-mul rows (words_most h.f g.shape.broken))
