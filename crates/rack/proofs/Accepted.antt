-- What is known of a beat that is not refused.
use mathlib.Core.Path.{◌≡◌, refl, sym}
use mathlib.Core.Bool.{true}
use Prim.Native.Nat.{ℕ, ◌+◌, ◌*◌, ◌≤◌, ◌<◌}
use native.Mathlib.Nat.{mul-le-mul, mul-le-mul_right, suc-mul}
use native.Mathlib.Omega.{arith}
use lib.Arith.{digits_lt}
use borrow.Author.Tests.{lt-leb, eq-eqb}
use Rattle.rules.specs.Parameters.{most_cards, record_words, bad_cards, bad_broken, bad_modulus}
use Rattle.rules.specs.WholeBeat.{is_broken, broken_below}
use Rattle.rules.specs.Refusals.{counter_refusal, step_refusal}
use Rattle.rules.proofs.Records.{words_most, table_most}
use Rattle.rules.proofs.Shapes.{Beat, not_given, counter_shape, beat_accepted}
use Rattle.rack.specs.declared.Rack.{Rack}
use Rattle.rack.specs.Racks.{size, Accepted}
use Rattle.rack.proofs.BrokenSet.{broken_most, broken_before}

-- a record lies within its table
pub record_inside : (v n w : ℕ) → v < n → v * w + w ≤ n * w
record_inside v n w l = rw (← suc-mul v w) (mul-le-mul_right w l)

-- the words that broken cards send are few
sent_most : (n count w : ℕ) → n ≤ most_cards → count ≤ most_cards → w ≤ 25 → (n * count ≤ 256) × (n * count * w ≤ 6400)
sent_most n count w ln lc lw =
    let few : n * count ≤ 256 = mul-le-mul ln lc in
    (few, mul-le-mul few lw)

-- the lengths of a counter that is not refused are small
pub record Small (n w count : ℕ) : Type 0 where
  pub table : n * w ≤ 400
  pub row : n * count ≤ 256
  pub sent : n * count * w ≤ 6400

pub small : (r : Rack) (w count : ℕ) → 0 ≡ counter_refusal r.counter.n r.counter.f r.counter.c 0
    → w ≡ record_words r.counter.f → count ≡ broken_below r.set r.counter.n → Small r.counter.n w count
small r w count passed ew ec =
    let n = r.counter.n in
    let s = counter_shape n r.counter.f r.counter.c (sym passed) in
    let few : broken_below r.set n ≤ most_cards = omega (arith, s.cards, broken_most r.set n) in
    let most = sent_most n (broken_below r.set n) (size r) s.cards few (words_most r.counter.f s.broken) in
    rw (ew, ec) (record { table = table_most n r.counter.f s.cards s.broken; row = most.0; sent = most.1 })

-- the rules' own account of it
abbrev pub BeatOf : Rack → ℕ → ℕ → ℕ → Type 0
BeatOf r held sent out = Beat r.counter.n r.counter.f r.counter.c r.set held sent out

pub accepted : (r : Rack) (held sent out : ℕ) → Accepted r held sent out → BeatOf r held sent out
accepted r held sent out a = beat_accepted r.counter.n r.counter.f r.counter.c r.set held sent out a

-- so the table of a receiver has room for what is held
pub held_most : (r : Rack) (held sent out : ℕ) → Accepted r held sent out → held ≤ 400
held_most r held sent out a =
    let g = accepted r held sent out a in
    omega (arith, g.held_whole, table_most r.counter.n r.counter.f g.shape.cards g.shape.broken)

-- the record of the card v lies within the tables, which are small
pub record RecordFits (held out v w : ℕ) : Type 0 where
  pub inside : v * w + w ≤ out
  pub same : out ≡ held
  pub small : out ≤ 400

pub record_fits : (r : Rack) (held sent out v w : ℕ) → Accepted r held sent out → v < r.counter.n → w ≡ size r → RecordFits held out v w
record_fits r held sent out v w a l e =
    let g = accepted r held sent out a in
    rw e
    (record {
      inside = omega (arith, record_inside v r.counter.n (size r) l, g.out_whole);
      same = omega (arith, g.out_whole, g.held_whole);
      small = omega (arith, g.out_whole, table_most r.counter.n r.counter.f g.shape.cards g.shape.broken);
    })

-- the record that the broken card u sends to the receiver v lies within the words sent, and its place within the table
pub record HearFits (heard sent v u k w count : ℕ) : Type 0 where
  pub row : v * count + k < 256
  pub from : (v * count + k) * w + w ≤ sent
  pub few : sent ≤ 6400
  pub to : u * w + w ≤ heard
  pub small : heard ≤ 400

pub hear_fits : (r : Rack) (heard sent v u k w count : ℕ) → Accepted r heard sent heard → v < r.counter.n → u < r.counter.n
    → is_broken r.set u ≡ true → k ≡ broken_below r.set u → w ≡ size r → count ≡ broken_below r.set r.counter.n
    → HearFits heard sent v u k w count
hear_fits r heard sent v u k w count a lv lu e ek ew ec =
    let n = r.counter.n in
    let all = broken_below r.set n in
    let g = accepted r heard sent heard a in
    let row = digits_lt lv (broken_before r.set u n lu e) in
    let few : all ≤ most_cards = omega (arith, g.shape.cards, broken_most r.set n) in
    let most = sent_most n all (size r) g.shape.cards few (words_most r.counter.f g.shape.broken) in
    let place = record_fits r heard sent heard u (size r) a lu refl in
    rw (ek, ew, ec)
    (record {
      row = omega arith;
      from = omega (arith, record_inside (v * all + broken_below r.set u) (n * all) (size r) row, g.sent_whole);
      few = omega (arith, g.sent_whole);
      to = place.inside;
      small = place.small;
    })

-- a card is not refused its step
pub step_passes : (r : Rack) (held sent out v records words : ℕ) → Accepted r held sent out → v < r.counter.n
    → records ≡ r.counter.n * size r → words ≡ size r
    → step_refusal r.counter.n r.counter.f r.counter.c v records words ≡ 0
step_passes r held sent out v records words a l er ew =
    let p = not_given 1 (bad_cards r.counter.n) _ (omega arith) a in
    let q = not_given 2 (bad_broken r.counter.n r.counter.f) _ (omega arith) p.1 in
    let m = not_given 3 (bad_modulus r.counter.c) _ (omega arith) q.1 in
    rw (p.0, q.0, m.0, lt-leb _ _ l, eq-eqb _ _ er, eq-eqb _ _ ew)
