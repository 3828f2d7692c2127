-- `rack::Rack::put_record` meets its contract: a broken card's record is copied, a sound card's is its step's.
use Rattle.std.proofs.Common.{◌≤◌, ◌+◌, ◌-◌, sym, ap, ◌∙◌, length, take, drop, ◌*◌}
use native.Mathlib.Omega.{arith}
use lib.Seq.{sets}
use Rattle.rack.specs.Racks.{size, SoundAsHeld}
use Rattle.rules.proofs.Lists.{part_length, part_back}
use Rattle.rack.proofs.Tables.{copied}
use Rattle.rack.proofs.Accepted.{accepted, record_fits}
use Rattle.rack.proofs.Records.{broken_record, sound_record}
use Rattle.rack.proofs.Rack.put_record.Goals as goal

pub slice_bounds-record-end : goal.slice_bounds-record-end
slice_bounds-record-end c =
    let q = c.requires in
    let fits = record_fits c.args.self _ _ _ c.args.v _ q.accepted q.card_below c.record_words-w.ensures in
    omega (arith, fits.inside)

pub returns-then-is_broken : goal.returns-then-is_broken
returns-then-is_broken c =
    let a = c.args in
    let q = c.requires in
    let r = a.self in
    let w = c.record_words-w.result in
    let at = a.v * w in
    let e = sym c.is_broken.ensures ∙ c.if-is_broken.true in
    let fits = record_fits r _ _ _ a.v w q.accepted q.card_below c.record_words-w.ensures in
    let from : at + w ≤ length a.held.now = omega (arith, fits.inside, fits.same) in
    let put = copied a.held.now a.out.now _ at at w from fits.inside c.copy_from_slice.ensures.after in
    let is = ap (sets a.out.now (a.v * size r)) (broken_record r a.held.now a.sent.now a.v e) in
    (put ∙ rw c.record_words-w.ensures is, q.sound)

pub returns-else-is_broken : goal.returns-else-is_broken
returns-else-is_broken c =
    let a = c.args in
    let q = c.requires in
    let r = a.self in
    let w = c.record_words-w.result in
    let at = a.v * w in
    let heard = c.hear.new.heard in
    let e = sym c.is_broken.ensures ∙ c.if-is_broken.false in
    let fits = record_fits r _ _ _ a.v w q.accepted q.card_below c.record_words-w.ensures in
    let sound : SoundAsHeld r a.held.now heard = λ u j s m. c.hear.ensures.0 u j s m ∙ q.sound u j s m in
    let mine = take (at + w - at) (drop at a.out.now) in
    let long = part_length a.out.now at (at + w - at) (omega (arith, fits.inside)) in
    let many = c.hear.auto.heard ∙ q.heard_whole ∙ (accepted r _ _ _ q.accepted).held_whole in
    let stepped =
    sound_record r a.held.now a.sent.now (length a.out.now) a.v heard mine q.accepted q.card_below
    e many (omega (arith, long, c.record_words-w.ensures)) sound c.hear.ensures.1 in
    let put = part_back c.step.new.out a.out.now at (at + w - at) (c.step.auto.out ∙ long) (omega (arith, fits.inside)) in
    let is = ap (sets a.out.now (a.v * size r)) (c.step.ensures.1 ∙ stepped) in
    (put ∙ rw c.record_words-w.ensures is, sound)
