-- `rack::Rack::hear` meets its contract: the broken cards gone through are heard as they send.
use Rattle.std.proofs.Common.{◌≡◌, ◌<◌, ◌≤◌, length, true, refl, sym, ap, ◌∙◌, ◌+◌, ◌*◌, ℕ}
use native.Mathlib.Omega.{arith}
use Rattle.rules.specs.Counting.{count_below}
use Rattle.rules.specs.WholeBeat.{is_broken, broken_below}
use Rattle.rack.proofs.BrokenSet.{one_broken, one_sound}
use Rattle.rack.proofs.Accepted.{hear_fits}
use Rattle.rack.proofs.Tables.{copied}
use Rattle.rack.proofs.Hearing.{broken_heard, sound_passed}
use Rattle.rack.proofs.Rack.hear.Goals as goal
use Rattle.rack.proofs.Rack.hear.Goals.{then-is_broken, else-is_broken}

pub loop-u-init : goal.loop-u-init
unfolding broken_below count_below
loop-u-init c =
    let a = c.args in (
      refl,
      omega arith,
      λ l e. hear_fits a.self _ _ a.v 0 0 _ _ c.requires.0 c.requires.1 l e refl c.record_words-w.ensures c.broken_below-count.ensures,
      λ u j e l. refl,
      λ u j l e m. absurd (omega arith),
    )

pub loop-u-preserved : goal.loop-u-preserved
loop-u-preserved c =
    let a = c.args in
    let r = a.self in
    let u = c.loop-u.u in
    let w = c.record_words-w.result in
    let inv = c.loop-u.invariant in
    let is = sym c.is_broken.ensures in
    let after = c.if-is_broken.k in
    let next_fits = λ (k : after ≡ broken_below r.set (u + 1)) (l : u + 1 < r.counter.n) (e : is_broken r.set (u + 1) ≡ true).
    hear_fits r _ _ a.v (u + 1) after _ _ c.requires.0 c.requires.1 l e k c.record_words-w.ensures c.broken_below-count.ensures in
    elim c.if-is_broken.branch [
      | then-is_broken b ↦
          let e = is ∙ b.if-is_broken.true in
          let fits = inv.2 c.loop-u-test.true e in
          let next = b.k-is ∙ ap (λ (k : ℕ). k + 1) inv.0 ∙ sym (one_broken r.set u e) in
          let room : u * w + w ≤ length c.loop-u.heard = omega (arith, fits.to, c.loop-u.auto.heard) in
          let put = copied a.sent.now c.loop-u.heard _ _ (u * w) w fits.from room b.copy_from_slice.ensures.after in
          let h = broken_heard r a.heard.now a.sent.now a.v u c.loop-u.heard c.if-is_broken.heard e
          (rw c.record_words-w.ensures at room)
          (rw (c.record_words-w.ensures, c.broken_below-count.ensures, inv.0) at (b.heard-is ∙ put)) inv.3 inv.4 in
          (next, omega arith, next_fits next, h.0, h.1)
      | else-is_broken b ↦
          let e = is ∙ b.if-is_broken.false in
          let next = b.k-is ∙ inv.0 ∙ sym (one_sound r.set u e) in
          rw b.heard-is
          (next, omega arith, next_fits next, inv.3, sound_passed r a.heard.now a.sent.now a.v u c.loop-u.heard e inv.4)
    ]
