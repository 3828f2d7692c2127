use Rattle.std.proofs.Common.{sym, ◌∙◌}
use Rattle.feed.proofs.Whole.{part_fed, all_fed}
use Rattle.blockrun.proofs.run_piece.Goals as goal

pub loop-at-preserved : goal.loop-at-preserved
loop-at-preserved c = part_fed _ _ _ _ _ _ _ c.feed_from-fed.ensures ∙ c.loop-at.invariant

pub returns : goal.returns
returns c = sym (all_fed _ _ _ c.loop-at-test.false) ∙ c.loop-at.invariant
