use Rattle.std.proofs.Common.{sym, ◌∙◌}
use Rattle.arp.proofs.Logs.{tally-more}
use Rattle.arp.proofs.learnt.first_place_of.Goals as goal

pub loop-place-preserved : goal.loop-place-preserved
loop-place-preserved c = tally-more _ _ _ c.loop-place-test.true c.loop-place.invariant (sym c.is_of.ensures ∙ c.if-is_of.false)
