use Rattle.std.proofs.Common.{arith}
use Rattle.arp.proofs.Tallies.{tally-gap}
use Rattle.arp.proofs.learnt.spot_of.Goals as goal

pub returns-in-Ok-2 : goal.returns-in-Ok-2
returns-in-Ok-2 c = absurd (omega (arith, tally-gap _ _ _ c.in-Ok.ensures.absent, c.requires.known))
