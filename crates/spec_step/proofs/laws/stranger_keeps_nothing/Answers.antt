use Rattle.spec_step.proofs.Marking.{datagram-keeps, segment-keeps}
use Rattle.spec_step.proofs.laws.stranger_keeps_nothing.Goals as goal

pub returns-clause-datagram : goal.returns-clause-datagram
returns-clause-datagram c = datagram-keeps c.stranger_keeps_nothing.ensures.kept_idle

pub returns-clause-segment : goal.returns-clause-segment
returns-clause-segment c = segment-keeps c.stranger_keeps_nothing.ensures.kept_idle
