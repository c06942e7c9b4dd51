use Rattle.spec_step.proofs.Nobody.{apart-takes, apart-waits}
use Rattle.spec_step.proofs.laws.alone_waits_for_nobody.Goals as goal

pub returns-clause-tick : goal.returns-clause-tick
returns-clause-tick c = apart-waits c.readings_law.ensures.carries

pub returns-clause-packet : goal.returns-clause-packet
returns-clause-packet c = apart-takes
