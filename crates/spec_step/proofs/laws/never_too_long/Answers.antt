use Rattle.spec_step.proofs.Cutting.{never-long, read-short}
use Rattle.spec_step.proofs.laws.never_too_long.Goals as goal

pub returns-clause-read : goal.returns-clause-read
returns-clause-read c = read-short

pub returns-clause-cut : goal.returns-clause-cut
returns-clause-cut c = never-long c.readings_law.ensures.carries
