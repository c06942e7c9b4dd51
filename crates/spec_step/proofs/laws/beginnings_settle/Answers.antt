use Rattle.spec_step.proofs.Settling.{begun-settles, founded-settles}
use Rattle.spec_step.proofs.laws.beginnings_settle.Goals as goal

pub returns-clause-begun : goal.returns-clause-begun
returns-clause-begun c = begun-settles

pub returns-clause-founded : goal.returns-clause-founded
returns-clause-founded c = founded-settles
