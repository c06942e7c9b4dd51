use Rattle.fragments.proofs.Offered.{none_there-bytes}
use Rattle.spec_gateway.proofs.Keeping.{bytes-step}
use Rattle.spec_gateway.proofs.laws.parts_stay_bytes.Goals as goal

pub returns-clause-begun : goal.returns-clause-begun
returns-clause-begun c = λ g. none_there-bytes

pub returns-clause-step : goal.returns-clause-step
returns-clause-step c = bytes-step
