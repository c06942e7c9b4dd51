use Rattle.spec_binding.proofs.Working.{record-works}
use Rattle.spec_binding.proofs.laws.record_works.Goals as goal

pub returns : goal.returns
returns c = record-works
