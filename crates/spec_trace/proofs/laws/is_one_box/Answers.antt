use Rattle.std.proofs.Common.{reverse}
use Rattle.spec_trace.proofs.Box as laws
use Rattle.spec_trace.proofs.laws.is_one_box.Goals as goal

pub returns : goal.returns
returns c = λ t. laws.run_of (reverse t)
