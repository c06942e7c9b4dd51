use Rattle.std.proofs.Common.{reverse, IsTrue}
use Rattle.spec_trace.proofs.Plain as laws
use Rattle.spec_trace.proofs.laws.none_is_private.Goals as goal

pub returns : goal.returns
returns c = λ holds t. laws.kept_shared (λ i p. IsTrue (holds i p)) (reverse t)
