use Rattle.spec_trace.proofs.Exact as laws
use Rattle.spec_trace.proofs.laws.one_answer.Goals as goal

pub returns : goal.returns
returns c = record { fault = laws.one_fault; none = laws.no_fault }
