use Rattle.std.proofs.Common.{reverse}
use Rattle.spec_trace.proofs.Box as laws
use Rattle.spec_trace.proofs.laws.one_box_says.Goals as goal

pub returns : goal.returns
returns c = record { opens = λ m t. laws.run_open m (reverse t); one_to_one = λ m t. laws.run_one m (reverse t); fits = λ m t. laws.run_fits m (reverse t) }
