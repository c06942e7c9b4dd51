use Rattle.rewrite.proofs.Moved.{header_with-right}
use Rattle.rewrite.proofs.laws.header_law.Goals as goal

pub returns : goal.returns
returns c = header_with-right
