use Rattle.fragments.proofs.Cutting.{few-pieces, piece-is}
use Rattle.fragments.proofs.laws.cut_law.Goals as goal

pub returns-clause-few : goal.returns-clause-few
returns-clause-few c = few-pieces

pub returns-clause-pieces : goal.returns-clause-pieces
returns-clause-pieces c = piece-is
