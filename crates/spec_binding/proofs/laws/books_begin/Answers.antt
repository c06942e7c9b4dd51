use Rattle.spec_binding.proofs.Keeping.{empty-keeps, founded-keeps, founded-box}
use Rattle.spec_binding.proofs.laws.books_begin.Goals as goal

pub returns-clause-empty : goal.returns-clause-empty
returns-clause-empty c = empty-keeps

pub returns-clause-founded : goal.returns-clause-founded
returns-clause-founded c = founded-keeps

pub returns-clause-founder : goal.returns-clause-founder
returns-clause-founder c = founded-box
