use Rattle.rewrite.proofs.Rights.{inside-right, passed-right}
use Rattle.rewrite.proofs.Shows.{passed-message}
use Rattle.rewrite.proofs.laws.error_law.Goals as goal

pub returns-clause-payload : goal.returns-clause-payload
returns-clause-payload c = passed-message

pub returns-clause-message : goal.returns-clause-message
returns-clause-message c = passed-right

pub returns-clause-inside : goal.returns-clause-inside
returns-clause-inside c = inside-right
