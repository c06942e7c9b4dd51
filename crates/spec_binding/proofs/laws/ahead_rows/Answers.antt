use Rattle.spec_binding.proofs.Ahead.{ahead-entries, ahead-fits, ahead-keeps, ahead-stays}
use Rattle.spec_binding.proofs.Wishing.{ahead-silent}
use Rattle.spec_binding.proofs.laws.ahead_rows.Goals as goal

pub returns-clause-fit : goal.returns-clause-fit
returns-clause-fit c = λ b full ch. (ahead-fits b full ch).fits

pub returns-clause-answer : goal.returns-clause-answer
returns-clause-answer c = λ b full ch. (ahead-fits b full ch).answer

pub returns-clause-book : goal.returns-clause-book
returns-clause-book c = ahead-keeps

pub returns-clause-batch : goal.returns-clause-batch
returns-clause-batch c = ahead-stays

pub returns-clause-entries : goal.returns-clause-entries
returns-clause-entries c = ahead-entries

pub returns-clause-silent : goal.returns-clause-silent
returns-clause-silent c = ahead-silent
