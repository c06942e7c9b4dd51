use Rattle.spec_binding.proofs.Fitting.{alone-sound}
use Rattle.spec_binding.proofs.Keeping.{alone-row-keeps}
use Rattle.spec_binding.proofs.Leaving.{alone-stays}
use Rattle.spec_binding.proofs.laws.alone_rows.Goals as goal

pub returns-clause-fit : goal.returns-clause-fit
returns-clause-fit c = λ b apart full k is. (alone-sound b apart full k is).fits

pub returns-clause-answer : goal.returns-clause-answer
returns-clause-answer c = λ b apart full k is. (alone-sound b apart full k is).answer

pub returns-clause-batch : goal.returns-clause-batch
returns-clause-batch c = λ b apart full k is. alone-stays b apart full k is

pub returns-clause-book : goal.returns-clause-book
returns-clause-book c = alone-row-keeps
