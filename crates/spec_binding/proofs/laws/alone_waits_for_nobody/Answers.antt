use Rattle.spec_binding.proofs.Marking.{all-translate, none-waiting}
use Rattle.spec_binding.proofs.laws.alone_waits_for_nobody.Goals as goal

pub returns-clause-translate : goal.returns-clause-translate
returns-clause-translate c = all-translate

pub returns-clause-none : goal.returns-clause-none
returns-clause-none c = none-waiting
