use Rattle.spec_step.proofs.LettingGo.{lone-goes, made-alone-goes, paired-goes}
use Rattle.spec_step.proofs.Marked.{marked-stays}
use Rattle.spec_step.proofs.Releasing.{apart-releases}
use Rattle.spec_step.proofs.laws.ticks_let_go.Goals as goal

pub returns-clause-lone : goal.returns-clause-lone
returns-clause-lone c = lone-goes

pub returns-clause-paired : goal.returns-clause-paired
returns-clause-paired c = paired-goes

pub returns-clause-made_alone : goal.returns-clause-made_alone
returns-clause-made_alone c = made-alone-goes c.readings_law.ensures.carries

pub returns-clause-apart : goal.returns-clause-apart
returns-clause-apart c = apart-releases c.readings_law.ensures.carries

pub returns-clause-marked : goal.returns-clause-marked
returns-clause-marked c = marked-stays c.readings_law.ensures.carries
