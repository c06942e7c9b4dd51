use Rattle.spec_step.proofs.Leaving.{echo-leave, long-refused, refused-changes, refused-leave}
use Rattle.spec_step.proofs.laws.own_leaves_pairs.Goals as goal

pub returns-clause-answers : goal.returns-clause-answers
returns-clause-answers c = echo-leave

pub returns-clause-complaints : goal.returns-clause-complaints
returns-clause-complaints c = refused-leave

pub returns-clause-little : goal.returns-clause-little
returns-clause-little c = refused-changes

pub returns-clause-too_long : goal.returns-clause-too_long
returns-clause-too_long c = long-refused
