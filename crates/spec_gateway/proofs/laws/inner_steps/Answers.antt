use Rattle.std.proofs.Common.{ap}
use Rattle.output.specs.Output.{Output}
use Rattle.spec_gateway.proofs.Inside.{inner}
use Rattle.spec_gateway.proofs.laws.inner_steps.Goals as goal

pub returns-clause-either : goal.returns-clause-either
returns-clause-either c = inner

pub returns-clause-notes : goal.returns-clause-notes
returns-clause-notes c = λ s told event s2 told2 step. ap (λ (o : Output). o.notes) step.told_is

pub returns-clause-datagrams : goal.returns-clause-datagrams
returns-clause-datagrams c = λ s told event s2 told2 step. ap (λ (o : Output). o.datagrams) step.told_is
