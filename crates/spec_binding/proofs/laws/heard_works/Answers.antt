use Rattle.spec_binding.proofs.Parts.{heard-works, works-alike}
use Rattle.std.proofs.Common.{[]}
use Rattle.spec_binding.proofs.laws.heard_works.Goals as goal

pub returns-clause-heard : goal.returns-clause-heard
returns-clause-heard c = heard-works

pub returns-clause-alike : goal.returns-clause-alike
returns-clause-alike c = λ now b e e1 n h. works-alike now [] [] b e e1 n h
