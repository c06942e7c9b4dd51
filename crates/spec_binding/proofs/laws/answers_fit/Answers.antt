use Rattle.spec_binding.proofs.Fitting.{idle-sound, row-sound, taken-spelled, wish-sound}
use Rattle.spec_binding.proofs.Keeping.{batch-formed, fed-formed}
use Rattle.spec_binding.proofs.laws.answers_fit.Goals as goal

pub returns-clause-taken : goal.returns-clause-taken
returns-clause-taken c = taken-spelled

pub returns-clause-row : goal.returns-clause-row
returns-clause-row c = λ b rests r is formed. (row-sound b rests r is formed).answer

pub returns-clause-wished : goal.returns-clause-wished
returns-clause-wished c = λ b apart full e is formed. (wish-sound b apart full e is formed).answer

pub returns-clause-idle : goal.returns-clause-idle
returns-clause-idle c = λ b ask k is. (idle-sound b ask k is).answer

pub returns-clause-batch : goal.returns-clause-batch
returns-clause-batch c = batch-formed

pub returns-clause-fed : goal.returns-clause-fed
returns-clause-fed c = fed-formed
