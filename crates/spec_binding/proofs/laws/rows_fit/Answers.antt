use Rattle.spec_binding.proofs.Fitting.{carry-sound, idle-sound, row-sound, wish-sound}
use Rattle.spec_binding.proofs.laws.rows_fit.Goals as goal

pub returns-clause-taken : goal.returns-clause-taken
returns-clause-taken c = λ b rests r is formed. (row-sound b rests r is formed).fits

pub returns-clause-wished : goal.returns-clause-wished
returns-clause-wished c = λ b apart full e is formed. (wish-sound b apart full e is formed).fits

pub returns-clause-idle : goal.returns-clause-idle
returns-clause-idle c = λ b ask k is. (idle-sound b ask k is).fits

pub returns-clause-carried : goal.returns-clause-carried
returns-clause-carried c = λ b k is. (carry-sound b k).fits
