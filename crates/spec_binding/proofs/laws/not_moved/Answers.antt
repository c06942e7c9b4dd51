use Rattle.spec_binding.proofs.Serving.{alone-moves-none, idle-moves-none, restart-moves-none, taken-moves-none, wish-moves-none, word-moves-none}
use Rattle.spec_binding.proofs.laws.not_moved.Goals as goal

pub returns-clause-wished : goal.returns-clause-wished
returns-clause-wished c = wish-moves-none

pub returns-clause-taken : goal.returns-clause-taken
returns-clause-taken c = taken-moves-none

pub returns-clause-idle : goal.returns-clause-idle
returns-clause-idle c = idle-moves-none

pub returns-clause-alone : goal.returns-clause-alone
returns-clause-alone c = alone-moves-none

pub returns-clause-restarted : goal.returns-clause-restarted
returns-clause-restarted c = restart-moves-none

pub returns-clause-word : goal.returns-clause-word
returns-clause-word c = word-moves-none
