use Rattle.std.proofs.Common.{refl}
use Rattle.timers.proofs.Fresh.{fresh_linked}
use Rattle.timers.proofs.wheel.Wheel.new.Goals as goal

pub returns-clause-linked : goal.returns-clause-linked
returns-clause-linked c = λ links room unset. fresh_linked _ links c.in_ok-heads.ensures.items refl refl room unset
