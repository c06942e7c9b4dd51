use Rattle.std.proofs.Common.{rules}
use Rattle.interfaces.proofs.stations.Interface.stop.Goals as goal

pub returns : goal.returns
returns c = λ now. let line = c.stop.ensures now in search rules
