use Rattle.port_range.proofs.Listed.{kept-marks}
use Rattle.port_range.proofs.Range.recall.Goals as goal

pub returns : goal.returns
returns c = rw (← c.self.view_is) (kept-marks c.self.inside.lowest.0 c.self.inside.highest.0 c.self.inside.marks c.self.invariant)
