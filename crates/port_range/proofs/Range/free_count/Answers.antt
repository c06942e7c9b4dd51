use Rattle.port_range.proofs.Keeping.{open-ranged}
use Rattle.port_range.proofs.Range.free_count.Goals as goal

pub returns : goal.returns
returns c =
    let i = c.self.inside in
    rw (← c.self.view_is) (open-ranged i.lowest.0 i.highest.0 i.marks c.open_count.result c.self.invariant c.open_count.ensures)
