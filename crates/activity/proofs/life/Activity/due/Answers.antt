use Rattle.std.proofs.Common.{ap}
use Rattle.activity.specs.Dues.{clipped}
use Rattle.activity.proofs.Packing.{due_seen}
use Rattle.activity.proofs.life.Activity.due.Goals as goal

pub returns-in-Tcp : goal.returns-in-Tcp
returns-in-Tcp c =
    rw (c.in-Tcp.is, ← c.self.view_is, c.tcp_due.ensures, c.centiseconds-last.ensures, c.from.ensures) (ap clipped (due_seen _ _ _))
