use Rattle.std.proofs.Common.{◌∙◌}
use Rattle.activity.proofs.Packing.{idle_seen}
use Rattle.activity.proofs.Pasts.{idle-tcp}
use Rattle.activity.proofs.life.Activity.is_idle.Goals as goal

pub returns-in-Tcp-clause-idle : goal.returns-in-Tcp-clause-idle
returns-in-Tcp-clause-idle c =
    rw (c.in-Tcp.is, ← c.self.view_is, c.is_tcp_idle.ensures, c.centiseconds-last.ensures, c.from.ensures)
    (λ past agrees. idle_seen _ _ _ c.args.now ∙ idle-tcp past _ c.args.now agrees)

pub returns-in-Tcp-clause-exact : goal.returns-in-Tcp-clause-exact
returns-in-Tcp-clause-exact c =
    rw (c.in-Tcp.is, ← c.self.view_is, c.is_tcp_idle.ensures, c.centiseconds-last.ensures, c.from.ensures) (idle_seen _ _ _ c.args.now)
