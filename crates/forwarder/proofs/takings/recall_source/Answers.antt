use Rattle.std.proofs.Common.{◌<◌, arith, sym, subst}
use Rattle.ipv4.specs.declared.packets.Packet.{Packet}
use Rattle.forwarder.proofs.Taking.{source-above}
use Rattle.forwarder.proofs.takings.recall_source.Goals as goal

pub returns : goal.returns
returns c =
    let above : 0 < c.args.packet.flow.source_port.0 = subst (λ (p : Packet). 0 < p.flow.source_port.0) (sym c.requires.read) (source-above c.args.bytes.now c.requires.forwardable) in
    record { address = omega arith; port = (above, omega arith) }
