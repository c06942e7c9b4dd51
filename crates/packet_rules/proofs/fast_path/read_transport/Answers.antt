use Rattle.std.proofs.Common.{◌≡◌, Option, Some, None, IfSome, Ok, refl}
use Rattle.ipv4.specs.declared.packets.Packet.{Packet}
use Rattle.packet_rules.specs.declared.readings.Reading.TheVariants.{Packet as PacketReading}
use Rattle.packet_rules.specs.Steps.{Carries}
use Rattle.packet_rules.proofs.fast_path.read_transport.Goals as goal

-- what holds of each packet of which something else holds
if-some : (o : Option Packet) (P K : Packet → Type 0) → IfSome o P → ((p : Packet) → P p → K p) → IfSome o K
if-some (Some p) P K is known = known p is
if-some None P K is known = tt

pub returns-clause-carries : goal.returns-clause-carries
returns-clause-carries c = if-some c.frame_in.result _ (λ p. Carries c.args.side c.args.bytes.now (PacketReading p)) c.frame_in.ensures (λ p is. c.readings_law.ensures.carries c.args.side c.args.network.now c.args.active c.args.up c.args.bytes.now (PacketReading p) is)
