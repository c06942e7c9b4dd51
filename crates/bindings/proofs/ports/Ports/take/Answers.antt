use Rattle.std.proofs.Common.{false, refl}
use Rattle.addresses.specs.declared.transport.Protocol.TheVariants.{Icmp, Tcp, Udp}
use Rattle.bindings.proofs.Owning.{range-set, icmp-rest, tcp-rest, udp-rest}
use Rattle.bindings.proofs.ports.Ports.take.Goals as goal

pub returns-in-Icmp-clause-free : goal.returns-in-Icmp-clause-free
returns-in-Icmp-clause-free c = range-set Icmp c.args.self.now _ c.args.key false c.in-Icmp.is c.take_in.ensures.free (icmp-rest c.args.self.now _ refl refl)

pub returns-in-Tcp-clause-free : goal.returns-in-Tcp-clause-free
returns-in-Tcp-clause-free c = range-set Tcp c.args.self.now _ c.args.key false c.in-Tcp.is c.take_in-in-Tcp.ensures.free (tcp-rest c.args.self.now _ refl refl)

pub returns-in-Udp-clause-free : goal.returns-in-Udp-clause-free
returns-in-Udp-clause-free c = range-set Udp c.args.self.now _ c.args.key false c.in-Udp.is c.take_in-in-Udp.ensures.free (udp-rest c.args.self.now _ refl refl)
