use Rattle.std.proofs.Common.{refl, ap, ◌∙◌, cond}
use Rattle.addresses.specs.declared.transport.Protocol.TheVariants.{Icmp, Tcp, Udp}
use Rattle.port_range.specs.Ports.{is_within}
use Rattle.nat_types.specs.Same.{same_key}
use Rattle.bindings.specs.Ports.{is_free_at}
use Rattle.bindings.proofs.Owning.{range-set, icmp-rest, tcp-rest, udp-rest}
use Rattle.bindings.proofs.ports.Ports.put_back.Goals as goal

pub returns-in-Icmp-clause-free : goal.returns-in-Icmp-clause-free
returns-in-Icmp-clause-free c =
    λ q. range-set Icmp c.args.self.now _ c.args.key _ c.in-Icmp.is c.put_back_in.ensures.free (icmp-rest c.args.self.now _ refl refl) q
    ∙ ap (λ b. cond (same_key c.args.key q) b (is_free_at c.args.self.now q))
    (ap (λ n. is_within n c.args.self.now.icmp.highest c.args.key.port.0) c.requires.icmp.low ∙ ap (λ n. is_within c.args.self.now.tcp.lowest n c.args.key.port.0) c.requires.icmp.high)

pub returns-in-Tcp-clause-free : goal.returns-in-Tcp-clause-free
returns-in-Tcp-clause-free c = range-set Tcp c.args.self.now _ c.args.key _ c.in-Tcp.is c.put_back_in-in-Tcp.ensures.free (tcp-rest c.args.self.now _ refl refl)

pub returns-in-Udp-clause-free : goal.returns-in-Udp-clause-free
returns-in-Udp-clause-free c =
    λ q. range-set Udp c.args.self.now _ c.args.key _ c.in-Udp.is c.put_back_in-in-Udp.ensures.free (udp-rest c.args.self.now _ refl refl) q
    ∙ ap (λ b. cond (same_key c.args.key q) b (is_free_at c.args.self.now q))
    (ap (λ n. is_within n c.args.self.now.udp.highest c.args.key.port.0) c.requires.udp.low ∙ ap (λ n. is_within c.args.self.now.tcp.lowest n c.args.key.port.0) c.requires.udp.high)
