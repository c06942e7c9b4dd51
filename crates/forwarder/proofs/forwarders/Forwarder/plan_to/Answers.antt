use Rattle.std.proofs.Common.{◌≡◌, ℕ, None, ap, sym, ◌∙◌}
use Rattle.addresses.specs.declared.internet.Ip.{Ip}
use Rattle.nat_types.specs.declared.gateways.Side.{Side}
use Rattle.arp.specs.Neighbours.{mac_at}
use Rattle.waiting.specs.declared.waits.WaitsFor.TheVariants.{Hop}
use Rattle.waiting.specs.Packets.{has_place}
use Rattle.packet_rules.specs.Networks.{exit_of}
use Rattle.interfaces.specs.Stations.{Interface}
use Rattle.spec_step.specs.Shown.{station_on}
use Rattle.spec_step.specs.Verdict.{exit_by, hop_to, next_to}
use Rattle.forwarder.specs.Forwarder.{shown_of}
use Rattle.forwarder.proofs.Planning.{plan-waits}
use Rattle.forwarder.proofs.forwarders.Forwarder.plan_to.Goals as goal

pub returns-then-has_place : goal.returns-then-has_place
returns-then-has_place c =
    let g = shown_of c.args.self.now in
    let exit : c.exit-exit.result ≡ exit_by c.args.by = c.exit-exit.ensures ∙ ap exit_of c.direction.ensures in
    let hop : c.next_hop-hop.result ≡ hop_to g c.args.by c.args.to = ap (λ (n : ℕ). let i : Ip = record { 0 = n } in i) c.next_hop-hop.ensures in
    let next : next_to g c.args.by c.args.to ≡ None =
    sym (c.in-None.ensures.mac
    ∙ ap (λ (s : Interface). mac_at c.next_hop-hop.result.0 c.args.self.now.moment s.neighbours) (c.station.ensures ∙ ap (station_on g) exit)
    ∙ ap (λ (i : Ip). mac_at i.0 c.args.self.now.moment (station_on g (exit_by c.args.by)).neighbours) hop) in
    plan-waits g c.args.to c.args.by c.next_hop-hop.result _ hop next (ap (λ (s : Side). has_place c.args.self.now.kept (Hop s c.next_hop-hop.result)) (sym exit) ∙ sym c.has_place.ensures ∙ c.if-has_place.true)

pub returns-else-has_place : goal.returns-else-has_place
returns-else-has_place c =
    let g = shown_of c.args.self.now in
    let exit : c.exit-exit.result ≡ exit_by c.args.by = c.exit-exit.ensures ∙ ap exit_of c.direction.ensures in
    let hop : c.next_hop-hop.result ≡ hop_to g c.args.by c.args.to = ap (λ (n : ℕ). let i : Ip = record { 0 = n } in i) c.next_hop-hop.ensures in
    let next : next_to g c.args.by c.args.to ≡ None =
    sym (c.in-None.ensures.mac
    ∙ ap (λ (s : Interface). mac_at c.next_hop-hop.result.0 c.args.self.now.moment s.neighbours) (c.station.ensures ∙ ap (station_on g) exit)
    ∙ ap (λ (i : Ip). mac_at i.0 c.args.self.now.moment (station_on g (exit_by c.args.by)).neighbours) hop) in
    plan-waits g c.args.to c.args.by c.next_hop-hop.result _ hop next (ap (λ (s : Side). has_place c.args.self.now.kept (Hop s c.next_hop-hop.result)) (sym exit) ∙ sym c.has_place.ensures ∙ c.if-has_place.false)
