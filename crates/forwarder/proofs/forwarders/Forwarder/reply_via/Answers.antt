use Rattle.std.proofs.Common.{◌≡◌, ℕ, None, ap, sym, ◌∙◌}
use Rattle.addresses.specs.declared.internet.Ip.{Ip}
use Rattle.arp.specs.Neighbours.{mac_at}
use Rattle.interfaces.specs.Stations.{Interface}
use Rattle.spec_step.specs.Shown.{station_on}
use Rattle.spec_step.specs.Verdict.{hop_back, next_back}
use Rattle.forwarder.specs.Forwarder.{shown_of}
use Rattle.forwarder.proofs.Planning.{reply-waits}
use Rattle.forwarder.proofs.forwarders.Forwarder.reply_via.Goals as goal

pub returns-then-has_place : goal.returns-then-has_place
returns-then-has_place c =
    let g = shown_of c.args.self.now in
    let hop : c.next_hop_back-hop.result ≡ hop_back g c.args.side c.args.source = ap (λ (n : ℕ). let i : Ip = record { 0 = n } in i) c.next_hop_back-hop.ensures in
    let next : next_back g c.args.side c.args.source ≡ None =
    sym (c.in-None.ensures.mac
    ∙ ap (λ (s : Interface). mac_at c.next_hop_back-hop.result.0 c.args.self.now.moment s.neighbours) c.station.ensures
    ∙ ap (λ (i : Ip). mac_at i.0 c.args.self.now.moment (station_on g c.args.side).neighbours) hop) in
    reply-waits g c.args.side c.args.source c.next_hop_back-hop.result _ hop next (sym c.has_place.ensures ∙ c.if-has_place.true)

pub returns-else-has_place : goal.returns-else-has_place
returns-else-has_place c =
    let g = shown_of c.args.self.now in
    let hop : c.next_hop_back-hop.result ≡ hop_back g c.args.side c.args.source = ap (λ (n : ℕ). let i : Ip = record { 0 = n } in i) c.next_hop_back-hop.ensures in
    let next : next_back g c.args.side c.args.source ≡ None =
    sym (c.in-None.ensures.mac
    ∙ ap (λ (s : Interface). mac_at c.next_hop_back-hop.result.0 c.args.self.now.moment s.neighbours) c.station.ensures
    ∙ ap (λ (i : Ip). mac_at i.0 c.args.self.now.moment (station_on g c.args.side).neighbours) hop) in
    reply-waits g c.args.side c.args.source c.next_hop_back-hop.result _ hop next (sym c.has_place.ensures ∙ c.if-has_place.false)
