use Rattle.std.proofs.Common.{◌≡◌, ℕ, List, ◌++◌, sym, ap, ◌∙◌}
use Rattle.ipv4.specs.Header.{header_of}
use Rattle.icmp.specs.Own.{exceeded_packet, too_long_packet}
use Rattle.packet_rules.specs.declared.networks.Network.{Network}
use Rattle.packet_rules.specs.declared.complaints.Complaint.{Complaint}
use Rattle.packet_rules.specs.declared.complaints.Complaint.TheVariants.{Exceeded, TooBig}
use Rattle.packet_rules.specs.Own.{complaint_packet}
use Rattle.packet_rules.proofs.complaints.append_complaint_about.Goals as goal

exceeded-is : (network : Network) (packet list : List ℕ) (to : ℕ) → to ≡ (header_of packet).source
    → list ++ exceeded_packet packet network.own_ip.0 to ≡ list ++ complaint_packet network Exceeded packet
unfolding complaint_packet
exceeded-is network packet list to is = ap (λ (n : ℕ). list ++ exceeded_packet packet network.own_ip.0 n) is

too-long-is : (network : Network) (mtu : ℕ) (packet list : List ℕ) (to : ℕ) → to ≡ (header_of packet).source
    → list ++ too_long_packet packet mtu network.own_ip.0 to ≡ list ++ complaint_packet network (TooBig mtu) packet
unfolding complaint_packet
too-long-is network mtu packet list to is = ap (λ (n : ℕ). list ++ too_long_packet packet mtu network.own_ip.0 n) is

pub returns-in-Exceeded-clause-items : goal.returns-in-Exceeded-clause-items
returns-in-Exceeded-clause-items c =
    let list = c.args.list.now.items in
    let network = c.args.network.now in
    let packet = c.args.packet.now.bytes.now in
    c.append_exceeded.ensures.items
    ∙ exceeded-is network packet list c.source-to.result.0 c.source-to.ensures
    ∙ ap (λ (x : Complaint). list ++ complaint_packet network x packet) (sym c.in-Exceeded.is)

pub returns-in-TooBig-clause-items : goal.returns-in-TooBig-clause-items
returns-in-TooBig-clause-items c =
    let list = c.args.list.now.items in
    let network = c.args.network.now in
    let packet = c.args.packet.now.bytes.now in
    c.append_too_long.ensures.items
    ∙ too-long-is network c.in-TooBig.mtu packet list c.source-to.result.0 c.source-to.ensures
    ∙ ap (λ (x : Complaint). list ++ complaint_packet network x packet) (sym c.in-TooBig.is)
