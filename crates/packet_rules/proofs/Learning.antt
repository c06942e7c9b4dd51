-- The test of a sender agrees with the relation that says which senders are learnt.
use Rattle.std.proofs.Common.{◌≡◌, ◌≢◌, ◌/◌, ◌-◌, ◌^◌, ◌%◌, Bool, true, false, ◌&&◌, IsTrue, ◌↔◌, replicate, slice_index, refl, sym, ap, ◌∙◌}
use Rattle.std.specs.Bool.{Decides}
use Rattle.std.proofs.lemmas.Bool.Decides.{Decides-eqb, Decides-not, same_from_decides}
use Rattle.std.proofs.lemmas.Slice.Eq.{bytes_eq-Decides}
use Rattle.arp.specs.declared.caches.Neighbour.{Neighbour}
use Rattle.arp.specs.declared.packets.ArpPacket.{ArpPacket}
use Rattle.arp.specs.Neighbours.{IsLearnable, Learner}
use Rattle.packet_rules.specs.declared.networks.Network.{Network}
use Rattle.packet_rules.specs.Networks.{lies_in}
use Rattle.packet_rules.specs.Arping.{is_learnable}

decides-and : {P Q : Type 0} (a b : Bool) → Decides a P → Decides b Q → Decides (a && b) (P × Q)
decides-and true b p q = (λ t. (p.0 refl, q.0 t), λ h. q.1 h.1)
decides-and false b p q = (λ t. cc, λ h. p.1 h.0)

-- the sender of a packet
abbrev sender : ArpPacket → Neighbour
sender p = record { address = p.sender_ip; mac = p.sender_mac }

-- an interface that learns, on this network
pub record IsInterface (i : Learner) (network : Network) : Type 0 where
  pub address : i.network ≡ network.interface.virtual_ip
  pub length : i.length ≡ network.interface.prefix_length
  pub primary : i.primary_ip ≡ network.own_ip
  pub virtual : i.virtual_ip ≡ network.interface.virtual_ip

abbrev Facts : Network → ArpPacket → Type 0
Facts network p =
    (p.sender_ip.0 / 2 ^ (32 - network.interface.prefix_length) ≡ network.interface.virtual_ip.0 / 2 ^ (32 - network.interface.prefix_length))
    × ((p.sender_ip.0 ≢ network.own_ip.0)
    × ((p.sender_ip.0 ≢ network.interface.virtual_ip.0)
    × ((p.sender_mac.0 ≢ replicate 6 0)
    × (slice_index p.sender_mac.0 0 % 2 ≡ 0))))

test-decides : (network : Network) (p : ArpPacket) → Decides (is_learnable network p) (Facts network p)
unfolding is_learnable lies_in
test-decides network p =
    decides-and _ _ (Decides-eqb _ _)
    (decides-and _ _ (Decides-not _ (Decides-eqb _ _))
    (decides-and _ _ (Decides-not _ (Decides-eqb _ _))
    (decides-and _ _ (Decides-not _ (bytes_eq-Decides _ _)) (Decides-eqb _ _))))

fact-of : (network : Network) (p : ArpPacket) (i : Learner) → IsInterface i network → IsLearnable i (sender p) → Facts network p
fact-of network p i is h = (
  rw (sym is.address, sym is.length) h.near,
  (
    λ e. h.not_primary (ap (λ n. record { 0 = n }) e ∙ sym is.primary),
    (
      λ e. h.not_virtual (ap (λ n. record { 0 = n }) e ∙ sym is.virtual),
      (h.not_zero, h.one_station),
    ),
  ),
)

learnable-of : (network : Network) (p : ArpPacket) (i : Learner) → IsInterface i network → Facts network p → IsLearnable i (sender p)
learnable-of network p i is f = record {
  near = rw (is.address, is.length) f.0;
  not_primary = λ e. f.1.0 (ap (λ x. x.0) (e ∙ is.primary));
  not_virtual = λ e. f.1.1.0 (ap (λ x. x.0) (e ∙ is.virtual));
  not_zero = f.1.1.1.0;
  one_station = f.1.1.1.1;
}

-- a test that holds exactly of the learnable senders is `is_learnable`
pub learnable-is : (b : Bool) (network : Network) (p : ArpPacket) (i : Learner) → IsInterface i network → (IsTrue b ↔ IsLearnable i (sender p)) → b ≡ is_learnable network p
learnable-is b network p i is h =
    same_from_decides b (is_learnable network p)
    (λ t. fact-of network p i is (h.0 t), λ f. h.1 (learnable-of network p i is f))
    (test-decides network p)
