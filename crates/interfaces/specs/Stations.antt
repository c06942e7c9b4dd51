-- What callers see of an interface of a gateway, and how each event changes it.
use Rattle.std.specs.Prelude.{◌≡◌, ℕ, Bool, true, false, ◌&&◌, ◌||◌, List, [], map, length, None, if◌then◌else◌}
use Rattle.std.specs.List.{filter}
use Rattle.nat_types.specs.declared.gateways.GatewayId.{GatewayId}
use Rattle.nat_types.specs.declared.gateways.Side.{Side}
use Rattle.nat_types.specs.declared.gateways.Side.TheVariants.{Inside, Outside}
use Rattle.settings.specs.declared.interfaces.Neighbour.{Neighbour as Set}
use Rattle.settings.specs.declared.whole.Settings.{Settings}
use Rattle.settings.specs.Parts.{gateway_of}
use Rattle.arp.specs.declared.caches.Neighbour.{Neighbour}
use Rattle.arp.specs.declared.packets.ArpPacket.{ArpPacket}
use Rattle.arp.specs.Macs.{KnowsMacs}
use Rattle.arp.specs.Neighbours.{Neighbours, has_entry, taught}
use Rattle.vrrp_states.specs.declared.State.{State}
use Rattle.vrrp_states.specs.declared.State.TheVariants.{Initialize, Backup, Active}
use Rattle.vrrp_states.specs.declared.Action.{Action}
use Rattle.vrrp_states.specs.Table.{Router, Event, IsStep, new_router}
use Rattle.packet_rules.specs.declared.networks.Network.{Network}
use Rattle.packet_rules.specs.Arping.{is_for_us, is_learnable}
use Rattle.packet_rules.specs.Networks.{network_of, networks_of}
use Rattle.interfaces.specs.declared.cables.Cable.{Cable}
use Rattle.interfaces.specs.declared.cables.Cable.TheVariants.{In}
use Rattle.interfaces.specs.Cables.{plugged}
use Rattle.interfaces.specs.declared.tallies.Tally.{Tally}
use Rattle.interfaces.specs.Tallies.{complained, none_in, replied}

-- an interface: its network, its cable, the interval (cs) at which it advertises, its virtual router, the neighbours
-- that it knows, and the tally of the answers to Echos and of the ICMP errors that the gateway sent there
pub record Interface : Type 0 where
  pub network : Network
  pub cable : Cable
  pub interval : ℕ
  pub router : Router
  pub neighbours : Neighbours
  pub said : Tally

abbrev pub is_active_in : State → Bool
is_active_in Initialize = false
is_active_in Backup = false
is_active_in Active = true

-- an interface's router is Active
abbrev pub is_active : Interface → Bool
is_active station = is_active_in station.router.state

-- two sides are one
abbrev pub same_side : Side → Side → Bool
same_side Inside Inside = true
same_side Inside Outside = false
same_side Outside Inside = false
same_side Outside Outside = true

-- a static neighbour is on a side
abbrev pub is_on : Side → Set → Bool
is_on side n = same_side n.side side

-- a static neighbour as the cache has it
abbrev pub fixed_of : Set → Neighbour
fixed_of n = record { address = n.ip; mac = n.mac }

-- the static neighbours on a side, in their order
abbrev pub fixed_on : Side → List Set → List Neighbour
fixed_on side set = map fixed_of (filter (is_on side) set)

-- an interface before its first event
unfoldable pub new_station : Settings → GatewayId → Side → Interface
new_station settings id side =
    let own = gateway_of settings id in
    let network = network_of (networks_of settings id) side in
    record {
      network = network;
      cable = In None;
      interval = own.interval;
      router = new_router own.priority own.interval own.preempt network.own_ip.0;
      neighbours = record { fixed = fixed_on side settings.neighbours.items; learnt = [] };
      said = none_in 0;
    }

-- an interface's router takes a step, and all else stays
pub record IsRouterStep (old : Interface) (event : Event) (now : ℕ) (action : Action) (new : Interface)
    : Type 0 where
  pub line : IsStep old.router event now action new.router
  pub rest : new ≡ record old { router = new.router }

-- an interface's cable is reported in (true) or out, at a moment
abbrev pub with_plug : Interface → Bool → ℕ → Interface
with_plug station up now = record station { cable = plugged station.cable up now }

-- one more Echo was answered there at a moment, or one more error sent
abbrev pub with_reply : Interface → ℕ → Interface
with_reply station now = record station { said = replied now station.said }

abbrev pub with_complaint : Interface → ℕ → Interface
with_complaint station now = record station { said = complained now station.said }

-- an address that has no entry is learnt from an ARP packet that is for the interface, or whose sender is waited for: a
-- packet waits there for the sender as its next hop (RFC 826, "Packet Reception")
abbrev pub may_come_in : Interface → ArpPacket → Bool → Bool
may_come_in station p waited_for = is_for_us station.network p || waited_for

-- the sender of an ARP packet is learnt or renewed: it is one that is learnt, and its address has an entry or may come
-- in
abbrev pub teaches : Interface → ArpPacket → Bool → Bool
teaches station p waited_for =
    is_learnable station.network p
    && (has_entry p.sender_ip.0 station.neighbours.learnt || may_come_in station p waited_for)

-- the interface after an ARP packet of a sender that is learnt
abbrev pub with_neighbour : Interface → ArpPacket → Bool → ℕ → Interface
with_neighbour station p waited_for now = record station {
  neighbours =
      taught p.sender_ip p.sender_mac (may_come_in station p waited_for) now
      station.neighbours;
}

-- the interface after it heard an ARP packet
unfoldable pub after_arp : Interface → ArpPacket → Bool → ℕ → Interface
after_arp station p waited_for now =
    (if is_learnable station.network p then with_neighbour station p waited_for now else station)

-- all hardware addresses have six bytes
pub record IsWired (station : Interface) : Type 0 where
  pub own : length station.network.own_mac.0 ≡ 6
  pub known : KnowsMacs station.neighbours
