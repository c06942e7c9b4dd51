-- The two networks: who is addressed, where an address lies, which way a packet goes, and its next hop.
use Rattle.std.specs.Prelude.{◌≡◌, ◌≢◌, ◌<◌, ℕ, ◌+◌, ◌-◌, ◌/◌, ◌%◌, ◌^◌, Bool, true, false, not, ◌==◌, ◌&&◌, ◌||◌, Option, None, Some, Result, Ok, Err, List, [], ◌∷◌, length, if◌then◌else◌}
use Rattle.std.specs.Str.{bytes_eq}
use Rattle.addresses.specs.Address.{virtual_mac}
use Rattle.addresses.specs.Transport.{same_protocol}
use Rattle.addresses.specs.declared.transport.Protocol.{Protocol}
use Rattle.addresses.specs.declared.transport.Protocol.TheVariants.{Icmp}
use Rattle.addresses.specs.declared.internet.Ip.{Ip}
use Rattle.nat_types.specs.declared.gateways.GatewayId.{GatewayId}
use Rattle.nat_types.specs.Same.{other}
use Rattle.nat_types.specs.declared.gateways.Side.{Side}
use Rattle.nat_types.specs.declared.gateways.Side.TheVariants.{Inside, Outside}
use Rattle.settings.specs.declared.gateway_settings.GatewaySettings.{GatewaySettings}
use Rattle.settings.specs.declared.interfaces.InterfaceSettings.{InterfaceSettings}
use Rattle.settings.specs.declared.whole.Settings.{Settings}
use Rattle.settings.specs.Parts.{gateway_of}
use Rattle.packet_rules.specs.declared.reasons.Reason.{Reason}
use Rattle.packet_rules.specs.declared.reasons.Reason.TheVariants.{NoBinding}
use Rattle.packet_rules.specs.declared.networks.Network.{Network}
use Rattle.packet_rules.specs.declared.networks.Peer.{Peer}
use Rattle.packet_rules.specs.declared.networks.Networks.{Networks}
use Rattle.packet_rules.specs.declared.networks.Direction.{Direction}
use Rattle.packet_rules.specs.declared.networks.Direction.TheVariants.{Outward, Inward, Hairpin}

-- the side at which a packet leaves
abbrev pub exit_of : Direction → Side
exit_of Outward = Outside
exit_of Inward = Inside
exit_of Hairpin = Inside

-- the network on a side
abbrev pub network_of : Networks → Side → Network
network_of networks Inside = networks.inside
network_of networks Outside = networks.outside

-- what the other gateway's advertisements have where this is its address, if they alone count
abbrev pub peer_at : Settings → GatewaySettings → Ip → Option Peer
peer_at settings there ip =
    (if settings.vrrp.peer_only
    then Some (record { ip = ip; priority = there.priority; interval = there.interval })
    else None)

-- the two networks of one gateway, by the settings
abbrev pub networks_of : Settings → GatewayId → Networks
networks_of settings id = let there = gateway_of settings (other id) in record {
  inside = record {
    interface = settings.inside;
    own_mac = (gateway_of settings id).inside_mac;
    own_ip = (gateway_of settings id).inside_ip;
    outside_ip = settings.outside.virtual_ip;
    icmp = settings.icmp;
    peer = peer_at settings there there.inside_ip;
  };
  outside = record {
    interface = settings.outside;
    own_mac = (gateway_of settings id).outside_mac;
    own_ip = (gateway_of settings id).outside_ip;
    outside_ip = settings.outside.virtual_ip;
    icmp = settings.icmp;
    peer = peer_at settings there there.outside_ip;
  };
  router = settings.router;
  pass = settings.fragments.pass;
}

-- both own hardware addresses have six bytes
pub record IsWired (networks : Networks) : Type 0 where
  pub inside_mac : length networks.inside.own_mac.0 ≡ 6
  pub outside_mac : length networks.outside.own_mac.0 ≡ 6

abbrev pub broadcast_mac : List ℕ
broadcast_mac = 255 ∷ 255 ∷ 255 ∷ 255 ∷ 255 ∷ 255 ∷ []

-- where VRRP advertisements go (RFC 9568, section 7.2)
abbrev pub vrrp_mac : List ℕ
vrrp_mac = 1 ∷ 0 ∷ 94 ∷ 0 ∷ 0 ∷ 18 ∷ []

-- the destination is the virtual router's address
unfoldable pub is_virtual : Network → List ℕ → Bool
is_virtual network mac = bytes_eq mac (virtual_mac network.interface.virtual_router)

-- the destination is one that an interface takes: its own address, all, the VRRP routers, and
-- while it is Active the virtual router
unfoldable pub is_addressed : Network → Bool → List ℕ → Bool
is_addressed network active mac =
    bytes_eq mac network.own_mac.0
    || bytes_eq mac broadcast_mac
    || bytes_eq mac vrrp_mac
    || (active && is_virtual network mac)

-- an address lies in the network
unfoldable pub lies_in : ℕ → InterfaceSettings → Bool
lies_in address interface =
    let hosts = 2 ^ (32 - interface.prefix_length) in
    address / hosts == interface.virtual_ip.0 / hosts

-- a martian address: of this network (0/8), loopback (127/8), multicast (224/4) or reserved (240/4,
-- with the limited broadcast address); no host has it (RFC 1812, section 5.3.7)
unfoldable pub is_martian : ℕ → Bool
is_martian address = let first = address / 2 ^ 24 in
    (first == 0) || (first == 127) || (address / 2 ^ 28 == 14) || (address / 2 ^ 28 == 15)

-- 7. a packet to the outside virtual address goes back in by the pair of its port; a query has no way, since its
-- identifier names no inside host
unfoldable pub hairpin_direction : Protocol → Result Direction Reason
hairpin_direction protocol = (if same_protocol protocol Icmp then Err NoBinding else Ok Hairpin)

-- 7. the way of a packet from the inside
unfoldable pub inside_direction : Networks → Protocol → ℕ → ℕ → Result Direction Reason
inside_direction networks protocol source destination =
    (if not (lies_in source networks.inside.interface)
    || (source == networks.inside.interface.virtual_ip.0)
    || is_martian source then Err NoBinding
    else (if destination == networks.outside.interface.virtual_ip.0 then hairpin_direction protocol
    else (if lies_in destination networks.inside.interface
    || is_martian destination then Err NoBinding
    else Ok Outward)))

-- 8. the way of a packet from the outside
unfoldable pub outside_direction : Networks → ℕ → ℕ → Result Direction Reason
outside_direction networks source destination =
    (if not (destination == networks.outside.interface.virtual_ip.0) then Err NoBinding
    else (if lies_in source networks.inside.interface
    || (source == networks.outside.interface.virtual_ip.0)
    || is_martian source then Err NoBinding
    else Ok Inward))

-- the way of a packet
abbrev pub direction_of : Networks → Side → Protocol → ℕ → ℕ → Result Direction Reason
direction_of networks Inside protocol source destination =
    inside_direction networks protocol source destination
direction_of networks Outside protocol source destination =
    outside_direction networks source destination

-- the next hop of a packet that leaves: its destination where that lies in the outside network,
-- else the router
unfoldable pub outside_hop : Networks → ℕ → ℕ
outside_hop networks destination =
    (if lies_in destination networks.outside.interface then destination else networks.router.0)

-- the broadcast address of a network: it lies in it, and all bits of the host are set (RFC 919)
unfoldable pub is_broadcast : ℕ → InterfaceSettings → Bool
is_broadcast address interface =
    let hosts = 2 ^ (32 - interface.prefix_length) in
    lies_in address interface && (address % hosts + 1 == hosts)

-- a source to which the box may send something of its own, by its prefixes and virtual addresses
unfoldable pub may_come : Networks → Side → ℕ → Bool
may_come networks Inside source =
    lies_in source networks.inside.interface
    && not (source == networks.inside.interface.virtual_ip.0)
may_come networks Outside source =
    not (lies_in source networks.inside.interface)
    && not (source == networks.outside.interface.virtual_ip.0)

-- a source that may come in at the side, and is neither martian nor the broadcast address of the side's network
unfoldable pub may_answer : Networks → Side → ℕ → Bool
may_answer networks side source =
    may_come networks side source
    && (not (is_martian source) && not (is_broadcast source (network_of networks side).interface))

-- the next hop of what the box sends to a source: inside the source itself, outside as `outside_hop` has it
abbrev pub back_hop : Networks → Side → ℕ → ℕ
back_hop networks Inside source = source
back_hop networks Outside source = outside_hop networks source

-- the bytes of the longest packet that is sent at a side
abbrev pub mtu_of : Networks → Side → ℕ
mtu_of networks side = (network_of networks side).interface.mtu

-- The box's addresses are placed so that its own frames can be told from all others: both own addresses lie in
-- their networks and differ from the virtual ones, and no address lies in both networks; both sides know the outside
-- virtual address; and all four have 32 bits.
pub record IsPlaced (networks : Networks) : Type 0 where
  pub inside_own : lies_in networks.inside.own_ip.0 networks.inside.interface ≡ true
  pub outside_own : lies_in networks.outside.own_ip.0 networks.outside.interface ≡ true
  pub apart : (address : ℕ) → lies_in address networks.outside.interface ≡ true
      → lies_in address networks.inside.interface ≡ false
  pub inside_other : networks.inside.own_ip.0 ≢ networks.inside.interface.virtual_ip.0
  pub outside_other : networks.outside.own_ip.0 ≢ networks.outside.interface.virtual_ip.0
  pub inside_knows : networks.inside.outside_ip ≡ networks.outside.interface.virtual_ip
  pub outside_knows : networks.outside.outside_ip ≡ networks.outside.interface.virtual_ip
  pub inside_number : networks.inside.own_ip.0 < 2 ^ 32
  pub outside_number : networks.outside.own_ip.0 < 2 ^ 32
  pub inside_virtual : networks.inside.interface.virtual_ip.0 < 2 ^ 32
  pub outside_virtual : networks.outside.interface.virtual_ip.0 < 2 ^ 32
