-- The frame by which a router advertises.
use Rattle.std.specs.Prelude.{ℕ, List, [], ◌∷◌, ◌++◌}
use Rattle.byteorder.specs.Endian.{big_bytes}
use Rattle.sums.specs.Sum.{checksum_of}
use Rattle.addresses.specs.Address.{virtual_mac}
use Rattle.frames.specs.Frame.{header_bytes}
use Rattle.vrrp_packet.specs.declared.Advert.{Advert}
use Rattle.vrrp_packet.specs.Message.{advert_bytes}
use Rattle.packet_rules.specs.declared.networks.Network.{Network}
use Rattle.packet_rules.specs.Networks.{vrrp_mac}

-- what an interface's router advertises
abbrev pub own_advert : Network → ℕ → ℕ → Advert
own_advert network priority interval = record {
  router = network.interface.virtual_router;
  priority = priority;
  interval = interval;
  address = network.interface.virtual_ip;
}

-- the IPv4 header of an advertisement from an address, with this checksum: of 20 bytes before a
-- message of 12, TTL 255, protocol 112, to 224.0.0.18; type of service, identification and flags 0
abbrev pub advert_header : ℕ → ℕ → List ℕ
advert_header source checksum =
    (0x45 ∷ 0 ∷ 0 ∷ 32 ∷ 0 ∷ 0 ∷ 0 ∷ 0 ∷ 255 ∷ 112 ∷ [])
    ++ big_bytes 2 checksum ++ big_bytes 4 source ++ (224 ∷ 0 ∷ 0 ∷ 18 ∷ [])

-- the packet that carries an advertisement from an address
abbrev pub advert_packet : ℕ → Advert → List ℕ
advert_packet source advert =
    advert_header source (checksum_of (advert_header source 0)) ++ advert_bytes advert

-- the frame of an advertisement: from the virtual router to all (RFC 9568, sections 7.2 and 7.3)
abbrev pub advert_frame : Network → ℕ → ℕ → List ℕ
advert_frame network priority interval =
    header_bytes vrrp_mac (virtual_mac network.interface.virtual_router) 2048
    ++ advert_packet network.own_ip.0 (own_advert network priority interval)
