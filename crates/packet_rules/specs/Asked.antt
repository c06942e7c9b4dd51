-- Which packets are Echos to the box itself (RFC 1122, section 3.2.2.6).
use Rattle.std.specs.Prelude.{◌≡◌, ◌≤◌, ℕ, ◌+◌, Bool, ◌==◌, ◌&&◌, ◌||◌, is_none, List, length}
use Rattle.std.specs.Str.{bytes_eq}
use Rattle.frames.specs.Frame.{Frame, frame_of}
use Rattle.frames.specs.declared.ethernet.TheConstants.{LONGEST_WHOLE}
use Rattle.ipv4.specs.Header.{IsIpv4, header_of, is_unbroken, payload_of}
use Rattle.icmp.specs.Ask.{IsAsk, ask_refusal}
use Rattle.icmp.specs.declared.errors.TheConstants.{PROTOCOL}
use Rattle.packet_rules.specs.declared.networks.Network.{Network}
use Rattle.packet_rules.specs.declared.readings.Asked.{Asked}
use Rattle.packet_rules.specs.Networks.{is_virtual}

-- A packet that asks an interface itself: to its own address by its own MAC; or, while it is Active, to its virtual
-- address or the outside one by the virtual router's MAC.
unfoldable pub is_to_box : Network → Bool → Frame → Bool
is_to_box network active frame =
    let destination = (header_of frame.body).destination in
    (bytes_eq frame.dst network.own_mac.0 && (destination == network.own_ip.0))
    || (active && (is_virtual network frame.dst
    && ((destination == network.interface.virtual_ip.0) || (destination == network.outside_ip.0))))

-- the message of a packet is a whole Echo with a right checksum
unfoldable pub is_echo : List ℕ → Bool
is_echo packet =
    ((header_of packet).protocol == PROTOCOL) && is_none (ask_refusal (payload_of packet))

-- an Echo to the box, where the box answers Echos
unfoldable pub is_asked : Network → Bool → Frame → Bool
is_asked network active frame =
    network.icmp.echo && (is_to_box network active frame && is_echo frame.body)

-- what is read of an Echo to the box: its Reply is as long as its message after a header without options, and may be cut
-- where the Echo may
abbrev pub asked_of : List ℕ → Asked
asked_of packet = record {
  source = record { 0 = (header_of packet).source };
  destination = record { 0 = (header_of packet).destination };
  size = record { length = 20 + length (payload_of packet); unbroken = is_unbroken packet };
}

-- what is known of a frame whose packet the box may complain of: the packet is whole, and no fragment
pub record IsWhole (bytes : List ℕ) : Type 0 where
  pub whole : 14 ≤ length bytes
  pub short : length bytes ≤ LONGEST_WHOLE
  pub ipv4 : IsIpv4 (frame_of bytes).body

-- what is known of a frame whose Echo is answered, and what its answer requires
pub record IsAskable (bytes : List ℕ) : Type 0 where
  pub frame : IsWhole bytes
  pub protocol : (header_of (frame_of bytes).body).protocol ≡ PROTOCOL
  pub ask : IsAsk (payload_of (frame_of bytes).body)
