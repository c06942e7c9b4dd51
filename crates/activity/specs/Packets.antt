-- Tests on the packets that a pair carried.
use Rattle.std.specs.Prelude.{Bool, true, false, ◌&&◌, ◌||◌, ◌==◌, not}
use Rattle.addresses.specs.declared.transport.TcpFlags.{TcpFlags}
use Rattle.addresses.specs.declared.transport.Protocol.{Protocol}
use Rattle.addresses.specs.declared.transport.Protocol.TheVariants.{Icmp, Tcp, Udp}
use Rattle.activity.specs.declared.packets.Packet.{Packet}
use Rattle.activity.specs.declared.packets.Remote.{Remote}
use Rattle.activity.specs.declared.packets.Way.{Way}
use Rattle.activity.specs.declared.packets.Way.TheVariants.{Outward, Inward}

abbrev pub same_way : Way → Way → Bool
same_way Outward Outward = true
same_way Outward Inward = false
same_way Inward Outward = false
same_way Inward Inward = true

abbrev pub same_remote : Remote → Remote → Bool
same_remote a b = (a.address.0 == b.address.0) && (a.port.0 == b.port.0)

abbrev pub is_fin : TcpFlags → Bool
is_fin flags = flags.fin

-- no RST, and no SYN without ACK (RFC 5382, section 5: a handshake alone makes an established connection)
abbrev pub is_plain : TcpFlags → Bool
is_plain flags = not (flags.rst || (flags.syn && not flags.ack))

-- A segment begins a session where its remote has none: it goes outward, and it has no RST or is the first packet of
-- the pair's life. `carried` says whether the pair carried a packet before it in this life.
abbrev pub can_begin : Bool → Packet → Bool
can_begin carried p = same_way p.way Outward && not (p.flags.rst && carried)

-- a segment is loose: it begins no session, and its remote has none (`known`)
abbrev pub is_loose_by : Bool → Bool → Packet → Bool
is_loose_by known carried p = not (can_begin carried p) && not known

-- a packet is passive: a loose segment; of UDP and ICMP, which have no sessions, a packet inward
abbrev pub is_passive : Protocol → Bool → Packet → Bool
is_passive Icmp loose p = same_way p.way Inward
is_passive Tcp loose p = loose
is_passive Udp loose p = same_way p.way Inward

-- a packet sets the pair's last use (RFC 4787, REQ-6: what goes outward does, what comes inward may, by a setting)
abbrev pub sets_last : Protocol → Bool → Packet → Bool
sets_last protocol loose p = p.inward_refresh || not (is_passive protocol loose p)

-- A use counts: an idle pair has rested since then. Where what comes inward renews, a loose segment sets the last use,
-- but a pair with sessions is idle by these alone.
abbrev pub does_count : Protocol → Bool → Packet → Bool
does_count Icmp loose p = sets_last Icmp loose p
does_count Tcp loose p = not loose
does_count Udp loose p = sets_last Udp loose p
