-- Packets that carry an ICMP error, and what is read of them.
use Rattle.std.specs.Prelude.{◌≡◌, ◌==◌, not, Bool, List, [], ◌∷◌, ℕ, Option}
use Rattle.ipv4.specs.Flow.{size_of}
use Rattle.ipv4.specs.Header.{header_of, payload_of}
use Rattle.ipv4.specs.Order.{first_fault}
use Rattle.icmp.specs.declared.errors.TheConstants.{PROTOCOL}
use Rattle.icmp.specs.declared.faults.IcmpFault.{IcmpFault}
use Rattle.icmp.specs.declared.faults.IcmpFault.TheVariants.{NotError, BadError}
use Rattle.icmp.specs.declared.packets.ErrorFlow.{ErrorFlow}
use Rattle.icmp.specs.declared.packets.ErrorPacket.{ErrorPacket}
use Rattle.icmp.specs.Error.{IsError, inside_of, has_error_kind, has_no_error}
use Rattle.icmp.specs.Quoted.{may_be, quoted_flow}
use Rattle.icmp.specs.declared.kinds.Kind.{Kind}

-- an IPv4 packet carries an error
pub record IsErrorPacket (packet : List ℕ) : Type 0 where
  pub protocol : (header_of packet).protocol ≡ PROTOCOL
  pub error : IsError (payload_of packet)

-- why an IPv4 packet carries no error, None where it carries one
abbrev pub packet_refusal : List ℕ → Option IcmpFault
packet_refusal packet =
    first_fault (
    (not ((header_of packet).protocol == PROTOCOL), NotError)
    ∷ (not (has_error_kind (payload_of packet)), NotError)
    ∷ (has_no_error (payload_of packet), BadError)
    ∷ [])

-- from whom to whom an error goes, and the flow of the packet inside
abbrev pub error_flow : List ℕ → ErrorFlow
error_flow packet = record {
  source = record { 0 = (header_of packet).source };
  destination = record { 0 = (header_of packet).destination };
  inside = quoted_flow (inside_of (payload_of packet));
}

-- what the first reading of an error's packet finds out
abbrev pub error_packet_of : List ℕ → ErrorPacket
error_packet_of packet = record {
  flow = error_flow packet;
  size = size_of packet;
}

-- the packet inside an error is of another protocol than ICMP, or begins as a query of this kind
abbrev pub is_about : Kind → List ℕ → Bool
is_about kind packet = may_be kind (inside_of (payload_of packet))
