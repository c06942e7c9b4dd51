-- Which fragments are of one datagram (RFC 791, section 2.3).
use Rattle.std.specs.Prelude.{ℕ, Bool, ◌==◌, ◌&&◌, List}
use Rattle.std.specs.Str.{bytes_eq}
use Rattle.frames.specs.Frame.{frame_of}
use Rattle.ipv4.specs.Header.{header_of}
use Rattle.fragments.specs.Fragment.{ipv4_in}
use Rattle.fragments.specs.declared.names.Name.{Name}

-- what the fragments of a datagram have in common: identification, source, destination and protocol, and the Ethernet
-- address to which they came
unfoldable pub name_of : List ℕ → Name
name_of frame =
    let header = header_of (ipv4_in frame) in
    record {
      to = record { 0 = (frame_of frame).dst };
      source = record { 0 = header.source };
      destination = record { 0 = header.destination };
      protocol = header.protocol;
      identification = header.identification;
    }

unfoldable pub same_name : Name → Name → Bool
same_name a b =
    bytes_eq a.to.0 b.to.0 && (a.source.0 == b.source.0) && (a.destination.0 == b.destination.0)
    && (a.protocol == b.protocol) && (a.identification == b.identification)
