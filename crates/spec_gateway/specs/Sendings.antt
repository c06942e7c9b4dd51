-- Frames that are too long for the side at which they go out: their identification, and the fragments in which they are
-- sent (RFC 791, section 3.2; RFC 6864, section 5.3).
use Rattle.std.specs.Prelude.{ℕ, ◌+◌, ◌*◌, ◌%◌, Bool, not, ◌==◌, ◌&&◌, List, [], ◌∷◌, map, if◌then◌else◌}
use Rattle.std.specs.List.{flat_map}
use Rattle.frames.specs.Frame.{frame_of}
use Rattle.ipv4.specs.Header.{header_of}
use Rattle.nat_types.specs.declared.gateways.GatewayId.{GatewayId}
use Rattle.nat_types.specs.declared.gateways.GatewayId.TheVariants.{Zero, One}
use Rattle.fragments.specs.Cut.{identified, is_long, pieces}
use Rattle.output.specs.Output.{Sent}
use Rattle.packet_rules.specs.declared.networks.Networks.{Networks}
use Rattle.packet_rules.specs.Networks.{mtu_of}
use Rattle.packet_rules.specs.Own.{is_own_frame}

-- a frame is too long for the side at which it goes out
abbrev pub is_cut : Networks → Sent → Bool
is_cut networks f = is_long (mtu_of networks f.side) f.bytes

-- its source is the outside virtual address, which stands for many hosts; an own reply isn't meant, whose Echo lent it its
-- identification
unfoldable pub is_for_many : Networks → Sent → Bool
is_for_many networks f =
    ((header_of (frame_of f.bytes).body).source == networks.outside.interface.virtual_ip.0)
    && not (is_own_frame networks f.side f.bytes)

-- a frame that goes out in fragments with an identification of the gateway's
abbrev pub is_numbered : Networks → Sent → Bool
is_numbered networks f = is_cut networks f && is_for_many networks f

-- the identification of packet n of them, from 0: even ones are gateway 0's, odd ones gateway 1's
abbrev pub number_of : GatewayId → ℕ → ℕ
number_of Zero n = 2 * n % 65536
number_of One n = (2 * n + 1) % 65536

-- the number of the packet after packet n. After 32,768 packets the identifications are the same again
abbrev pub next_number : ℕ → ℕ
next_number n = (n + 1) % 32768

-- the frames with these identifications, the first of them that of packet n
abbrev pub numbered : Networks → GatewayId → ℕ → List Sent → List Sent
numbered networks id n [] = []
numbered networks id n (f ∷ frames) =
    (if is_numbered networks f
    then record f { bytes = identified (number_of id n) f.bytes } ∷ numbered networks id (next_number n) frames
    else f ∷ numbered networks id n frames)

-- the number of the next packet after these frames
abbrev pub number_after : Networks → ℕ → List Sent → ℕ
number_after networks n [] = n
number_after networks n (f ∷ frames) =
    (if is_numbered networks f then number_after networks (next_number n) frames
    else number_after networks n frames)

-- what goes out for a whole frame: itself, or its fragments where it is too long
abbrev pub pieces_of : Networks → Sent → List Sent
pieces_of networks f =
    map (λ bytes. record { side = f.side; bytes = bytes }) (pieces (mtu_of networks f.side) f.bytes)

-- what goes out for all of them, in order
abbrev pub all_pieces : Networks → List Sent → List Sent
all_pieces networks frames = flat_map (pieces_of networks) frames
