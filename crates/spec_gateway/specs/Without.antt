-- A gateway that passes fragments on beside one that doesn't.
use Rattle.std.specs.Prelude.{◌≡◌, ◌⊎◌, ◌≤◌, ℕ, Bool, true, false, Result, Ok, Err, List}
use Rattle.nat_types.specs.declared.gateways.Side.{Side}
use Rattle.nat_types.specs.declared.gateways.Side.TheVariants.{Inside, Outside}
use Rattle.frames.specs.Frame.{frame_of}
use Rattle.ipv4.specs.Header.{header_of, is_unbroken}
use Rattle.packet_rules.specs.declared.networks.Networks.{Networks}
use Rattle.packet_rules.specs.declared.readings.Reading.{Reading}
use Rattle.packet_rules.specs.declared.readings.Reading.TheVariants.{Arp, Advert, Packet, Error, Asked}
use Rattle.packet_rules.specs.declared.reasons.Reason.{Reason}
use Rattle.packet_rules.specs.Networks.{mtu_of}
use Rattle.spec_step.specs.Shown.{Shown}
use Rattle.spec_step.specs.Verdict.{reading_on}
use Rattle.spec_gateway.specs.Arrivals.{is_part}
use Rattle.spec_gateway.specs.State.{GatewayState}

-- the gateway with the setting `pass` off
abbrev pub without_pass : Shown → Shown
without_pass g = record g { networks = record g.networks { pass = false } }

abbrev pub without : GatewayState → GatewayState
without s = record s { shown = without_pass s.shown }

-- a frame is read as an ARP packet
abbrev pub is_arp : Result Reading Reason → Bool
is_arp (Ok (Arp p)) = true
is_arp (Ok (Advert a from)) = false
is_arp (Ok (Packet packet)) = false
is_arp (Ok (Error packet)) = false
is_arp (Ok (Asked echo)) = false
is_arp (Err reason) = false

-- the packet has at most as many bytes as are sent at each side
abbrev pub FitsBoth : Networks → List ℕ → Type 0
FitsBoth networks packet =
    ((header_of packet).total_length ≤ mtu_of networks Inside)
    × ((header_of packet).total_length ≤ mtu_of networks Outside)

-- A frame that comes in at a side is no fragment and no ARP packet, and its packet has Don't Fragment or fits both sides.
pub record IsUncut (g : Shown) (side : Side) (bytes : List ℕ) : Type 0 where
  pub part : is_part (reading_on g side bytes) ≡ false
  pub arp : is_arp (reading_on g side bytes) ≡ false
  pub fits : (is_unbroken (frame_of bytes).body ≡ true) ⊎ FitsBoth g.networks (frame_of bytes).body
