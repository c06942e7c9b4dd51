-- What a frame that comes in brings to be taken: itself, the whole frame that a fragment completes, or nothing.
use Rattle.std.specs.Prelude.{ℕ, Bool, true, false, ◌==◌, ◌&&◌, ◌||◌, nat_lt, Option, None, Some, Result, Err, List, length, if◌then◌else◌}
use Rattle.std.specs.Str.{bytes_eq}
use Rattle.frames.specs.Frame.{Frame, frame_of}
use Rattle.frames.specs.declared.ethernet.TheConstants.{LONGEST}
use Rattle.ipv4.specs.Header.{header_of}
use Rattle.nat_types.specs.declared.gateways.Side.{Side}
use Rattle.packet_rules.specs.declared.networks.Network.{Network}
use Rattle.packet_rules.specs.declared.readings.Reading.{Reading}
use Rattle.packet_rules.specs.declared.reasons.Reason.{Reason}
use Rattle.packet_rules.specs.declared.reasons.Reason.TheVariants.{Fragment, ShortFrame}
use Rattle.packet_rules.specs.Networks.{is_virtual}
use Rattle.fragments.specs.declared.gatherings.Came.{Came}
use Rattle.fragments.specs.declared.gatherings.Came.TheVariants.{Refused, Held, Whole}
use Rattle.fragments.specs.Gathered.{Gathered, Taking, after, of_side, taken, there_of}
use Rattle.spec_step.specs.declared.events.Outcome.{Outcome}
use Rattle.spec_step.specs.declared.events.Outcome.TheVariants.{Dropped, Waiting}
use Rattle.spec_step.specs.Shown.{Shown, station_on}
use Rattle.spec_step.specs.Verdict.{reading_on, verdict}
use Rattle.spec_gateway.specs.State.{GatewayState}

-- a frame is read as a fragment: it passes all that is asked before
abbrev pub is_part : Result Reading Reason → Bool
is_part (Err Fragment) = true
is_part reading = false

-- the protocols of packets that are translated: ICMP, TCP and UDP
abbrev pub is_translated_protocol : ℕ → Bool
is_translated_protocol protocol = (protocol == 1) || (protocol == 6) || (protocol == 17)

-- the whole of which a frame carries a part may pass: it goes to the virtual router and may be translated, or it may be an
-- Echo to the interface's own address (RFC 4787, section 11; RFC 1122, section 3.2.2.6)
unfoldable pub may_pass : Network → Frame → Bool
may_pass network frame =
    let header = header_of frame.body in
    (is_virtual network frame.dst && is_translated_protocol header.protocol)
    || (network.icmp.echo && bytes_eq frame.dst network.own_mac.0
    && (header.protocol == 1) && (header.destination == network.own_ip.0))

-- a fragment is gathered
abbrev pub is_gathered : Shown → Side → List ℕ → Bool
is_gathered g side bytes =
    g.networks.pass && may_pass (station_on g side).network (frame_of bytes)

-- what comes of a fragment that is gathered
abbrev pub gathering_of : GatewayState → Side → List ℕ → Taking
gathering_of s side bytes = taken s.shown.moment bytes (of_side side s.gathered)

-- the outcome of a fragment that makes nothing whole; the outcome of the whole is its verdict
abbrev pub outcome_part : Shown → Side → Came → Option (List ℕ) → Outcome
outcome_part g side Refused made = Dropped Fragment
outcome_part g side Held made = Waiting
outcome_part g side Whole None = Waiting
outcome_part g side Whole (Some bytes) = verdict g side bytes

-- what comes in: the frame that is taken, if one is; the outcome; and the fragments that are there then
pub record Arrival : Type 0 where
  pub frame : Option (List ℕ)
  pub outcome : Outcome
  pub gathered : Gathered

abbrev pub part_arrives : GatewayState → Side → Taking → Arrival
part_arrives s side taking = record {
  frame = taking.made;
  outcome = outcome_part s.shown side taking.came taking.made;
  gathered = there_of (after side taking s.gathered);
}

abbrev pub frame_arrives : GatewayState → Side → List ℕ → Arrival
frame_arrives s side bytes = record {
  frame = Some bytes;
  outcome = verdict s.shown side bytes;
  gathered = s.gathered;
}

abbrev pub nothing_arrives : GatewayState → Reason → Arrival
nothing_arrives s reason = record {
  frame = None;
  outcome = Dropped reason;
  gathered = s.gathered;
}

-- a fragment is gathered, or dropped
abbrev pub fragment_arrives : GatewayState → Side → List ℕ → Bool → Arrival
fragment_arrives s side bytes true = part_arrives s side (gathering_of s side bytes)
fragment_arrives s side bytes false = nothing_arrives s Fragment

-- A frame that comes in has at most 1,514 bytes. Any that is no fragment is taken as it came.
unfoldable pub arrival : GatewayState → Side → List ℕ → Arrival
arrival s side bytes =
    (if nat_lt LONGEST (length bytes) then nothing_arrives s ShortFrame
    else if is_part (reading_on s.shown side bytes)
    then fragment_arrives s side bytes (is_gathered s.shown side bytes)
    else frame_arrives s side bytes)
