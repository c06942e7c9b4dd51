-- Own answers: the own frames of a step are, one for one and in order, answers to Echos at hand and complaints of
-- packets at hand that are dropped, each to its packet's sender and at the side at which the packet came. A complaint
-- is an ICMP error of the gateway's own.
use Rattle.std.specs.Prelude.{◌≡◌, ℕ, Bool, true, Option, Some, None, Result, Ok, Err, List, [], ◌∷◌, ◌++◌, if◌then◌else◌}
use Rattle.std.specs.List.{AllByRecursion, filter}
use Rattle.addresses.specs.declared.ethernet.Mac.{Mac}
use Rattle.nat_types.specs.declared.gateways.Side.{Side}
use Rattle.nat_types.specs.declared.gateways.Side.TheVariants.{Outside}
use Rattle.arp.specs.Neighbours.{mac_at}
use Rattle.frames.specs.Frame.{frame_of}
use Rattle.packet_rules.specs.declared.complaints.Complaint.{Complaint}
use Rattle.packet_rules.specs.declared.networks.Networks.{Networks}
use Rattle.ipv4.specs.declared.flows.Flow.{Flow}
use Rattle.waiting.specs.Packets.{HeldPacket}
use Rattle.packet_rules.specs.declared.readings.Reading.{Reading}
use Rattle.packet_rules.specs.declared.readings.Reading.TheVariants.{Arp, Advert, Packet, Error, Asked}
use Rattle.packet_rules.specs.declared.reasons.Reason.{Reason}
use Rattle.packet_rules.specs.declared.reasons.Reason.TheVariants.{TooLong, TtlOver}
use Rattle.packet_rules.specs.Asked.{IsAskable, is_asked}
use Rattle.packet_rules.specs.Networks.{back_hop, direction_of, may_answer, network_of}
use Rattle.packet_rules.specs.Own.{HidesHosts, answer_frame, complaint_frame, complaint_of, exit_for}
use Rattle.interfaces.specs.declared.tallies.Tally.{Tally}
use Rattle.interfaces.specs.Stations.{same_side}
use Rattle.interfaces.specs.Tallies.{IsWithin, complained, may_complain, replied}
use Rattle.output.specs.Output.{Sent}
use Rattle.spec_step.specs.Machine.{AreBytes}
use Rattle.spec_step.specs.declared.plans.Plan.{Plan}
use Rattle.spec_step.specs.declared.plans.Reply.{Reply}
use Rattle.spec_step.specs.declared.plans.Reply.TheVariants as reply
use Rattle.spec_step.specs.Parts.{size_in, sender_in, taken_again}
use Rattle.spec_step.specs.Shown.{GatewayAndOutput, Shown, station_on}
use Rattle.spec_step.specs.Verdict.{next_back, plan_of, reading_on, reply_to}
use Rattle.spec_step.specs.Truly.{AtHand, Known, is_own, near_on}

-- the purpose of an own frame: it answers an Echo, or complains of a packet that is dropped for a reason and would have
-- left at a side
pub data Purpose : Type 0 where
  Answers : Purpose
  Complains : Reason → Side → Purpose

-- an own frame: its packet, its purpose, and the frame that was sent
pub record OwnFrame : Type 0 where
  pub packet : AtHand
  pub purpose : Purpose
  pub sent : Sent

-- The bytes are the answer to the packet, which is an Echo to the gateway, or the complaint of it.
abbrev pub IsSaid : Networks → AtHand → Purpose → Mac → List ℕ → Type 0
IsSaid networks packet Answers next bytes =
    IsAskable packet.bytes
    × (((active : Bool) × (is_asked (network_of networks packet.side) active (frame_of packet.bytes) ≡ true))
    × (bytes ≡ answer_frame (network_of networks packet.side) next packet.bytes))
IsSaid networks packet (Complains reason exit) next bytes =
    (complaint : Complaint) × ((complaint_of networks packet.side exit reason packet.bytes ≡ Some complaint)
    × (bytes ≡ complaint_frame (network_of networks packet.side) complaint next packet.bytes))

-- The own frame is sent to the sender of its packet, who may be answered, by the next hop, at the side at which the
-- packet came.
pub record IsOwnOf (k : Known) (o : OwnFrame) : Type 0 where
  pub bytes : AreBytes o.packet.bytes
  pub sender : may_answer k.networks o.packet.side (sender_in o.packet.bytes).0 ≡ true
  pub side : o.sent.side ≡ o.packet.side
  pub next : Mac
  pub hop : mac_at (back_hop k.networks o.packet.side (sender_in o.packet.bytes).0) k.moment (near_on k o.packet.side) ≡ Some next
  pub says : IsSaid k.networks o.packet o.purpose next o.sent.bytes

-- the frames that are the gateway's own
abbrev pub own_frames : Networks → List Sent → List Sent
own_frames networks frames = filter (is_own networks) frames

-- ---- exactly which

-- the frame with a packet's complaint, if any: none where the next hop isn't known, or too many complaints were sent at
-- that side in this second
abbrev pub saying_to : Shown → Side → List ℕ → Option Complaint → Option Mac → List Sent
saying_to g side bytes (Some complaint) (Some next) =
    let frame = complaint_frame (network_of g.networks side) complaint next bytes in
    if may_complain g.moment (station_on g side).said then record { side = side; bytes = frame } ∷ [] else []
saying_to g side bytes (Some complaint) None = []
saying_to g side bytes None next = []

-- the complaint of a packet that is dropped because its time to live is over or because it is too long
abbrev pub own_refused : Shown → Side → Side → List ℕ → Reason → List Sent
own_refused g side exit bytes TtlOver =
    saying_to g side bytes (complaint_of g.networks side exit TtlOver bytes) (next_back g side (sender_in bytes))
own_refused g side exit bytes TooLong =
    saying_to g side bytes (complaint_of g.networks side exit TooLong bytes) (next_back g side (sender_in bytes))
own_refused g side exit bytes reason = []

-- the answer to an Echo that is Sent, or the complaint of an Echo that is dropped
abbrev pub own_reply : Shown → Side → List ℕ → Result Reply Reason → List Sent
own_reply g side bytes (Ok (reply.Send next)) =
    record { side = side; bytes = answer_frame (network_of g.networks side) next bytes } ∷ []
own_reply g side bytes (Ok (reply.Ask hop)) = []
own_reply g side bytes (Ok (reply.AskAgain hop)) = []
own_reply g side bytes (Err reason) = own_refused g side side bytes reason

-- the complaint of a packet that is refused, or nothing
abbrev pub own_plan : Shown → Side → List ℕ → Flow → Result Plan Reason → List Sent
own_plan g side bytes flow (Ok plan) = []
own_plan g side bytes flow (Err reason) =
    let way = direction_of g.networks side flow.protocol flow.source.0 flow.destination.0 in
    own_refused g side (exit_for side way) bytes reason

-- the own frames of one taking of a packet, by what it is read as; an error has none, whether it is passed on, waits or
-- is too long
abbrev pub own_read : Shown → Side → List ℕ → Result Reading Reason → List Sent
own_read g side bytes (Ok (Arp p)) = []
own_read g side bytes (Ok (Advert a from)) = []
own_read g side bytes (Ok (Packet packet)) = own_plan g side bytes packet.flow (plan_of g side packet.flow (size_in bytes))
own_read g side bytes (Ok (Error packet)) = []
own_read g side bytes (Ok (Asked echo)) = own_reply g side bytes (reply_to g side echo)
own_read g side bytes (Err reason) = own_refused g side side bytes reason

-- the own frames of one taking of a packet
abbrev pub own_of : Shown → Side → List ℕ → List Sent
own_of g side bytes = own_read g side bytes (reading_on g side bytes)

-- the own frames of packets whose wait is over, taken one after another
abbrev pub all_own_of : GatewayAndOutput → List HeldPacket → List Sent
all_own_of s [] = []
all_own_of s (w ∷ ws) = own_of s.shown w.side w.bytes ++ all_own_of (taken_again s w) ws

-- From a scene to a later one: the gateway's own frames among those that were added are exactly these.
pub record SaysJust (old new : GatewayAndOutput) (own : List Sent) : Type 0 where
  pub frames : List Sent
  pub frames_are : new.told.frames ≡ old.told.frames ++ frames
  pub own_are : own_frames old.shown.networks frames ≡ own

-- ---- how much is said

-- the tally after an own frame of this purpose was sent at the time `now`
abbrev pub counted_for : Purpose → ℕ → Tally → Tally
counted_for Answers now tally = replied now tally
counted_for (Complains reason exit) now tally = complained now tally

-- the tally of a side after these own frames were sent, one by one, at the time `now`
abbrev pub tallied : ℕ → Side → List OwnFrame → Tally → Tally
tallied now side [] tally = tally
tallied now side (o ∷ own) tally =
    tallied now side own (if same_side o.packet.side side then counted_for o.purpose now tally else tally)

-- no more was sent at either side than may be in one second
abbrev pub AreWithin : Shown → Type 0
AreWithin g = IsWithin g.inside.said × IsWithin g.outside.said

-- ---- what is shown

-- no own frame among these that was sent at the outside has an address of the inside network
abbrev pub ShowsNothing : Networks → List Sent → Type 0
ShowsNothing networks frames =
    AllByRecursion (λ f. f.side ≡ Outside → HidesHosts networks f.bytes) (own_frames networks frames)
