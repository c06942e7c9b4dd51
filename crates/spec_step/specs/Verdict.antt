-- The verdict on a packet: what a gateway is to do with it, as a function of the packet and the gateway.
use Rattle.std.specs.Prelude.{ℕ, Bool, true, false, not, ◌&&◌, ◌||◌, nat_le, Option, Some, None, Result, Ok, Err, List, if◌then◌else◌}
use Rattle.addresses.specs.declared.ethernet.Mac.{Mac}
use Rattle.addresses.specs.declared.internet.Ip.{Ip}
use Rattle.nat_types.specs.declared.gateways.Side.{Side}
use Rattle.nat_types.specs.declared.pairs.EntryState.{EntryState}
use Rattle.nat_types.specs.declared.pairs.EntryState.TheVariants.{Pending, Doomed, Live, Closing, Alone, Held}
use Rattle.nat_types.specs.declared.pairs.Pair.{Pair}
use Rattle.arp.specs.Neighbours.{mac_at}
use Rattle.ipv4.specs.declared.flows.Flow.{Flow}
use Rattle.ipv4.specs.declared.packets.Size.{Size}
use Rattle.bindings.specs.declared.entries.Entry.{Entry}
use Rattle.icmp.specs.declared.packets.ErrorFlow.{ErrorFlow}
use Rattle.bindings.specs.Entries.{entry_of, slot_of}
use Rattle.spec_binding.specs.declared.changes.Want as want
use Rattle.spec_binding.specs.declared.changes.Want.{Want}
use Rattle.spec_binding.specs.Rows.{is_full, new_pair, wish_of}
use Rattle.waiting.specs.declared.waits.WaitsFor as wait
use Rattle.waiting.specs.Packets.{has_place}
use Rattle.packet_rules.specs.declared.networks.Direction.{Direction}
use Rattle.packet_rules.specs.declared.networks.Direction.TheVariants as way
use Rattle.packet_rules.specs.declared.readings.Asked.{Asked as Echo}
use Rattle.packet_rules.specs.declared.readings.Reading.{Reading}
use Rattle.packet_rules.specs.declared.readings.Reading.TheVariants.{Arp, Advert, Packet, Error, Asked}
use Rattle.packet_rules.specs.declared.reasons.Reason.{Reason}
use Rattle.packet_rules.specs.declared.reasons.Reason.TheVariants.{NoBinding, NoPort, CannotWait, HostLimit, TooLong, TooMany}
use Rattle.packet_rules.specs.declared.translations.Translation.{Translation}
use Rattle.packet_rules.specs.declared.translations.Translation.TheVariants.{Outward, Inward, Hairpin}
use Rattle.packet_rules.specs.Errors.{endpoint_about, error_direction, key_about}
use Rattle.packet_rules.specs.Flows.{source_of, target_of}
use Rattle.packet_rules.specs.Frames.{hop_of, way_of}
use Rattle.packet_rules.specs.Networks.{back_hop, direction_of, exit_of, may_answer, mtu_of}
use Rattle.packet_rules.specs.Steps.{reading_of, and_then}
use Rattle.interfaces.specs.Stations.{is_active}
use Rattle.interfaces.specs.Tallies.{may_reply}
use Rattle.spec_step.specs.declared.events.Outcome.{Outcome}
use Rattle.spec_step.specs.declared.events.Outcome.TheVariants.{Sent, Waiting, Done, Dropped}
use Rattle.spec_step.specs.declared.plans.Plan.{Plan}
use Rattle.spec_step.specs.declared.plans.Plan.TheVariants.{Send, Ask, AskAgain, Wait}
use Rattle.spec_step.specs.declared.plans.Reply.{Reply}
use Rattle.spec_step.specs.declared.plans.Reply.TheVariants as reply
use Rattle.spec_step.specs.Shown.{Shown, is_apart, is_up, station_on}

-- the side at which a translated packet leaves
abbrev pub exit_by : Translation → Side
exit_by by = exit_of (way_of by)

-- the next hop of a packet or an error to this address
abbrev pub hop_to : Shown → Translation → Ip → Ip
hop_to g by to = record { 0 = hop_of g.networks by to.0 }

-- the hardware address of that next hop, if it is known
abbrev pub next_to : Shown → Translation → Ip → Option Mac
next_to g by to = mac_at (hop_to g by to).0 g.moment (station_on g (exit_by by)).neighbours

-- the next hop of a packet
abbrev pub hop_by : Shown → Translation → Flow → Ip
hop_by g by flow = hop_to g by flow.destination

-- the hardware address of a packet's next hop, if it is known
abbrev pub next_by : Shown → Translation → Flow → Option Mac
next_by g by flow = next_to g by flow.destination

-- the plan for a packet whose pairs are known: it is sent, or it waits for its next hop where no other packet does
abbrev pub plan_to : Shown → Translation → Ip → Option Mac → Result Plan Reason
plan_to g by hop (Some next) = Ok (Send by next)
plan_to g by hop None = (if has_place g.kept (wait.TheVariants.Hop (exit_by by) hop) then Ok (Ask by hop) else Ok (AskAgain by hop))

-- the plan for what goes to this address by its pairs
abbrev pub plan_via : Shown → Translation → Ip → Result Plan Reason
plan_via g by to = plan_to g by (hop_to g by to) (next_to g by to)

-- the plan for a packet by its pairs
abbrev pub plan_by : Shown → Flow → Translation → Result Plan Reason
plan_by g flow by = plan_via g by flow.destination

-- the plan for a packet that needs its endpoint's pair, by the answer to its wish: it is translated, waits for the
-- peer's answer, or is refused
abbrev pub plan_from : Shown → Flow → (Pair → Translation) → Want → Result Plan Reason
plan_from g flow by (want.TheVariants.Port port) = plan_by g flow (by (new_pair (source_of flow) port))
plan_from g flow by want.TheVariants.Wait =
    (if has_place g.kept (wait.TheVariants.Pair (source_of flow)) then Ok (Wait (source_of flow)) else Err CannotWait)
plan_from g flow by want.TheVariants.NoPort = Err NoPort
plan_from g flow by want.TheVariants.NotNow = Err CannotWait
plan_from g flow by want.TheVariants.HostLimit = Err HostLimit

-- the answer to the wish of the endpoint of a packet's source
abbrev pub look_for : Shown → Flow → Want
look_for g flow = (wish_of g.ledger.book (is_apart g) (is_full g.link) (source_of flow)).answer

-- the pair of an outside port's entry, where it translates: a marked one does. A Doomed entry has no pair, and a packet
-- can't wait for a pair that doesn't translate.
abbrev pub pair_in : EntryState → Pair → Result Pair Reason
pair_in (Pending true) p = Ok p
pair_in (Pending false) p = Err CannotWait
pair_in Doomed p = Err NoBinding
pair_in Live p = Ok p
pair_in (Closing true) p = Ok p
pair_in (Closing false) p = Err CannotWait
pair_in Alone p = Ok p
pair_in Held p = Ok p

-- the pair of an entry that was found, or the reason why there is none to translate with
abbrev pub pair_at : Option Entry → Result Pair Reason
pair_at None = Err NoBinding
pair_at (Some x) = pair_in x.state x.pair

-- the pair of the outside port to which a packet goes
abbrev pub target_pair : Shown → Flow → Result Pair Reason
target_pair g flow = pair_at (slot_of g.ledger.book.entries (target_of flow))

-- the plan for a packet by its way; for a hairpin the destination's port is looked at first
abbrev pub plan_on : Shown → Flow → Direction → Result Plan Reason
plan_on g flow way.Outward = plan_from g flow Outward (look_for g flow)
plan_on g flow way.Inward = and_then (target_pair g flow) (λ p. plan_by g flow (Inward p))
plan_on g flow way.Hairpin =
    and_then (target_pair g flow) (λ p. plan_from g flow (λ own. Hairpin own p) (look_for g flow))

-- whether a packet of this size may be sent at a side: it isn't longer than what is sent there, or it may be cut
abbrev pub fits_at : Shown → Side → Size → Bool
fits_at g exit size = nat_le size.length (mtu_of g.networks exit) || (g.networks.pass && not size.unbroken)

-- a plan to send or to wait becomes a drop where the packet is too long, before anything else is done for it; a packet
-- that is dropped anyway, because another waits for its next hop, is dropped for that
abbrev pub if_fits : Bool → Plan → Result Plan Reason
if_fits fits (Send by next) = (if fits then Ok (Send by next) else Err TooLong)
if_fits fits (Ask by hop) = (if fits then Ok (Ask by hop) else Err TooLong)
if_fits fits (AskAgain by hop) = Ok (AskAgain by hop)
if_fits fits (Wait endpoint) = (if fits then Ok (Wait endpoint) else Err TooLong)

-- the plan for a packet that came in on a side and has this size, or the reason of its drop
abbrev pub plan_of : Shown → Side → Flow → Size → Result Plan Reason
plan_of g side flow size =
    and_then (direction_of g.networks side flow.protocol flow.source.0 flow.destination.0)
    (λ way. and_then (plan_on g flow way) (if_fits (fits_at g (exit_of way) size)))

-- what a whole frame of a side is read as, or the reason why it isn't taken
abbrev pub reading_on : Shown → Side → List ℕ → Result Reading Reason
reading_on g side bytes =
    let s = station_on g side in reading_of side s.network (is_active s) (is_up g) bytes

-- ---- an ICMP error about a translated packet

-- The pair by which the packet inside an error went out, found by its source port. Where there is no pair, or a Doomed
-- one, the error is dropped as one without a pair; where the pair doesn't translate yet or any more, as one that can't
-- wait.
abbrev pub pair_out : Shown → ErrorFlow → Result Pair Reason
pair_out g flow = pair_at (slot_of g.ledger.book.entries (key_about flow))

-- the pair by which the packet inside an error came in, found by its destination
abbrev pub pair_in_of : Shown → ErrorFlow → Result Pair Reason
pair_in_of g flow = pair_at (entry_of g.ledger.book.entries (endpoint_about flow))

-- the next hop of an error
abbrev pub error_hop : Shown → Translation → ErrorFlow → Ip
error_hop g by flow = hop_to g by flow.destination

-- the plan for an error whose pairs are known: it is sent, or it waits for its next hop as a packet does
abbrev pub error_by : Shown → ErrorFlow → Translation → Result Plan Reason
error_by g flow by = plan_via g by flow.destination

-- the plan for an error by its way; for a hairpin the pair of the source port inside is looked at first. No port is
-- chosen for an error.
abbrev pub error_on : Shown → ErrorFlow → Direction → Result Plan Reason
error_on g flow way.Outward = and_then (pair_in_of g flow) (λ p. error_by g flow (Outward p))
error_on g flow way.Inward = and_then (pair_out g flow) (λ p. error_by g flow (Inward p))
error_on g flow way.Hairpin =
    and_then (pair_out g flow) (λ other. and_then (pair_in_of g flow) (λ own. error_by g flow (Hairpin own other)))

-- the plan for an error that came in on a side and has this size, or the reason of its drop
abbrev pub error_plan : Shown → Side → ErrorFlow → Size → Result Plan Reason
error_plan g side flow size =
    and_then (error_direction g.networks side flow)
    (λ way. and_then (error_on g flow way) (if_fits (fits_at g (exit_of way) size)))

-- ---- what a gateway says itself

-- the next hop of a frame of the gateway's own to a source at a side
abbrev pub hop_back : Shown → Side → Ip → Ip
hop_back g side source = record { 0 = back_hop g.networks side source.0 }

-- the hardware address of that next hop, if it is known
abbrev pub next_back : Shown → Side → Ip → Option Mac
next_back g side source = mac_at (hop_back g side source).0 g.moment (station_on g side).neighbours

-- the plan for an Echo: it is answered, or waits for the next hop of its answer where no other packet does
abbrev pub reply_via : Shown → Side → Ip → Option Mac → Result Reply Reason
reply_via g side hop (Some next) = Ok (reply.Send next)
reply_via g side hop None = (if has_place g.kept (wait.TheVariants.Hop side hop) then Ok (reply.Ask hop) else Ok (reply.AskAgain hop))

-- a plan to answer or to wait becomes a drop where the answer is too long for its side
abbrev pub if_reply_fits : Bool → Reply → Result Reply Reason
if_reply_fits fits (reply.Send next) = (if fits then Ok (reply.Send next) else Err TooLong)
if_reply_fits fits (reply.Ask hop) = (if fits then Ok (reply.Ask hop) else Err TooLong)
if_reply_fits fits (reply.AskAgain hop) = Ok (reply.AskAgain hop)

-- the plan for an Echo: its source may be answered, and not too many Echos were answered at that side in this second
abbrev pub reply_to : Shown → Side → Echo → Result Reply Reason
reply_to g side echo =
    if may_answer g.networks side echo.source.0
    then (if may_reply g.moment (station_on g side).said
    then and_then (reply_via g side (hop_back g side echo.source) (next_back g side echo.source)) (if_reply_fits (fits_at g side echo.size))
    else Err TooMany)
    else Err NoBinding

-- ---- the outcome of a frame

-- the outcome of a packet or an error, by its plan
abbrev pub outcome_by : Result Plan Reason → Outcome
outcome_by (Ok (Send by next)) = Sent
outcome_by (Ok (Ask by hop)) = Waiting
outcome_by (Ok (AskAgain by hop)) = Dropped CannotWait
outcome_by (Ok (Wait endpoint)) = Waiting
outcome_by (Err reason) = Dropped reason

-- the outcome of an Echo, by its plan
abbrev pub outcome_reply : Result Reply Reason → Outcome
outcome_reply (Ok (reply.Send next)) = Sent
outcome_reply (Ok (reply.Ask hop)) = Waiting
outcome_reply (Ok (reply.AskAgain hop)) = Dropped CannotWait
outcome_reply (Err reason) = Dropped reason

-- the outcome of a frame, by what it is read as
abbrev pub outcome_read : Shown → Side → Result Reading Reason → Outcome
outcome_read g side (Ok (Arp p)) = Done
outcome_read g side (Ok (Advert a from)) = Done
outcome_read g side (Ok (Packet packet)) = outcome_by (plan_of g side packet.flow packet.size)
outcome_read g side (Ok (Error packet)) = outcome_by (error_plan g side packet.flow packet.size)
outcome_read g side (Ok (Asked echo)) = outcome_reply (reply_to g side echo)
outcome_read g side (Err reason) = Dropped reason

-- the verdict on a whole frame: its outcome
abbrev pub verdict : Shown → Side → List ℕ → Outcome
verdict g side bytes = outcome_read g side (reading_on g side bytes)
