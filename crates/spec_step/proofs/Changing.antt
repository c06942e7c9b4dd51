-- Which frames change a router: none but an advertisement on its side.
use Rattle.std.proofs.Common.{◌≡◌, ◌⊎◌, ℕ, Bool, true, false, cond, List, [], ◌∷◌, Option, Some, None, Result, Ok, Err, refl, ap, ◌∙◌}
use Rattle.addresses.specs.declared.ethernet.Mac.{Mac}
use Rattle.addresses.specs.declared.internet.Ip.{Ip}
use Rattle.addresses.specs.declared.transport.TcpFlags.{TcpFlags}
use Rattle.nat_types.specs.declared.gateways.GatewayId.{GatewayId}
use Rattle.nat_types.specs.declared.gateways.Side.{Side}
use Rattle.nat_types.specs.declared.gateways.Side.TheVariants.{Inside, Outside}
use Rattle.arp.specs.declared.packets.ArpPacket.{ArpPacket}
use Rattle.arp.specs.Neighbours.{asks_at}
use Rattle.settings.specs.declared.whole.Settings.{Settings}
use Rattle.icmp.specs.declared.packets.ErrorFlow.{ErrorFlow}
use Rattle.ipv4.specs.declared.flows.Flow.{Flow}
use Rattle.waiting.specs.declared.waits.Ended.{Ended}
use Rattle.waiting.specs.declared.waits.Ended.TheVariants.{One}
use Rattle.waiting.specs.declared.waits.WaitsFor.TheVariants as wait
use Rattle.waiting.specs.Packets.{HeldPacket, asks_again, ended_by, left_by, with_asked}
use Rattle.packet_rules.specs.declared.readings.Asked.{Asked as Echo}
use Rattle.packet_rules.specs.declared.readings.Reading.{Reading}
use Rattle.packet_rules.specs.declared.readings.Reading.TheVariants.{Arp, Advert, Packet, Error, Asked}
use Rattle.packet_rules.specs.declared.reasons.Reason.{Reason}
use Rattle.packet_rules.specs.declared.translations.Translation.{Translation}
use Rattle.packet_rules.specs.declared.translations.Translation.TheVariants.{Outward, Inward, Hairpin}
use Rattle.packet_rules.specs.Arping.{answer_to, is_learnable}
use Rattle.packet_rules.specs.Errors.{passed_frame}
use Rattle.packet_rules.specs.Frames.{sent_frame}
use Rattle.interfaces.specs.Stations.{Interface, after_arp, is_active, new_station, with_neighbour}
use Rattle.vrrp_states.specs.Table as table
use Rattle.vrrp_states.specs.Table.{Event as RouterEvent}
use Rattle.spec_step.specs.declared.events.Event.TheVariants.{Frame}
use Rattle.spec_step.specs.declared.plans.Plan.{Plan}
use Rattle.spec_step.specs.declared.plans.Plan.TheVariants.{Send, Ask, AskAgain, Wait as WaitFor}
use Rattle.spec_step.specs.Parts.{all_framed, all_taken, answered_by, arp_taken, asked_again, by_error_plan, by_error_verdict, by_plan, by_verdict, carried_all, echo_taken, error_taken, flags_in, flow_taken, frames_of, framed, is_taught, link_answered, refused, released, renewed_behind, request_by, retaken_by, size_in, taken_again, waits_for_sender, wanted_for}
use Rattle.spec_step.specs.Routers.{RouterActs}
use Rattle.spec_step.specs.Shown.{GatewayAndOutput, Shown, is_up, scene, station_on, with_station}
use Rattle.spec_step.specs.Steps.{FrameDoes, IsStepOn}
use Rattle.spec_step.specs.Verdict.{error_hop, error_plan, exit_by, hop_by, plan_of, reading_on}
use Rattle.spec_step.proofs.Own.{Said, echo-by, refusal-by, refused-by, said_scene}
use Rattle.spec_step.proofs.Behind.{asked_behind}
use Rattle.std.specs.Borrow.{Bor}
use Rattle.nat_types.specs.Same.{other}
use Rattle.settings.specs.declared.gateway_settings.GatewaySettings.{GatewaySettings}
use Rattle.settings.specs.Parts.{gateway_of}
use Rattle.packet_rules.specs.declared.networks.Network.{Network}
use Rattle.packet_rules.specs.declared.networks.Peer.{Peer}
use Rattle.packet_rules.specs.Networks.{peer_at}
use Rattle.packet_rules.specs.Steps.{reading_of}
use Rattle.vrrp_packet.specs.declared.Advert.{Advert as Message}
use Rattle.vrrp_states.specs.Table.{Router}
use Rattle.spec_step.specs.TakingOver.{IsAdvertFrom, router_on}

-- the routers are these
abbrev pub Routed : Router → Router → GatewayAndOutput → Type 0
Routed one two s = (s.shown.inside.router ≡ one) × (s.shown.outside.router ≡ two)

after-router : (station : Interface) (p : ArpPacket) (waited : Bool) (now : ℕ) → (after_arp station p waited now).router ≡ station.router
unfolding after_arp
after-router station p waited now = at (is_learnable station.network p)
  where
    at : (t : Bool) → (let x : Interface = cond t (with_neighbour station p waited now) station in x.router) ≡ station.router
    at true = refl
    at false = refl

module _ (one two : Router) where
  -- ---- one packet

  station-routed : (s : GatewayAndOutput) (side : Side) (station : Interface) → station.router ≡ (station_on s.shown side).router → Routed one two s → Routed one two (scene (with_station s.shown side station) s.told)
  station-routed s Inside station same is = (same ∙ is.0, is.1)
  station-routed s Outside station same is = (is.0, same ∙ is.1)

  wanted-routed : (s : GatewayAndOutput) (flow : Flow) (by : Translation) → Routed one two s → Routed one two (wanted_for s flow by)
  wanted-routed s flow (Outward p) is = is
  wanted-routed s flow (Inward p) is = is
  wanted-routed s flow (Hairpin own other) is = is

  carried-routed : (s : GatewayAndOutput) (flow : Flow) (flags : TcpFlags) (by : Translation) → Routed one two s → Routed one two (carried_all s flow flags by)
  carried-routed s flow flags (Outward p) is = is
  carried-routed s flow flags (Inward p) is = is
  carried-routed s flow flags (Hairpin own other) is = is

  renewed-routed : (s : GatewayAndOutput) (exit : Side) (hop : Ip) → Routed one two s → Routed one two (renewed_behind s exit hop)
  renewed-routed s exit hop is = at exit (asks_at hop.0 s.shown.moment (station_on s.shown exit).neighbours)
    where
      at : (side : Side) (t : Bool) → Routed one two (asked_behind s side hop t)
      at Inside true = is
      at Outside true = is
      at Inside false = is
      at Outside false = is

  again-routed : (s : GatewayAndOutput) (exit : Side) (hop : Ip) → Routed one two s → Routed one two (asked_again s exit hop)
  again-routed s exit hop is = at (asks_again s.shown.moment (wait.Hop exit hop) s.shown.kept)
    where
      at : (t : Bool) → Routed one two (let x : GatewayAndOutput = cond t (framed (scene (record s.shown { kept = with_asked s.shown.moment (wait.Hop exit hop) s.shown.kept }) s.told) exit (request_by s.shown exit hop)) s in x)
      at true = is
      at false = is

  said-routed : (s : GatewayAndOutput) (side : Side) → Routed one two s → Said (λ x. Routed one two x) s side
  said-routed s Inside is = λ frame tally hop. renewed-routed (said_scene s Inside frame tally) Inside hop is
  said-routed s Outside is = λ frame tally hop. renewed-routed (said_scene s Outside frame tally) Outside hop is

  refused-routed : (s : GatewayAndOutput) (side exit : Side) (bytes : List ℕ) (reason : Reason) → Routed one two s → Routed one two (refused s side exit bytes reason)
  refused-routed s side exit bytes reason is = refused-by (λ x. Routed one two x) s side exit bytes is (said-routed s side is) reason

  echo-routed : (s : GatewayAndOutput) (side : Side) (bytes : List ℕ) (echo : Echo) → Routed one two s → Routed one two (echo_taken s side bytes echo)
  echo-routed s side bytes echo is = echo-by (λ x. Routed one two x) s side bytes echo is (said-routed s side is) (λ hop place. is) (λ hop. again-routed s side hop is)

  plan-routed : (s : GatewayAndOutput) (side : Side) (bytes : List ℕ) (flow : Flow) (plan : Plan) → Routed one two s → Routed one two (by_plan s side bytes flow plan)
  plan-routed s side bytes flow (Send by next) is =
      let two = framed (wanted_for s flow by) (exit_by by) (sent_frame s.shown.networks by next bytes) in
      renewed-routed (carried_all two flow (flags_in bytes) by) (exit_by by) (hop_by s.shown by flow) (carried-routed two flow (flags_in bytes) by (wanted-routed s flow by is))
  plan-routed s side bytes flow (Ask by hop) is = wanted-routed s flow by is
  plan-routed s side bytes flow (AskAgain by hop) is = again-routed s (exit_by by) hop is
  plan-routed s side bytes flow (WaitFor e) is = is

  flow-routed : (s : GatewayAndOutput) (side : Side) (bytes : List ℕ) (flow : Flow) → Routed one two s → Routed one two (flow_taken s side bytes flow)
  flow-routed s side bytes flow is = at (plan_of s.shown side flow (size_in bytes))
    where
      at : (v : Result Plan Reason) → Routed one two (by_verdict s side bytes flow v)
      at (Ok plan) = plan-routed s side bytes flow plan is
      at (Err reason) = refusal-by (λ x. Routed one two x) s side bytes flow is is (said-routed s side is) reason

  error-plan-routed : (s : GatewayAndOutput) (side : Side) (bytes : List ℕ) (flow : ErrorFlow) (plan : Plan) → Routed one two s → Routed one two (by_error_plan s side bytes flow plan)
  error-plan-routed s side bytes flow (Send by next) is = renewed-routed (framed s (exit_by by) (passed_frame s.shown.networks by next bytes)) (exit_by by) (error_hop s.shown by flow) is
  error-plan-routed s side bytes flow (Ask by hop) is = is
  error-plan-routed s side bytes flow (AskAgain by hop) is = again-routed s (exit_by by) hop is
  error-plan-routed s side bytes flow (WaitFor e) is = is

  error-routed : (s : GatewayAndOutput) (side : Side) (bytes : List ℕ) (flow : ErrorFlow) → Routed one two s → Routed one two (error_taken s side bytes flow)
  error-routed s side bytes flow is = at (error_plan s.shown side flow (size_in bytes))
    where
      at : (v : Result Plan Reason) → Routed one two (by_error_verdict s side bytes flow v)
      at (Ok plan) = error-plan-routed s side bytes flow plan is
      at (Err reason) = is

  -- ---- the packets whose wait is over

  retaken-routed : (s : GatewayAndOutput) (side : Side) (bytes : List ℕ) (v : Result Reading Reason) → Routed one two s → Routed one two (retaken_by s side bytes v)
  retaken-routed s side bytes (Ok (Packet packet)) is = flow-routed s side bytes packet.flow is
  retaken-routed s side bytes (Ok (Error packet)) is = error-routed s side bytes packet.flow is
  retaken-routed s side bytes (Ok (Arp p)) is = is
  retaken-routed s side bytes (Ok (Advert a from)) is = is
  retaken-routed s side bytes (Ok (Asked echo)) is = echo-routed s side bytes echo is
  retaken-routed s side bytes (Err reason) is = refused-routed s side side bytes reason is

  all-routed : (s : GatewayAndOutput) (ws : List HeldPacket) → Routed one two s → Routed one two (all_taken s ws)
  all-routed s [] is = is
  all-routed s (w ∷ ws) is = all-routed (taken_again s w) ws (retaken-routed s w.side w.bytes (reading_on s.shown w.side w.bytes) is)

  released-routed : (s : GatewayAndOutput) (ended : Ended) → Routed one two s → Routed one two (released s ended)
  released-routed s ended is = all-routed (scene (record s.shown { kept = left_by ended s.shown.kept }) s.told) (ended_by ended s.shown.kept) is

  -- ---- interfaces and routers

  answered-routed : (s : GatewayAndOutput) (side : Side) (p : ArpPacket) (o : Option Mac) → Routed one two s → Routed one two (answered_by s side p o)
  answered-routed s side p (Some mac) is = is
  answered-routed s side p None is = is

  arp-routed : (s : GatewayAndOutput) (side : Side) (p : ArpPacket) → Routed one two s → Routed one two (arp_taken s side p)
  arp-routed s side p is =
      let station = station_on s.shown side in
      let after = after_arp station p (waits_for_sender s.shown side p) s.shown.moment in
      let heard = scene (with_station s.shown side after) s.told in
      let o = answer_to station.network (is_active station) p in
      at (is_taught s.shown side p) (answered_by heard side p o) (answered-routed heard side p o (station-routed s side after (after-router station p (waits_for_sender s.shown side p) s.shown.moment) is))
    where
      at : (t : Bool) (told : GatewayAndOutput) → Routed one two told → Routed one two (let x : GatewayAndOutput = cond t (released told (One (wait.Hop side p.sender_ip))) told in x)
      at true told is = released-routed told (One (wait.Hop side p.sender_ip)) is
      at false told is = is

-- the router on a side is this one
same-router : (s s2 : GatewayAndOutput) (side : Side) → Routed s.shown.inside.router s.shown.outside.router s2 → router_on s2.shown side ≡ router_on s.shown side
same-router s s2 Inside is = is.0
same-router s s2 Outside is = is.1

framed-shown : (s : GatewayAndOutput) (side : Side) (frames : List (List ℕ)) → (all_framed s side frames).shown ≡ s.shown
framed-shown s side [] = refl
framed-shown s side (frame ∷ frames) = framed-shown (framed s side frame) side frames

-- a router's step leaves the other side's router
other-router : (s : GatewayAndOutput) (at side : Side) (event : RouterEvent) (done : GatewayAndOutput) → RouterActs s at event done → (router_on done.shown side ≡ router_on s.shown side → ⊥) → at ≡ side
other-router s Inside Inside event done acts changes = refl
other-router s Outside Outside event done acts changes = refl
other-router s Inside Outside event done acts changes =
    absurd (changes (ap (λ (x : GatewayAndOutput). x.shown.outside.router) acts.is ∙ ap (λ (g : Shown). g.outside.router) (framed-shown (scene (with_station s.shown Inside acts.station) s.told) Inside (frames_of acts.station acts.action))))
other-router s Outside Inside event done acts changes =
    absurd (changes (ap (λ (x : GatewayAndOutput). x.shown.inside.router) acts.is ∙ ap (λ (g : Shown). g.inside.router) (framed-shown (scene (with_station s.shown Outside acts.station) s.told) Outside (frames_of acts.station acts.action))))

-- what is read as an advertisement where the peer's alone count, as the crate packet_rules proves it
abbrev pub FromPeer : Type 0
FromPeer = (side : Side) (network : Network) (active up : Bool) (frame : List ℕ) (advert : Message) (from : Ip) (peer : Peer) → network.peer ≡ Some peer → reading_of side network active up frame ≡ Ok (Advert advert from)
    → (from.0 ≡ peer.ip.0) × (advert.interval ≡ peer.interval) × ((advert.priority ≡ peer.priority) ⊎ (advert.priority ≡ 0))

module _ (law : FromPeer) (s : GatewayAndOutput) (side at : Side) (bytes : List ℕ) (s2 : GatewayAndOutput) (peer : Peer) (counts : (station_on s.shown side).network.peer ≡ Some peer) (changes : router_on s2.shown side ≡ router_on s.shown side → ⊥) where
  abbrev pub start : Router
  start = s.shown.inside.router

  abbrev pub end : Router
  end = s.shown.outside.router

  -- a part that leaves the routers doesn't change this one
  never : (done : GatewayAndOutput) → s2 ≡ link_answered done → (there : GatewayAndOutput) → done ≡ there → Routed start end there → ⊥
  never done sends there same routed = changes (ap (λ (x : GatewayAndOutput). router_on x.shown side) (sends ∙ ap (λ (x : GatewayAndOutput). link_answered x) same) ∙ same-router s (link_answered there) side routed)

  heard : (done : GatewayAndOutput) → s2 ≡ link_answered done → (a : Message) (from : Ip) → reading_on s.shown at bytes ≡ Ok (Advert a from) → at ≡ side → IsAdvertFrom peer (Ok (Advert a from))
  heard done sends a from read here =
      let station = station_on s.shown at in
      law at station.network (is_active station) (is_up s.shown) bytes a from peer (ap (λ (x : Side). (station_on s.shown x).network.peer) here ∙ counts) read

  by-reading : (done : GatewayAndOutput) → s2 ≡ link_answered done → (v : Result Reading Reason) → reading_on s.shown at bytes ≡ v → FrameDoes s at bytes v done → (at ≡ side) × IsAdvertFrom peer v
  by-reading done sends (Ok (Arp p)) read does = absurd (never done sends _ does (arp-routed start end s at p (refl, refl)))
  by-reading done sends (Ok (Advert a from)) read does =
      let here = other-router s at side (table.Heard a.priority a.interval from.0) done does (λ same. changes (ap (λ (x : GatewayAndOutput). router_on x.shown side) sends ∙ answered-router done side ∙ same)) in
      (here, heard done sends a from read here)
    where
      answered-router : (x : GatewayAndOutput) (at : Side) → router_on (link_answered x).shown at ≡ router_on x.shown at
      answered-router x Inside = refl
      answered-router x Outside = refl
  by-reading done sends (Ok (Packet packet)) read does = absurd (never done sends _ does (flow-routed start end s at bytes packet.flow (refl, refl)))
  by-reading done sends (Ok (Error packet)) read does = absurd (never done sends _ does (error-routed start end s at bytes packet.flow (refl, refl)))
  by-reading done sends (Ok (Asked echo)) read does = absurd (never done sends _ does (echo-routed start end s at bytes echo (refl, refl)))
  by-reading done sends (Err reason) read does = absurd (never done sends _ does (refused-routed start end s at at bytes reason (refl, refl)))

pub changed-by : FromPeer → (s : GatewayAndOutput) (side at : Side) (bytes : Bor (List ℕ)) (s2 : GatewayAndOutput) (peer : Peer) → IsStepOn s (Frame at bytes) s2 → (station_on s.shown side).network.peer ≡ Some peer
    → (router_on s2.shown side ≡ router_on s.shown side → ⊥) → (at ≡ side) × IsAdvertFrom peer (reading_on s.shown at bytes.now)
changed-by law s side at bytes s2 peer step counts changes =
    by-reading law s side at bytes.now s2 peer counts changes step.done step.sends (reading_on s.shown at bytes.now) refl step.does

-- ---- whose advertisements count, by the settings

inside-peer : (settings : Settings) (there : GatewaySettings) (ip : Ip) (b : Bool) → settings.vrrp.peer_only ≡ b → peer_at settings there ip ≡ cond b (Some (record { ip = ip; priority = there.priority; interval = there.interval })) None
inside-peer settings there ip b is = ap (λ (c : Bool). let o : Option Peer = cond c (Some (record { ip = ip; priority = there.priority; interval = there.interval })) None in o) is

pub peer-inside : (settings : Settings) (id : GatewayId) → settings.vrrp.peer_only ≡ true → (let there = gateway_of settings (other id) in (new_station settings id Inside).network.peer ≡ Some (record { ip = there.inside_ip; priority = there.priority; interval = there.interval }))
unfolding new_station
peer-inside settings id only = let there = gateway_of settings (other id) in inside-peer settings there there.inside_ip true only

pub peer-outside : (settings : Settings) (id : GatewayId) → settings.vrrp.peer_only ≡ true → (let there = gateway_of settings (other id) in (new_station settings id Outside).network.peer ≡ Some (record { ip = there.outside_ip; priority = there.priority; interval = there.interval }))
unfolding new_station
peer-outside settings id only = let there = gateway_of settings (other id) in inside-peer settings there there.outside_ip true only

pub peer-none : (settings : Settings) (id : GatewayId) (side : Side) → settings.vrrp.peer_only ≡ false → (new_station settings id side).network.peer ≡ None
unfolding new_station
peer-none settings id Inside any = let there = gateway_of settings (other id) in inside-peer settings there there.inside_ip false any
peer-none settings id Outside any = let there = gateway_of settings (other id) in inside-peer settings there there.outside_ip false any
