-- A neighbour is asked for behind a packet sent to it. And after a frame with an ARP packet that teaches its sender, the
-- sender's hardware address is that of the packet.
use Rattle.std.proofs.Common.{append_assoc, Result, ◌≡◌, ℕ, ◌-◌, Bool, true, false, cond, eqb, not, ◌&&◌, ◌||◌, nat_lt, Option, Some, None, Ok, List, [], ◌∷◌, ◌++◌, length, map, drop, refl, sym, ap, subst, ◌∙◌, arith}
use Rattle.std.specs.Borrow.{Bor}
use Rattle.std.proofs.lemmas.Bool.Decides.{nat_tests}
use Rattle.addresses.specs.declared.ethernet.Mac.{Mac}
use Rattle.std.proofs.lemmas.List.{append-nil}
use Rattle.addresses.specs.declared.internet.Ip.{Ip}
use Rattle.ipv4.specs.declared.flows.Flow.{Flow}
use Rattle.output.specs.Output.{Sent}
use Rattle.packet_rules.specs.declared.reasons.Reason.{Reason}
use Rattle.packet_rules.specs.declared.translations.Translation.{Translation}
use Rattle.packet_rules.specs.declared.translations.Translation.TheVariants.{Outward, Inward, Hairpin}
use Rattle.packet_rules.specs.Frames.{sent_frame}
use Rattle.spec_step.specs.declared.plans.Plan.{Plan}
use Rattle.spec_step.specs.declared.plans.Plan.TheVariants.{Send}
use Rattle.spec_step.proofs.Behind.{asked_behind}
use Rattle.nat_types.specs.declared.gateways.Side.{Side}
use Rattle.nat_types.specs.declared.gateways.Side.TheVariants.{Inside, Outside}
use Rattle.arp.specs.declared.caches.CacheEntry.{CacheEntry}
use Rattle.arp.specs.declared.packets.ArpPacket.{ArpPacket}
use Rattle.arp.specs.Neighbours.{Neighbours, after_one_left, all_sent, asks_at, entries_of, entries_taught, fixed_mac, has_entry, learnt_mac, mac_at, new_entry, or_else, renewed_entry, taught, with_newcomer, with_renewal, without, without_unsent}
use Rattle.waiting.specs.declared.waits.Ended.TheVariants.{One}
use Rattle.waiting.specs.declared.waits.WaitsFor.TheVariants as wait
use Rattle.packet_rules.specs.declared.readings.Reading.TheVariants.{Arp}
use Rattle.packet_rules.specs.Arping.{answer_to, is_learnable}
use Rattle.interfaces.specs.Stations.{Interface, after_arp, is_active, may_come_in, teaches, with_neighbour}
use Rattle.spec_step.specs.declared.events.Event.TheVariants.{Frame}
use Rattle.spec_step.specs.Parts.{answered_by, arp_heard, arp_taken, by_plan, by_verdict, carried_all, flags_in, flow_taken, framed, is_taught, link_answered, released, request_by, size_in, waits_for_sender, wanted_for}
use Rattle.spec_step.specs.Shown.{GatewayAndOutput, Shown, is_up, scene, station_on, with_station}
use Rattle.spec_step.specs.Steps.{FrameDoes, IsStepOn}
use Rattle.spec_step.specs.Truly.{IsSetUp, Known, known_of, near_on}
use Rattle.spec_step.specs.Verdict.{exit_by, hop_by, plan_of, reading_on}
use Rattle.spec_step.proofs.Passing.{IsSound}
use Rattle.spec_step.proofs.Saying.{Saying, released-says, saying-nothing}
use Rattle.spec_step.proofs.Sending.{Frames, near-mac}
use Rattle.spec_step.proofs.Truths.{after-net, after-said, after-wired, answered-says, station-speaks, wired-on}

-- ---- the entries

none-first : (a now : ℕ) (xs ys : List CacheEntry) → has_entry a xs ≡ false → learnt_mac a now (xs ++ ys) ≡ learnt_mac a now ys
none-first a now [] ys none = refl
none-first a now (x ∷ xs) ys none = at (eqb x.address.0 a) none (λ rest. none-first a now xs ys rest)
  where
    at : (b : Bool) → (b || has_entry a xs) ≡ false → (has_entry a xs ≡ false → learnt_mac a now (xs ++ ys) ≡ learnt_mac a now ys)
        → (let o : Option Mac = cond (b && nat_lt (now - x.at) 120000) (Some x.mac) (learnt_mac a now (xs ++ ys)) in o) ≡ learnt_mac a now ys
    at true none rest = absurd (cc)
    at false none rest = rest none

without-none : (a : ℕ) (es : List CacheEntry) → has_entry a (without a es) ≡ false
without-none a [] = refl
without-none a (e ∷ es) = at (eqb e.address.0 a) refl (without-none a es)
  where
    at : (b : Bool) → eqb e.address.0 a ≡ b → has_entry a (without a es) ≡ false → has_entry a (let ds : List CacheEntry = cond (not b) (e ∷ without a es) (without a es) in ds) ≡ false
    at true is rest = rest
    at false is rest = rw is rest

is-fresh : (now : ℕ) → nat_lt (now - now) 120000 ≡ true
is-fresh now = let none : now - now ≡ 0 = omega arith in rw none refl

renewed-mac : (a : ℕ) (mac : Mac) (now : ℕ) (es : List CacheEntry) → has_entry a es ≡ true → learnt_mac a now (map (renewed_entry mac now) (entries_of a es)) ≡ Some mac
renewed-mac a mac now [] has = absurd (cc)
renewed-mac a mac now (e ∷ es) has = at (eqb e.address.0 a) refl has (λ there. renewed-mac a mac now es there)
  where
    at : (b : Bool) → eqb e.address.0 a ≡ b → (b || has_entry a es) ≡ true → (has_entry a es ≡ true → learnt_mac a now (map (renewed_entry mac now) (entries_of a es)) ≡ Some mac)
        → learnt_mac a now (map (renewed_entry mac now) (let ds : List CacheEntry = cond b (e ∷ entries_of a es) (entries_of a es) in ds)) ≡ Some mac
    at true is has rest = rw (is, is-fresh now) refl
    at false is has rest = rest has

none-dropped : (a : ℕ) (es : List CacheEntry) → has_entry a es ≡ false → has_entry a (drop 1 es) ≡ false
none-dropped a [] none = none
none-dropped a (e ∷ es) none = at (eqb e.address.0 a) none
  where
    at : (b : Bool) → (b || has_entry a es) ≡ false → has_entry a es ≡ false
    at true none = absurd (cc)
    at false none = none

none-unsent : (a : ℕ) (es : List CacheEntry) → has_entry a es ≡ false → has_entry a (without_unsent es) ≡ false
none-unsent a [] none = none
none-unsent a (e ∷ es) none = at e.sent (eqb e.address.0 a) refl none (λ rest. none-unsent a es rest)
  where
    at : (b c : Bool) → eqb e.address.0 a ≡ c → (c || has_entry a es) ≡ false → (has_entry a es ≡ false → has_entry a (without_unsent es) ≡ false) → has_entry a (let ds : List CacheEntry = cond b (e ∷ without_unsent es) es in ds) ≡ false
    at b true is none rest = absurd (cc)
    at true false is none rest = rw is (rest none)
    at false false is none rest = none

none-room : (a : ℕ) (b c : Bool) (es : List CacheEntry) → has_entry a es ≡ false → has_entry a (let ds : List CacheEntry = cond b es (cond c (drop 1 es) (without_unsent es)) in ds) ≡ false
none-room a true c es none = none
none-room a false true es none = none-dropped a es none
none-room a false false es none = none-unsent a es none

newest-mac : (address : Ip) (mac : Mac) (now : ℕ) → learnt_mac address.0 now (new_entry address mac now ∷ []) ≡ Some mac
newest-mac address mac now = let itself : eqb address.0 address.0 ≡ true = grind (arith, nat_tests) in rw (itself, is-fresh now) refl

taught-found : (address : Ip) (mac : Mac) (for_us : Bool) (now : ℕ) (es : List CacheEntry) → (has_entry address.0 es || for_us) ≡ true → learnt_mac address.0 now (entries_taught address mac for_us now es) ≡ Some mac
taught-found address mac for_us now es teaches = at (has_entry address.0 es) for_us refl teaches
  where
    a : ℕ
    a = address.0

    at : (b c : Bool) → has_entry a es ≡ b → (b || c) ≡ true → learnt_mac a now (cond b (with_renewal a mac now es) (cond c (with_newcomer (new_entry address mac now) es) es)) ≡ Some mac
    at true c is teaches = none-first a now (without a es) (map (renewed_entry mac now) (entries_of a es)) (without-none a es) ∙ renewed-mac a mac now es is
    at false true is teaches =
        none-first a now (cond (nat_lt (length es) 1024) es (after_one_left es)) (new_entry address mac now ∷ []) (none-room a (nat_lt (length es) 1024) (all_sent es) es is)
        ∙ newest-mac address mac now
    at false false is teaches = absurd (cc)

taught-mac : (address : Ip) (mac : Mac) (for_us : Bool) (now : ℕ) (known : Neighbours) → fixed_mac address.0 known.fixed ≡ None → (has_entry address.0 known.learnt || for_us) ≡ true → mac_at address.0 now (taught address mac for_us now known) ≡ Some mac
taught-mac address mac for_us now known none teaches =
    ap (λ (o : Option Mac). or_else o (learnt_mac address.0 now (entries_taught address mac for_us now known.learnt))) none
    ∙ taught-found address mac for_us now known.learnt teaches

after-mac : (station : Interface) (p : ArpPacket) (waited : Bool) (now : ℕ) → fixed_mac p.sender_ip.0 station.neighbours.fixed ≡ None → teaches station p waited ≡ true → mac_at p.sender_ip.0 now (after_arp station p waited now).neighbours ≡ Some p.sender_mac
unfolding after_arp
after-mac station p waited now none teaches = at (is_learnable station.network p) teaches
  where
    at : (b : Bool) → (b && (has_entry p.sender_ip.0 station.neighbours.learnt || may_come_in station p waited)) ≡ true
        → mac_at p.sender_ip.0 now (let x : Interface = cond b (with_neighbour station p waited now) station in x.neighbours) ≡ Some p.sender_mac
    at true is = taught-mac p.sender_ip p.sender_mac (may_come_in station p waited) now station.neighbours none is
    at false is = absurd (cc)

-- ---- the step

-- what decides where packets go is the same from the hearing on
heard-known : Frames → (s : GatewayAndOutput) (side : Side) (p : ArpPacket) → length p.sender_mac.0 ≡ 6 → IsSound s.shown → IsSetUp s.shown → known_of (arp_taken s side p).shown ≡ known_of (arp_heard s.shown side p)
heard-known frames s side p six is w =
    let station = station_on s.shown side in
    let waited = waits_for_sender s.shown side p in
    let now = s.shown.moment in
    let after = after_arp station p waited now in
    let heard = scene (with_station s.shown side after) s.told in
    let o = answer_to station.network (is_active station) p in
    let one = station-speaks s side after (after-net station p waited now) (after-said station p waited now) (λ v. after-wired station p waited now six (wired-on s.shown v side)) is w in
    let two = answered-says frames heard side p o six one.sound one.wired in
    (at (is_taught s.shown side p) (answered_by heard side p o) two.0.sound two.0.wired).1 ∙ two.1
  where
    at : (b : Bool) (told : GatewayAndOutput) → Saying [] told (let x : GatewayAndOutput = cond b (released told (One (wait.Hop side p.sender_ip))) told in x)
    at true told = released-says frames told (One (wait.Hop side p.sender_ip))
    at false told = saying-nothing told []

heard-mac : (g : Shown) (side : Side) (p : ArpPacket) → fixed_mac p.sender_ip.0 (station_on g side).neighbours.fixed ≡ None → is_taught g side p ≡ true → mac_at p.sender_ip.0 (arp_heard g side p).moment (station_on (arp_heard g side p) side).neighbours ≡ Some p.sender_mac
heard-mac g Inside p none teaches = after-mac g.inside p (waits_for_sender g Inside p) g.moment none teaches
heard-mac g Outside p none teaches = after-mac g.outside p (waits_for_sender g Outside p) g.moment none teaches

pub owner-heals : Frames → (s : GatewayAndOutput) (side : Side) (bytes : Bor (List ℕ)) (s2 : GatewayAndOutput) (p : ArpPacket) → IsStepOn s (Frame side bytes) s2 → IsSound s.shown → IsSetUp s.shown → reading_on s.shown side bytes.now ≡ Ok (Arp p)
    → is_taught s.shown side p ≡ true → fixed_mac p.sender_ip.0 (station_on s.shown side).neighbours.fixed ≡ None → mac_at p.sender_ip.0 s2.shown.moment (station_on s2.shown side).neighbours ≡ Some p.sender_mac
owner-heals frames s side bytes s2 p step is w read teaches none =
    let at = station_on s.shown side in
    let six = frames.reads side at.network (is_active at) (is_up s.shown) bytes.now (Arp p) read in
    let heard = arp_heard s.shown side p in
    let does : step.done ≡ arp_taken s side p = subst (λ r. FrameDoes s side bytes.now r step.done) read step.does in
    let ends : known_of s2.shown ≡ known_of (arp_taken s side p).shown = ap (λ (x : GatewayAndOutput). known_of x.shown) (step.sends ∙ ap (λ (x : GatewayAndOutput). link_answered x) does) in
    let known = ends ∙ heard-known frames s side p six is w in
    sym (near-mac s2.shown side p.sender_ip.0)
    ∙ ap (λ (k : Known). mac_at p.sender_ip.0 k.moment (near_on k side)) known
    ∙ near-mac heard side p.sender_ip.0
    ∙ heard-mac s.shown side p none teaches

-- a packet of a sender that is learnt and has an entry teaches
both-true : (a b c : Bool) → a ≡ true → b ≡ true → (a && (b || c)) ≡ true
both-true true true c one two = refl
both-true true false c one two = absurd (cc)
both-true false b c one two = absurd (cc)

pub known-taught : (g : Shown) (side : Side) (p : ArpPacket) → is_learnable (station_on g side).network p ≡ true → has_entry p.sender_ip.0 (station_on g side).neighbours.learnt ≡ true → is_taught g side p ≡ true
known-taught g side p learnable known =
    both-true (is_learnable (station_on g side).network p) (has_entry p.sender_ip.0 (station_on g side).neighbours.learnt)
    (may_come_in (station_on g side) p (waits_for_sender g side p)) learnable known

-- ---- the request behind a packet

-- the request for a neighbour, where one is due
abbrev pub requests_if : Bool → Shown → Side → Ip → List Sent
requests_if asks g exit hop = cond asks (record { side = exit; bytes = request_by g exit hop } ∷ []) []

behind-frames : (s : GatewayAndOutput) (exit : Side) (hop : Ip) (asks : Bool) → (asked_behind s exit hop asks).told.frames ≡ s.told.frames ++ requests_if asks s.shown exit hop
behind-frames s exit hop true = refl
behind-frames s exit hop false = sym (append-nil s.told.frames)

-- whether a request for a packet's next hop is due
abbrev pub asks_for : Shown → Translation → Flow → Bool
asks_for g by flow = asks_at (hop_by g by flow).0 g.moment (station_on g (exit_by by)).neighbours

abbrev pub sent_by : GatewayAndOutput → List ℕ → Translation → Mac → Sent
sent_by s bytes by next = record { side = exit_by by; bytes = sent_frame s.shown.networks by next bytes }

-- the scene after a packet was sent, before its next hop is asked for
abbrev pub sent_scene : GatewayAndOutput → List ℕ → Flow → Translation → Mac → GatewayAndOutput
sent_scene s bytes flow by next =
    carried_all (framed (wanted_for s flow by) (exit_by by) (sent_frame s.shown.networks by next bytes)) flow (flags_in bytes) by

sent-frames : (s : GatewayAndOutput) (side : Side) (bytes : List ℕ) (flow : Flow) (by : Translation) (next : Mac)
    → (by_plan s side bytes flow (Send by next)).told.frames ≡ s.told.frames ++ sent_by s bytes by next ∷ requests_if (asks_for s.shown by flow) s.shown (exit_by by) (hop_by s.shown by flow)
sent-frames s side bytes flow (Outward p) next =
    let by = Outward p in let hop = hop_by s.shown by flow in let asks = asks_for s.shown by flow in
    behind-frames (sent_scene s bytes flow by next) Outside hop asks
    ∙ append_assoc s.told.frames (sent_by s bytes by next ∷ []) (requests_if asks s.shown Outside hop)
sent-frames s side bytes flow (Inward p) next =
    let by = Inward p in let hop = hop_by s.shown by flow in let asks = asks_for s.shown by flow in
    behind-frames (sent_scene s bytes flow by next) Inside hop asks
    ∙ append_assoc s.told.frames (sent_by s bytes by next ∷ []) (requests_if asks s.shown Inside hop)
sent-frames s side bytes flow (Hairpin own other) next =
    let by = Hairpin own other in let hop = hop_by s.shown by flow in let asks = asks_for s.shown by flow in
    behind-frames (sent_scene s bytes flow by next) Inside hop asks
    ∙ append_assoc s.told.frames (sent_by s bytes by next ∷ []) (requests_if asks s.shown Inside hop)

pub asked-at-once : (s : GatewayAndOutput) (side : Side) (bytes : List ℕ) (flow : Flow) (by : Translation) (next : Mac) → plan_of s.shown side flow (size_in bytes) ≡ Ok (Send by next)
    → (flow_taken s side bytes flow).told.frames ≡ s.told.frames ++ sent_by s bytes by next ∷ requests_if (asks_for s.shown by flow) s.shown (exit_by by) (hop_by s.shown by flow)
asked-at-once s side bytes flow by next plan =
    ap (λ (r : Result Plan Reason). (by_verdict s side bytes flow r).told.frames) plan ∙ sent-frames s side bytes flow by next
