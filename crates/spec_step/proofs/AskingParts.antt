-- Each part of a step that may ask for a next hop asks as it should: a packet taken, an error, and the packets whose
-- wait ended.
use Rattle.std.proofs.Common.{◌≡◌, ℕ, Bool, true, false, cond, not, inl, inr, Some, None, List, [], ◌∷◌, ◌++◌, Result, Ok, Err, refl, sym, ap, subst, ◌∙◌, append_assoc, map, IsPermutation, arith}
use Rattle.std.specs.List.{AllByRecursion}
use Rattle.std.proofs.lemmas.List.{append-nil}
use Rattle.std.proofs.lemmas.List.Sorted.{IsPermutation-refl}
use Rattle.addresses.specs.declared.internet.Ip.{Ip}
use Rattle.addresses.specs.declared.ethernet.Mac.{Mac}
use Rattle.nat_types.specs.declared.gateways.Side.{Side}
use Rattle.nat_types.specs.declared.gateways.Side.TheVariants.{Inside, Outside}
use Rattle.nat_types.specs.declared.notes.Note.{Note}
use Rattle.nat_types.specs.declared.pairs.Endpoint.{Endpoint}
use Rattle.nat_types.specs.declared.pairs.Pair.{Pair}
use Rattle.arp.specs.Neighbours.{asks_at, mac_at}
use Rattle.arp.proofs.Offered.{asks-sent}
use Rattle.ipv4.specs.declared.flows.Flow.{Flow}
use Rattle.ipv4.specs.declared.packets.Packet.{Packet as PacketRead}
use Rattle.bindings.specs.declared.entries.Entry.{Entry}
use Rattle.spec_binding.specs.Books.{Book, is_synced}
use Rattle.spec_binding.specs.Ledgers.{Ledger}
use Rattle.spec_binding.specs.Uses.{IsTranslated}
use Rattle.waiting.specs.declared.waits.Ended.{Ended}
use Rattle.waiting.specs.declared.waits.Ended.TheVariants.{AllPairs, One}
use Rattle.waiting.specs.declared.waits.WaitsFor.{WaitsFor}
use Rattle.waiting.specs.declared.waits.WaitsFor.TheVariants as wait
use Rattle.waiting.specs.Packets.{HeldPacket, asks_again, ended_by, left_by, with_asked, with_room}
use Rattle.waiting.specs.Waits.{ends, is_for_pair}
use Rattle.waiting.proofs.Offered.{all-asked, all-room}
use Rattle.packet_rules.specs.declared.complaints.Complaint.{Complaint}
use Rattle.packet_rules.specs.declared.networks.Network.{Network}
use Rattle.packet_rules.specs.declared.networks.Networks.{Networks}
use Rattle.packet_rules.specs.declared.readings.Asked.{Asked as Echo}
use Rattle.packet_rules.specs.declared.readings.Reading.{Reading}
use Rattle.packet_rules.specs.declared.readings.Reading.TheVariants.{Arp, Advert, Packet, Error, Asked}
use Rattle.packet_rules.specs.declared.reasons.Reason.{Reason}
use Rattle.packet_rules.specs.declared.translations.Translation.{Translation}
use Rattle.packet_rules.specs.declared.translations.Translation.TheVariants.{Outward, Inward, Hairpin}
use Rattle.packet_rules.specs.Arping.{request_frame}
use Rattle.packet_rules.specs.Flows.{flow_in, source_of, error_flow_in}
use Rattle.packet_rules.specs.Frames.{hop_of, sent_frame, way_of}
use Rattle.packet_rules.specs.Steps.{IsForwardable, IsOfSide, IsPassable}
use Rattle.packet_rules.specs.Networks.{back_hop, direction_of, may_answer, network_of}
use Rattle.packet_rules.specs.Own.{answer_frame as own_answer, complaint_frame, complaint_of, is_own_frame}
use Rattle.packet_rules.specs.Errors.{passed_frame, AreErrorPairs, error_direction}
use Rattle.interfaces.specs.declared.tallies.Tally.{Tally}
use Rattle.interfaces.specs.Stations.{is_active}
use Rattle.interfaces.specs.Tallies.{complained as tally_complained, replied}
use Rattle.output.specs.Output.{Sent}
use Rattle.spec_step.specs.declared.plans.Plan.{Plan}
use Rattle.spec_step.specs.declared.plans.Plan.TheVariants.{Send, Ask, AskAgain, Wait as WaitFor}
use Rattle.spec_step.specs.Others.{Asking, Cause, Drops, IsBack, IsDue, IsEcho, IsHost, IsNew, IsNextHop, IsUnknown, MayGoBy, Sends, Waits, all_noted, firsts, hops_of, other_frames, packets_asked, requests, targets, waiting_by, within_limit, is_other}
use Rattle.spec_step.specs.Machine.{AreBytes}
use Rattle.spec_step.specs.Parts.{all_taken, asked_again, by_plan, by_verdict, carried_all, flags_in, flow_taken, framed, released, renewed_behind, request_by, retaken_by, taken_again, waiting, wanted_by, wanted_for, by_error_plan, by_error_verdict, error_taken, echo_taken, keeping, size_in, refused, sender_in, neighbour_sent}
use Rattle.spec_step.specs.Shown.{GatewayAndOutput, Shown, is_up, scene, station_on}
use Rattle.spec_step.specs.Truly.{AreItsPairs, IsSetUp, AtHand, Known, known_of, near_on, packets_of}
use Rattle.spec_step.specs.Verdict.{exit_by, hop_by, plan_of, reading_on, target_pair, error_hop, error_plan, hop_back, next_back}
use Rattle.spec_step.proofs.Asked.{IsAsked, PlanSays, plan-says}
use Rattle.spec_step.proofs.Freeing.{comes-off, filter-all}
use Rattle.spec_step.proofs.FrameKinds.{error-no_other, own-no_other, sent-no_other}
use Rattle.spec_step.proofs.Limits.{asks-left, count-left, limit-more}
use Rattle.spec_step.proofs.Own.{complaint_scene, echo-leaves, exit_in, refusal-leaves, refused-leaves, said-beside, said_scene, told-answers}
use Rattle.spec_step.proofs.Packets.{kept-filter, kept-more}
use Rattle.spec_step.proofs.Rooting.{has-more}
use Rattle.spec_step.proofs.Saying.{reading-synced, addressed}
use Rattle.spec_step.proofs.Sending.{Frames, all_notes, answer-own, asked-is, asker, carried-leaves, complaint-own, near-mac, next-six, own-six, request-other}
use Rattle.spec_step.proofs.Sends.{AreFound, plan-sends}
use Rattle.spec_step.proofs.Telling.{at_hand}
use Rattle.spec_step.proofs.Translating.{target-translates}
use Rattle.spec_step.proofs.Erring.{ErrorSays, IsErrorAsked, IsErrorGoing, error-pairs, error-says, error-targets}
use Rattle.icmp.specs.declared.packets.ErrorFlow.{ErrorFlow}
use Rattle.icmp.specs.declared.packets.ErrorPacket.{ErrorPacket}
use Rattle.spec_step.proofs.Asking.{NetsStay, net-stays, NearStays, nobody, Asks, IsAsking, IsFit, Ask-on, requests-same, asking-then, asks-by, kept-here, SameStations, same-near, kept-bytes, IsQuiet, quiet-asks, nothing-quiet, nothing-asks, wanted-quiet, wanted-for-quiet, due-more}
use Rattle.spec_step.proofs.Behind.{asked_behind, known-sent, wired-sent}

-- after such a part a packet may be kept, and its next hop asked for
keeping-asks : (s one s2 : GatewayAndOutput) (side : Side) (bytes : List ℕ) (what : WaitsFor) (frames : List Sent) (askings : List Asking) → (q : IsQuiet s one)
    → s2.told.frames ≡ one.told.frames ++ frames → s2.told.notes ≡ one.told.notes → s2.shown.ledger.book.entries ≡ one.shown.ledger.book.entries
    → s2.shown.kept ≡ with_room what one.shown.kept ++ waiting side bytes one.shown.moment what ∷ [] → AllByRecursion (IsDue s.shown (known_of s.shown) (MayGoBy s.shown q.notes)) askings
    → other_frames s.shown.networks frames ≡ requests s.shown askings → IsNew (known_of s.shown) (MayGoBy s.shown q.notes) (waiting side bytes s.shown.moment what)
    → hops_of (waiting side bytes s.shown.moment what ∷ []) ≡ map (waiting_by s.shown.moment) (firsts askings) → ((ws : List HeldPacket) → all_noted s.shown.moment askings ws ≡ ws) → packets_asked askings ≡ []
    → known_of s2.shown ≡ known_of one.shown → SameStations one.shown s2.shown → (IsSetUp one.shown → IsSetUp s2.shown) → AreBytes bytes → Ask-on (at_hand side bytes ∷ []) nobody s s2
keeping-asks s one s2 side bytes what frames askings q frames_are notes entries kept due others new hops unnoted all_come known stations wired are = λ w.
    let now = s.shown.moment in
    let moment : one.shown.moment ≡ now = ap (λ (k : Known). k.moment) q.known in
    let packet = waiting side bytes now what in
    let hand = at_hand side bytes ∷ [] in
    let more = limit-more what s.shown.kept side bytes now w.1.0 in
    asks-by hand s s2 frames q.notes askings (packet ∷ []) []
    (frames_are ∙ ap (λ (fs : List Sent). fs ++ frames) q.frames) (notes ∙ q.notes_are) (λ p t. q.roots p (subst (λ (es : List Entry). IsTranslated es p) entries t))
    due others (new, tt) hops
    (kept
    ∙ ap (λ (n : ℕ). with_room what one.shown.kept ++ waiting side bytes n what ∷ []) moment
    ∙ ap (λ (ws : List HeldPacket). with_room what ws ++ packet ∷ []) q.kept
    ∙ more
    ∙ sym (unnoted (within_limit (s.shown.kept ++ packet ∷ []))))
    (subst (λ (ps : List AtHand). IsPermutation hand (hand ++ (ps ++ []))) (sym all_come) (IsPermutation-refl hand))
    (known ∙ q.known)
    (λ exit host t. same-near now s.shown one.shown q.stations exit host (same-near now one.shown s2.shown stations exit host t))
    (stations.0.0 ∙ q.stations.0.0, stations.0.1 ∙ q.stations.0.1)
    (wired (q.wired w.0))
    (subst (λ (ws : List HeldPacket). AllByRecursion (λ (x : HeldPacket). AreBytes x.bytes) ws) (sym kept)
    (kept-more _ _ (all-room (λ (x : HeldPacket). AreBytes x.bytes) what one.shown.kept (kept-bytes s.shown one.shown q.kept w.1.1)) are))

-- ---- one packet

-- the pairs that were found for a packet that waits are its own
its-pairs : (g : Shown) (flow : Flow) (by : Translation) → is_synced g.ledger.book.stage ≡ true → AreFound g flow by → AreItsPairs flow by
its-pairs g flow (Outward p) synced found = ap (λ (q : Pair). q.endpoint) found.1.1
its-pairs g flow (Inward p) synced found = (target-translates g flow p synced found).1
its-pairs g flow (Hairpin own other) synced found = (ap (λ (q : Pair). q.endpoint) found.0.1.1, (target-translates g flow other synced found.1).1)

-- what is known of a packet that was read
record IsRead (g : Shown) (side : Side) (bytes : List ℕ) (flow : Flow) : Type 0 where
  are : AreBytes bytes
  synced : is_synced g.ledger.book.stage ≡ true
  passes : IsForwardable bytes
  of_side : IsOfSide side bytes
  flow_is : flow ≡ flow_in bytes

target-there : (g : Shown) (flow : Flow) (p : Pair) (notes : List Note) → is_synced g.ledger.book.stage ≡ true → target_pair g flow ≡ Ok p → MayGoBy g notes p
target-there g flow p notes synced is =
    let t = (target-translates g flow p synced is).0 in
    inl (record { entry = t.entry; found = t.found; pair = t.pair; translates = t.live })

targets-there : (g : Shown) (flow : Flow) (by : Translation) (notes : List Note) → is_synced g.ledger.book.stage ≡ true → AreFound g flow by → AllByRecursion (MayGoBy g notes) (targets by)
targets-there g flow (Outward p) notes synced found = tt
targets-there g flow (Inward p) notes synced found = (target-there g flow p notes synced found, tt)
targets-there g flow (Hairpin own other) notes synced found = (target-there g flow other notes synced found.1, tt)

-- what the plan says of a packet's next hop
next-hop : (g : Shown) (side : Side) (bytes : List ℕ) (flow : Flow) (by : Translation) (hop : Ip) (notes : List Note) → IsRead g side bytes flow
    → direction_of g.networks side flow.protocol flow.source.0 flow.destination.0 ≡ Ok (way_of by) → AreFound g flow by → hop ≡ hop_by g by flow → IsNextHop (known_of g) (MayGoBy g notes) (at_hand side bytes) (exit_by by) hop
next-hop g side bytes flow by hop notes read way found hop_is = inl (
  by,
  record {
    goes = inl (record {
      passes = read.passes;
      way = subst (λ (f : Flow). direction_of g.networks side f.protocol f.source.0 f.destination.0 ≡ Ok (way_of by)) read.flow_is way;
      pairs = subst (λ (f : Flow). AreItsPairs f by) read.flow_is (its-pairs g flow by read.synced found);
    });
    target = targets-there g flow by notes read.synced found;
    exit_is = refl;
    hop = ap (λ (h : Ip). h.0) (hop_is ∙ ap (hop_by g by) read.flow_is);
  },
)

asked-by : (g : Shown) (side : Side) (bytes : List ℕ) (flow : Flow) (by : Translation) (hop : Ip) (notes : List Note) → IsRead g side bytes flow → IsAsked g side flow by hop
    → IsNextHop (known_of g) (MayGoBy g notes) (at_hand side bytes) (exit_by by) hop × IsUnknown (known_of g) (exit_by by) hop
asked-by g side bytes flow by hop notes read a = (
  next-hop g side bytes flow by hop notes read a.way a.pairs a.hop_is,
  ap (λ (h : Ip). mac_at h.0 g.moment (near_on (known_of g) (exit_by by))) a.hop_is ∙ near-mac g (exit_by by) (hop_by g by flow).0 ∙ a.unknown,
)

-- the request after a packet was sent on, for its next hop
abbrev asking_for : Side → List ℕ → Side → Ip → Cause → Asking
asking_for side bytes exit hop cause = record { packet = at_hand side bytes; exit = exit; host = hop; cause = cause }

one-other : (networks : Networks) (x : Sent) → is_other networks x.side x.bytes ≡ true → other_frames networks (x ∷ []) ≡ x ∷ []
one-other networks x is = rw is refl

behind-other : (networks : Networks) (x y : Sent) → is_other networks x.side x.bytes ≡ false → is_other networks y.side y.bytes ≡ true → other_frames networks (x ∷ y ∷ []) ≡ y ∷ []
behind-other networks x y is none = rw (is, none) refl

module _ (frames : Frames) (s two : GatewayAndOutput) (side : Side) (bytes : List ℕ) (exit : Side) (hop : Ip) (x : Sent) (notes : List Note) where
  abbrev IsSentFrom : Type 0
  IsSentFrom = (two.told.frames ≡ s.told.frames ++ x ∷ []) × ((is_other s.shown.networks x.side x.bytes ≡ false) × ((two.told.notes ≡ s.told.notes ++ notes)
      × (((p : Pair) → IsTranslated two.shown.ledger.book.entries p → MayGoBy s.shown notes p) × ((two.shown.kept ≡ s.shown.kept) × ((known_of two.shown ≡ known_of s.shown)
      × (SameStations s.shown two.shown × ((IsSetUp s.shown → IsSetUp two.shown) × IsHost (known_of s.shown) (MayGoBy s.shown notes) (at_hand side bytes) exit hop Sends)))))))

  renewed-asks : IsSentFrom → Ask-on (at_hand side bytes ∷ []) nobody s (renewed_behind two exit hop)
  renewed-asks (frames_are, (is, (notes_are, (roots, (kept, (known, (stations, (wired, next)))))))) = λ w. at w (asks_at hop.0 two.shown.moment (station_on two.shown exit).neighbours) refl
    where
      hand : List AtHand
      hand = at_hand side bytes ∷ []

      now : two.shown.moment ≡ s.shown.moment
      now = ap (λ (k : Known). k.moment) known

      ask : Asking
      ask = asking_for side bytes exit hop Sends

      near-here : (exit : Side) → asks_at hop.0 two.shown.moment (station_on two.shown exit).neighbours ≡ true → asks_at hop.0 s.shown.moment (station_on s.shown exit).neighbours ≡ true
      near-here exit t = same-near s.shown.moment s.shown two.shown stations exit hop.0 (subst (λ (n : ℕ). asks_at hop.0 n (station_on two.shown exit).neighbours ≡ true) now t)

      last : Shown
      last = neighbour_sent two.shown exit hop

      near-sent : (exit : Side) → NearStays two.shown.moment two.shown (neighbour_sent two.shown exit hop)
      near-sent Inside Inside host t = asks-sent host hop.0 two.shown.moment two.shown.inside.neighbours t
      near-sent Inside Outside host t = t
      near-sent Outside Inside host t = t
      near-sent Outside Outside host t = asks-sent host hop.0 two.shown.moment two.shown.outside.neighbours t

      near-last : NearStays s.shown.moment s.shown last
      near-last side host t = same-near s.shown.moment s.shown two.shown stations side host (subst (λ (n : ℕ). NearStays n two.shown last) now (near-sent exit) side host t)

      nets-sent : (exit : Side) → NetsStay two.shown (neighbour_sent two.shown exit hop)
      nets-sent Inside = (refl, refl)
      nets-sent Outside = (refl, refl)

      nets-last : NetsStay s.shown last
      nets-last = let n = nets-sent exit in (n.0 ∙ stations.0.0, n.1 ∙ stations.0.1)

      kept-sent : (exit : Side) → (neighbour_sent two.shown exit hop).kept ≡ two.shown.kept
      kept-sent Inside = refl
      kept-sent Outside = refl

      kept-last : last.kept ≡ s.shown.kept
      kept-last = kept-sent exit ∙ kept

      entries-sent : (exit : Side) → (neighbour_sent two.shown exit hop).ledger.book.entries ≡ two.shown.ledger.book.entries
      entries-sent Inside = refl
      entries-sent Outside = refl

      roots-last : (p : Pair) → IsTranslated last.ledger.book.entries p → MayGoBy s.shown notes p
      roots-last p t = roots p (subst (λ (es : List Entry). IsTranslated es p) (entries-sent exit) t)

      known-last : known_of last ≡ known_of s.shown
      known-last = known-sent two.shown exit hop ∙ known

      at : IsFit s.shown → (b : Bool) → asks_at hop.0 two.shown.moment (station_on two.shown exit).neighbours ≡ b → IsAsking hand nobody s (asked_behind two exit hop b)
      at w true asks =
          let y : Sent = record { side = exit; bytes = request_by two.shown exit hop } in
          let other = request-other frames s.shown.networks exit (station_on two.shown exit).network hop (own-six two.shown (wired w.0) exit) in
          let net = net-stays s.shown two.shown stations.0 exit in
          asks-by hand s (asked_behind two exit hop true) (x ∷ y ∷ []) notes (ask ∷ []) [] []
          (ap (λ (fs : List Sent). fs ++ y ∷ []) frames_are ∙ append_assoc s.told.frames (x ∷ []) (y ∷ [])) notes_are roots-last
          (record { hop = next; cause = near-here exit asks }, tt)
          (behind-other s.shown.networks x y is other ∙ ap (λ (n : Network). let z : Sent = record { side = exit; bytes = request_frame n hop } in z ∷ []) net)
          tt refl (kept-last ∙ kept-here s.shown.kept w.1.0) (IsPermutation-refl hand) known-last near-last nets-last (wired-sent two.shown exit hop (wired w.0)) (kept-bytes s.shown last kept-last w.1.1)
      at w false asks =
          asks-by hand s (asked_behind two exit hop false) (x ∷ []) notes [] [] hand frames_are notes_are roots-last tt (rw is refl)
          tt refl (kept-last ∙ kept-here s.shown.kept w.1.0) (IsPermutation-refl hand) known-last near-last nets-last (wired-sent two.shown exit hop (wired w.0)) (kept-bytes s.shown last kept-last w.1.1)

-- a packet is dropped, and its next hop may be asked for again
again-asks : Frames → (s : GatewayAndOutput) (side : Side) (bytes : List ℕ) (exit : Side) (hop : Ip)
    → IsNextHop (known_of s.shown) (MayGoBy s.shown []) (at_hand side bytes) exit hop × IsUnknown (known_of s.shown) exit hop
    → Ask-on (at_hand side bytes ∷ []) nobody s (asked_again s exit hop)
again-asks frames s side bytes exit hop says = λ w. at w (asks_again s.shown.moment (wait.Hop exit hop) s.shown.kept) refl
  where
    hand : List AtHand
    hand = at_hand side bytes ∷ []

    kept : List HeldPacket
    kept = with_asked s.shown.moment (wait.Hop exit hop) s.shown.kept

    roots : (p : Pair) → IsTranslated s.shown.ledger.book.entries p → MayGoBy s.shown [] p
    roots p t = inl t

    at : IsFit s.shown → (b : Bool) → asks_again s.shown.moment (wait.Hop exit hop) s.shown.kept ≡ b
        → IsAsking hand nobody s (let y : GatewayAndOutput = cond b (framed (scene (record s.shown { kept = kept }) s.told) exit (request_by s.shown exit hop)) s in y)
    at w true asks =
        let y : Sent = record { side = exit; bytes = request_by s.shown exit hop } in
        let other = request-other frames s.shown.networks exit (station_on s.shown exit).network hop (own-six s.shown w.0 exit) in
        let ask = asking_for side bytes exit hop Drops in
        asks-by hand s (framed (scene (record s.shown { kept = kept }) s.told) exit (request_by s.shown exit hop)) (y ∷ []) [] (ask ∷ []) [] []
        refl (sym (append-nil s.told.notes)) roots (record { hop = says.0; cause = (says.1, asks) }, tt) (one-other s.shown.networks y other) tt refl
        (ap (with_asked s.shown.moment (wait.Hop exit hop)) (kept-here s.shown.kept w.1.0)) (IsPermutation-refl hand) refl (λ t host a. sides t host a) (refl, refl) w.0
        (all-asked (λ (v : HeldPacket). AreBytes v.bytes) (λ v n is. is) s.shown.moment (wait.Hop exit hop) s.shown.kept w.1.1)
      where
        sides : NearStays s.shown.moment s.shown (record s.shown { kept = kept })
        sides Inside host t = t
        sides Outside host t = t
    at w false asks = nothing-asks hand s w

-- the scene after a packet was sent on and its pairs carried it
abbrev sent_scene : GatewayAndOutput → List ℕ → Flow → Translation → Mac → GatewayAndOutput
sent_scene s bytes flow by next = carried_all (framed (wanted_for s flow by) (exit_by by) (sent_frame s.shown.networks by next bytes)) flow (flags_in bytes) by

sent-stations : (s : GatewayAndOutput) (bytes : List ℕ) (flow : Flow) (by : Translation) (next : Mac) → SameStations s.shown (sent_scene s bytes flow by next).shown
sent-stations s bytes flow (Outward p) next = ((refl, refl), (refl, refl))
sent-stations s bytes flow (Inward p) next = ((refl, refl), (refl, refl))
sent-stations s bytes flow (Hairpin own other) next = ((refl, refl), (refl, refl))

plan-asks : Frames → (s : GatewayAndOutput) (side : Side) (bytes : List ℕ) (flow : Flow) (plan : Plan) → IsRead s.shown side bytes flow → plan_of s.shown side flow (size_in bytes) ≡ Ok plan → PlanSays s.shown side flow (Ok plan)
    → Ask-on (at_hand side bytes ∷ []) nobody s (by_plan s side bytes flow plan)
plan-asks frames s side bytes flow (Send by next) read plan says = λ w.
    let one = wanted_for s flow by in
    let q = wanted-for-quiet s flow by in
    let frame = sent_frame s.shown.networks by next bytes in
    let mid = framed one (exit_by by) frame in
    let two = sent_scene s bytes flow by next in
    let x : Sent = record { side = exit_by by; bytes = frame } in
    let c = carried-leaves mid flow (flags_in bytes) by in
    let carried = all_notes mid.shown c.first c.second by in
    let notes = q.notes ++ carried in
    let planned = plan-sends s.shown side flow (size_in bytes) by next plan in
    let way = subst (λ (f : Flow). direction_of s.shown.networks side f.protocol f.source.0 f.destination.0 ≡ Ok (way_of by)) read.flow_is planned.way in
    let six = next-six s.shown flow by next w.0 planned.next_is in
    let is = sent-no_other s.shown.networks (exit_by by) frame (frames.own.sent s.shown.networks side by next bytes w.0.0.0 w.0.0.1.placed six read.passes read.of_side read.are way)
    (frames.sent s.shown.networks side by next bytes w.0.0.0 six read.passes read.of_side way) in
    renewed-asks frames s two side bytes (exit_by by) (hop_by s.shown by flow) x notes (
      c.frames ∙ ap (λ (fs : List Sent). fs ++ x ∷ []) q.frames,
      (
        is,
        (
          c.notes ∙ ap (λ (ns : List Note). ns ++ carried) q.notes_are ∙ append_assoc s.told.notes q.notes carried,
          (
            λ p t. has-more s.shown q.notes carried p (q.roots p (subst (λ (b : Book). IsTranslated b.entries p) c.book t)),
            (
              c.kept ∙ q.kept,
              (
                c.known ∙ q.known,
                (sent-stations s bytes flow by next, (λ v. c.wired (q.wired v), inl (next-hop s.shown side bytes flow by (hop_by s.shown by flow) notes read planned.way planned.pairs refl))),
              ),
            ),
          ),
        ),
      ),
    ) w
plan-asks frames s side bytes flow (Ask by hop) read plan says = λ w.
    let one = wanted_for s flow by in
    let q = wanted-for-quiet s flow by in
    let exit = exit_by by in
    let x : Sent = record { side = exit; bytes = request_by s.shown exit hop } in
    let ask = asking_for side bytes exit hop Waits in
    let asked = asked-by s.shown side bytes flow by hop q.notes read says.0 in
    let new : IsNew (known_of s.shown) (MayGoBy s.shown q.notes) (waiting side bytes s.shown.moment (wait.Hop exit hop)) = record { since = refl; asked = refl; wait = asked } in
    keeping-asks s one (by_plan s side bytes flow (Ask by hop)) side bytes (wait.Hop exit hop) (x ∷ []) (ask ∷ []) q refl refl refl refl (record { hop = asked.0; cause = asked.1 }, tt)
    (one-other s.shown.networks x (request-other frames s.shown.networks exit (station_on s.shown exit).network hop (own-six s.shown w.0 exit))) new refl (λ ws. refl) refl refl ((refl, refl), (refl, refl)) (λ v. v) read.are w
plan-asks frames s side bytes flow (AskAgain by hop) read plan says = again-asks frames s side bytes (exit_by by) hop (asked-by s.shown side bytes flow by hop [] read says)
plan-asks frames s side bytes flow (WaitFor e) read plan says =
    let one = wanted_by s e in
    let q = wanted-quiet s e in
    let new : IsNew (known_of s.shown) (MayGoBy s.shown q.notes) (waiting side bytes s.shown.moment (wait.Pair e)) = record { since = refl; asked = refl; wait = says.0 ∙ ap source_of read.flow_is } in
    keeping-asks s one (by_plan s side bytes flow (WaitFor e)) side bytes (wait.Pair e) [] [] q (sym (append-nil one.told.frames)) refl refl refl tt refl new refl (λ ws. refl) refl refl ((refl, refl), (refl, refl)) (λ v. v) read.are

-- ---- what the gateway says itself

-- the next hop of a frame of the gateway's own is that of the packet's source
own-asks : Frames → (s : GatewayAndOutput) (side : Side) (bytes frame : List ℕ) (tally : Tally) (hop : Ip) → (IsSetUp s.shown → is_own_frame s.shown.networks side frame ≡ true)
    → (IsSetUp s.shown → IsHost (known_of s.shown) (MayGoBy s.shown []) (at_hand side bytes) side hop Sends)
    → Ask-on (at_hand side bytes ∷ []) nobody s (renewed_behind (said_scene s side frame tally) side hop)
own-asks frames s side bytes frame tally hop own host = λ w.
    let two = said_scene s side frame tally in
    let beside = said-beside s side frame tally in
    let x : Sent = record { side = side; bytes = frame } in
    renewed-asks frames s two side bytes side hop x [] (
      refl,
      (
        own-no_other s.shown.networks side frame (own w.0),
        (
          sym (append-nil s.told.notes),
          (
            λ p t. inl (subst (λ (l : Ledger). IsTranslated l.book.entries p) beside.ledger t),
            (beside.kept, (beside.known, ((beside.nets, beside.near), (beside.set_up, host w.0)))),
          ),
        ),
      ),
    ) w

complaint-asks : Frames → (s : GatewayAndOutput) (side exit : Side) (bytes : List ℕ) (reason : Reason) (complaint : Complaint) (next : Mac) → AreBytes bytes → complaint_of s.shown.networks side exit reason bytes ≡ Some complaint
    → next_back s.shown side (sender_in bytes) ≡ Some next → Ask-on (at_hand side bytes ∷ []) nobody s (renewed_behind (complaint_scene s side bytes complaint next) side (hop_back s.shown side (sender_in bytes)))
complaint-asks frames s side exit bytes reason complaint next are is there =
    own-asks frames s side bytes (complaint_frame (network_of s.shown.networks side) complaint next bytes) (tally_complained s.shown.moment (station_on s.shown side).said) (hop_back s.shown side (sender_in bytes))
    (λ w. complaint-own frames s.shown side bytes complaint next are w there)
    (λ w. inr ((reason, (exit, (complaint, is))), record { source = told-answers s.shown.networks side exit reason bytes complaint is; exit_is = refl; hop = refl }))

pub refused-asks : Frames → (s : GatewayAndOutput) (side exit : Side) (bytes : List ℕ) (reason : Reason) → AreBytes bytes → Ask-on (at_hand side bytes ∷ []) nobody s (refused s side exit bytes reason)
refused-asks frames s side exit bytes reason are =
    refused-leaves (λ x. Ask-on (at_hand side bytes ∷ []) nobody s x) s side exit bytes (nothing-asks (at_hand side bytes ∷ []) s)
    (λ r complaint next is there free. complaint-asks frames s side exit bytes r complaint next are is there) reason

flow-asks : Frames → (s : GatewayAndOutput) (side : Side) (bytes : List ℕ) (flow : Flow) → IsRead s.shown side bytes flow → Ask-on (at_hand side bytes ∷ []) nobody s (flow_taken s side bytes flow)
flow-asks frames s side bytes flow read = at (plan_of s.shown side flow (size_in bytes)) refl (plan-says s.shown side flow (size_in bytes))
  where
    at : (r : Result Plan Reason) → plan_of s.shown side flow (size_in bytes) ≡ r → PlanSays s.shown side flow r → Ask-on (at_hand side bytes ∷ []) nobody s (by_verdict s side bytes flow r)
    at (Ok plan) is says = plan-asks frames s side bytes flow plan read is says
    at (Err reason) is says =
        refusal-leaves (λ x. Ask-on (at_hand side bytes ∷ []) nobody s x) s side bytes flow (nothing-asks (at_hand side bytes ∷ []) s)
        (quiet-asks (at_hand side bytes ∷ []) s (wanted_by s (source_of flow)) (wanted-quiet s (source_of flow)))
        (λ r complaint next said there free. complaint-asks frames s side (exit_in s side flow) bytes r complaint next read.are said there) reason

pub packet-asks : Frames → (s : GatewayAndOutput) (side : Side) (bytes : List ℕ) (packet : PacketRead) → reading_on s.shown side bytes ≡ Ok (Packet packet) → AreBytes bytes → Ask-on (at_hand side bytes ∷ []) nobody s (flow_taken s side bytes packet.flow)
packet-asks frames s side bytes packet is are =
    let at = station_on s.shown side in
    let carries = frames.reads side at.network (is_active at) (is_up s.shown) bytes (Packet packet) is in
    flow-asks frames s side bytes packet.flow (record { are = are; synced = reading-synced s.shown side bytes (Packet packet) is; passes = carries.0; of_side = carries.1.1; flow_is = ap (λ (p : PacketRead). p.flow) carries.1.0 })

-- ---- an error

same-destination : (bytes : List ℕ) → (error_flow_in bytes).destination.0 ≡ (flow_in bytes).destination.0
unfolding error_flow_in flow_in
same-destination bytes = refl

-- what is known of an error that was read
record IsErrorRead (g : Shown) (bytes : List ℕ) (flow : ErrorFlow) : Type 0 where
  are : AreBytes bytes
  synced : is_synced g.ledger.book.stage ≡ true
  passes : IsPassable bytes
  flow_is : flow ≡ error_flow_in bytes

-- what the plan says of an error's next hop
error-next : (g : Shown) (side : Side) (bytes : List ℕ) (flow : ErrorFlow) (by : Translation) (hop : Ip) (notes : List Note) → IsErrorRead g bytes flow
    → IsErrorGoing g side flow by → hop ≡ error_hop g by flow → IsNextHop (known_of g) (MayGoBy g notes) (at_hand side bytes) (exit_by by) hop
error-next g side bytes flow by hop notes read goes hop_is = inl (
  by,
  record {
    goes = inr (record {
      passes = read.passes;
      way = subst (λ (f : ErrorFlow). error_direction g.networks side f ≡ Ok (way_of by)) read.flow_is goes.way;
      pairs = subst (λ (f : ErrorFlow). AreErrorPairs f by) read.flow_is (error-pairs g flow by read.synced goes.pairs);
    });
    target = error-targets g flow by notes read.synced goes.pairs;
    exit_is = refl;
    hop = ap (λ (h : Ip). h.0) (hop_is ∙ ap (error_hop g by) read.flow_is) ∙ ap (hop_of g.networks by) (same-destination bytes);
  },
)

error-asked : (g : Shown) (side : Side) (bytes : List ℕ) (flow : ErrorFlow) (by : Translation) (hop : Ip) (notes : List Note) → IsErrorRead g bytes flow → IsErrorAsked g side flow by hop
    → IsNextHop (known_of g) (MayGoBy g notes) (at_hand side bytes) (exit_by by) hop × IsUnknown (known_of g) (exit_by by) hop
error-asked g side bytes flow by hop notes read a = (
  error-next g side bytes flow by hop notes read a.goes a.hop_is,
  ap (λ (h : Ip). mac_at h.0 g.moment (near_on (known_of g) (exit_by by))) a.hop_is ∙ near-mac g (exit_by by) (error_hop g by flow).0 ∙ a.unknown,
)

error-plan-asks : Frames → (s : GatewayAndOutput) (side : Side) (bytes : List ℕ) (flow : ErrorFlow) (plan : Plan) → IsErrorRead s.shown bytes flow → ErrorSays s.shown side flow (Ok plan)
    → Ask-on (at_hand side bytes ∷ []) nobody s (by_error_plan s side bytes flow plan)
error-plan-asks frames s side bytes flow (Send by next) read says = λ w.
    let frame = passed_frame s.shown.networks by next bytes in
    let two = framed s (exit_by by) frame in
    let x : Sent = record { side = exit_by by; bytes = frame } in
    let six = next-six s.shown (addressed flow) by next w.0 says.1 in
    let way = subst (λ (f : ErrorFlow). error_direction s.shown.networks side f ≡ Ok (way_of by)) read.flow_is says.0.way in
    let own = frames.own.passed s.shown.networks side by next bytes w.0.0.0 w.0.0.1.placed six read.passes read.are way in
    let is = error-no_other s.shown.networks (exit_by by) frame own (frames.passed_apart s.shown.networks (exit_by by) by next bytes w.0.0.0 six read.passes) (frames.passed s.shown.networks by next bytes w.0.0.0 six read.passes) in
    renewed-asks frames s two side bytes (exit_by by) (error_hop s.shown by flow) x [] (
      refl,
      (
        is,
        (
          sym (append-nil s.told.notes),
          (
            λ p t. inl t,
            (refl, (refl, (((refl, refl), (refl, refl)), (λ v. v, inl (error-next s.shown side bytes flow by (error_hop s.shown by flow) [] read says.0 refl))))),
          ),
        ),
      ),
    ) w
error-plan-asks frames s side bytes flow (Ask by hop) read says = λ w.
    let q = nothing-quiet s in
    let exit = exit_by by in
    let x : Sent = record { side = exit; bytes = request_by s.shown exit hop } in
    let ask = asking_for side bytes exit hop Waits in
    let asked = error-asked s.shown side bytes flow by hop q.notes read says.0 in
    let new : IsNew (known_of s.shown) (MayGoBy s.shown q.notes) (waiting side bytes s.shown.moment (wait.Hop exit hop)) = record { since = refl; asked = refl; wait = asked } in
    keeping-asks s s (by_error_plan s side bytes flow (Ask by hop)) side bytes (wait.Hop exit hop) (x ∷ []) (ask ∷ []) q refl refl refl refl (record { hop = asked.0; cause = asked.1 }, tt)
    (one-other s.shown.networks x (request-other frames s.shown.networks exit (station_on s.shown exit).network hop (own-six s.shown w.0 exit))) new refl (λ ws. refl) refl refl ((refl, refl), (refl, refl)) (λ v. v) read.are w
error-plan-asks frames s side bytes flow (AskAgain by hop) read says = again-asks frames s side bytes (exit_by by) hop (error-asked s.shown side bytes flow by hop [] read says)
error-plan-asks frames s side bytes flow (WaitFor e) read says = absurd says

pub error-asks : Frames → (s : GatewayAndOutput) (side : Side) (bytes : List ℕ) (packet : ErrorPacket) → reading_on s.shown side bytes ≡ Ok (Error packet) → AreBytes bytes
    → Ask-on (at_hand side bytes ∷ []) nobody s (error_taken s side bytes packet.flow)
error-asks frames s side bytes packet is are = by (error_plan s.shown side packet.flow (size_in bytes)) (error-says s.shown side packet.flow (size_in bytes))
  where
    read : IsErrorRead s.shown bytes packet.flow
    read = let at = station_on s.shown side in
        let carries = frames.reads side at.network (is_active at) (is_up s.shown) bytes (Error packet) is in
        record { are = are; synced = reading-synced s.shown side bytes (Error packet) is; passes = carries.0; flow_is = ap (λ (p : ErrorPacket). p.flow) carries.1 }

    by : (r : Result Plan Reason) → ErrorSays s.shown side packet.flow r → Ask-on (at_hand side bytes ∷ []) nobody s (by_error_verdict s side bytes packet.flow r)
    by (Ok plan) says = error-plan-asks frames s side bytes packet.flow plan read says
    by (Err reason) says = nothing-asks (at_hand side bytes ∷ []) s

-- ---- an Echo to the gateway

pub echo-asks : Frames → (s : GatewayAndOutput) (side : Side) (bytes : List ℕ) (echo : Echo) → reading_on s.shown side bytes ≡ Ok (Asked echo) → AreBytes bytes → Ask-on (at_hand side bytes ∷ []) nobody s (echo_taken s side bytes echo)
echo-asks frames s side bytes echo read are =
    echo-leaves (λ x. Ask-on (at_hand side bytes ∷ []) nobody s x) s side bytes echo
    (λ next may there free.
    own-asks frames s side bytes (own_answer (network_of s.shown.networks side) next bytes) (replied s.shown.moment (station_on s.shown side).said) hop (λ w. answer-own frames s.shown side bytes echo next read are w there) (λ w. inl (inr (echoed w, back may))))
    (λ may there place. waits may there)
    (λ may there w. again-asks frames s side bytes side hop (inr (echoed w.0, back may), unknown there) w)
    (λ reason. refused-asks frames s side side bytes reason are)
  where
    hop : Ip
    hop = hop_back s.shown side echo.source

    source : echo.source ≡ sender_in bytes
    source = asker frames s.shown side bytes echo read

    echoed : IsSetUp s.shown → IsEcho (known_of s.shown) (at_hand side bytes)
    echoed w = asked-is frames s.shown side bytes echo read w

    back : may_answer s.shown.networks side echo.source.0 ≡ true → IsBack (known_of s.shown) (at_hand side bytes) side hop
    back may = record {
      source = subst (λ (i : Ip). may_answer s.shown.networks side i.0 ≡ true) source may;
      exit_is = refl;
      hop = ap (λ (i : Ip). back_hop s.shown.networks side i.0) source;
    }

    unknown : next_back s.shown side echo.source ≡ None → IsUnknown (known_of s.shown) side hop
    unknown there = near-mac s.shown side hop.0 ∙ there

    waits : may_answer s.shown.networks side echo.source.0 ≡ true → next_back s.shown side echo.source ≡ None
        → Ask-on (at_hand side bytes ∷ []) nobody s (framed (keeping s side bytes (wait.Hop side hop)) side (request_by s.shown side hop))
    waits may there = λ w.
        let q = nothing-quiet s in
        let x : Sent = record { side = side; bytes = request_by s.shown side hop } in
        let ask = asking_for side bytes side hop Waits in
        let new : IsNew (known_of s.shown) (MayGoBy s.shown q.notes) (waiting side bytes s.shown.moment (wait.Hop side hop)) = record { since = refl; asked = refl; wait = (inr (echoed w.0, back may), unknown there) } in
        keeping-asks s s (framed (keeping s side bytes (wait.Hop side hop)) side (request_by s.shown side hop)) side bytes (wait.Hop side hop) (x ∷ []) (ask ∷ []) q refl refl refl refl
        (record { hop = inr (echoed w.0, back may); cause = unknown there }, tt)
        (one-other s.shown.networks x (request-other frames s.shown.networks side (station_on s.shown side).network hop (own-six s.shown w.0 side))) new refl (λ ws. refl) refl refl ((refl, refl), (refl, refl)) (λ v. v) are w

-- ---- the packets whose wait is over

retaken-asks : Frames → (s : GatewayAndOutput) (side : Side) (bytes : List ℕ) (r : Result Reading Reason) → reading_on s.shown side bytes ≡ r → AreBytes bytes → Ask-on (at_hand side bytes ∷ []) nobody s (retaken_by s side bytes r)
retaken-asks frames s side bytes (Ok (Packet packet)) is are = packet-asks frames s side bytes packet is are
retaken-asks frames s side bytes (Ok (Error packet)) is are = error-asks frames s side bytes packet is are
retaken-asks frames s side bytes (Ok (Asked echo)) is are = echo-asks frames s side bytes echo is are
retaken-asks frames s side bytes (Ok (Arp p)) is are = nothing-asks (at_hand side bytes ∷ []) s
retaken-asks frames s side bytes (Ok (Advert a from)) is are = nothing-asks (at_hand side bytes ∷ []) s
retaken-asks frames s side bytes (Err reason) is are = refused-asks frames s side side bytes reason are

all-ask : Frames → (s : GatewayAndOutput) (ws : List HeldPacket) → AllByRecursion (λ (w : HeldPacket). AreBytes w.bytes) ws → Ask-on (packets_of ws) nobody s (all_taken s ws)
all-ask frames s [] all = nothing-asks [] s
all-ask frames s (w ∷ ws) all =
    asking-then (at_hand w.side w.bytes ∷ []) (packets_of ws) nobody nobody s (taken_again s w) (all_taken s (w ∷ ws))
    (retaken-asks frames s w.side w.bytes (reading_on s.shown w.side w.bytes) refl all.0) (all-ask frames (taken_again s w) ws all.1)

-- packets are removed from the list, and are at hand from then on
pub released-asks : Frames → (s : GatewayAndOutput) (ended : Ended) → IsFit s.shown → Asks [] (λ w. ends ended w.wait) s (released s ended)
released-asks frames s ended w =
    let start = scene (record s.shown { kept = left_by ended s.shown.kept }) s.told in
    let freed = ended_by ended s.shown.kept in
    let left = left_by ended s.shown.kept in
    let few = count-left (λ (v : HeldPacket). not (ends ended v.wait)) s.shown.kept in
    let x = (all-ask frames start freed (kept-filter _ s.shown.kept w.1.1) (w.0, (omega (arith, few, w.1.0), kept-filter _ s.shown.kept w.1.1))).asks in
    let back : (side : Side) (host : Ip) → asks_again (known_of (released s ended).shown).moment (wait.Hop side host) left ≡ true → asks_again (known_of (released s ended).shown).moment (wait.Hop side host) s.shown.kept ≡ true =
    λ side host t. asks-left (known_of (released s ended).shown).moment (wait.Hop side host) (λ (v : HeldPacket). not (ends ended v.wait)) s.shown.kept t in
    record {
      frames = x.frames;
      frames_are = x.frames_are;
      notes = x.notes;
      notes_are = x.notes_are;
      roots = x.roots;
      askings = x.askings;
      due = due-more (known_of (released s ended).shown) (MayGoBy s.shown x.notes) (MayGoBy s.shown x.notes) (λ p h. h) s.shown start.shown (sides (known_of (released s ended).shown).moment) back x.askings x.due;
      others = x.others ∙ requests-same s.shown start.shown (refl, refl) x.askings;
      came = x.came;
      new = x.new;
      waiting = record {
        hops_are = x.waiting.hops_are;
        kept_are = x.waiting.kept_are ∙ ap (λ (ws : List HeldPacket). all_noted s.shown.moment x.askings (within_limit (ws ++ x.came))) (filter-all left);
      };
      gone = x.gone;
      of_hand = comes-off freed left x.came (packets_asked x.askings ++ x.gone) x.of_hand;
      known = x.known;
      near = λ side host t. sides s.shown.moment side host (x.near side host t);
      nets = x.nets;
      wired = x.wired;
      bytes = x.bytes;
    }
  where
    sides : (now : ℕ) (side : Side) (host : ℕ) → asks_at host now (station_on (record s.shown { kept = left_by ended s.shown.kept }) side).neighbours ≡ true → asks_at host now (station_on s.shown side).neighbours ≡ true
    sides now Inside host t = t
    sides now Outside host t = t

-- the other frames are as they should be where a wait for a pair ends
pub pairs-ask : Frames → (s : GatewayAndOutput) (ended : Ended) → ((x : WaitsFor) → is_for_pair x ≡ false → ends ended x ≡ false) → Ask-on [] (λ w. ends ended w.wait) s (released s ended)
pairs-ask frames s ended apart = λ w. record { asks = released-asks frames s ended w; hops = λ p hop. apart p.wait hop; waits = λ p n. refl }

pub all-apart : (x : WaitsFor) → is_for_pair x ≡ false → ends AllPairs x ≡ false
all-apart x is = is

pub one-apart : (e : Endpoint) (x : WaitsFor) → is_for_pair x ≡ false → ends (One (wait.Pair e)) x ≡ false
one-apart e (wait.Pair f) is = absurd (cc)
one-apart e (wait.Hop side host) is = refl
