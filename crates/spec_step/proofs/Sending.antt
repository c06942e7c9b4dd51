-- What is told of a packet that is sent on is true.
use Rattle.std.proofs.Common.{◌≡◌, ℕ, Bool, true, false, Some, Ok, List, [], ◌∷◌, ◌++◌, length, IsPermutation, refl, sym, ap, subst, ◌∙◌, append_assoc, arith}
use Rattle.std.proofs.lemmas.List.{append-nil}
use Rattle.std.proofs.lemmas.Grind.{flat_map-append}
use Rattle.std.proofs.lemmas.List.Sorted.{IsPermutation-refl}
use Rattle.addresses.specs.declared.ethernet.Mac.{Mac}
use Rattle.addresses.specs.declared.internet.Ip.{Ip}
use Rattle.addresses.specs.declared.transport.TcpFlags.{TcpFlags}
use Rattle.nat_types.specs.declared.gateways.Side.{Side}
use Rattle.nat_types.specs.declared.gateways.Side.TheVariants.{Inside, Outside}
use Rattle.nat_types.specs.declared.notes.Note.{Note}
use Rattle.nat_types.specs.declared.pairs.Pair.{Pair}
use Rattle.arp.specs.declared.packets.ArpPacket.{ArpPacket}
use Rattle.arp.specs.Macs.{KnowsMacs}
use Rattle.arp.specs.Neighbours.{mac_at}
use Rattle.arp.proofs.Offered.{mac-forgetful, near-six}
use Rattle.frames.specs.Frame.{frame_of}
use Rattle.activity.specs.declared.packets.Way.TheVariants as goes
use Rattle.ipv4.specs.declared.flows.Flow.{Flow}
use Rattle.spec_binding.specs.Books.{Book, IsBook, is_synced}
use Rattle.spec_binding.specs.Rows.{carry_row, is_full, wish_of, noted_with, after, new_pair}
use Rattle.spec_binding.specs.Serving.{serving}
use Rattle.spec_binding.specs.WellFormed.{IsWellFormedEndpoint}
use Rattle.spec_binding.proofs.Offered.{change-leaves}
use Rattle.waiting.specs.Packets.{HeldPacket}
use Rattle.packet_rules.specs.declared.complaints.Complaint.{Complaint}
use Rattle.packet_rules.specs.declared.networks.Network.{Network}
use Rattle.packet_rules.specs.declared.networks.Networks.{Networks}
use Rattle.packet_rules.specs.declared.readings.Asked.{Asked as Echo}
use Rattle.packet_rules.specs.declared.readings.Reading.TheVariants.{Asked}
use Rattle.packet_rules.specs.declared.reasons.Reason.{Reason}
use Rattle.packet_rules.specs.declared.translations.Translation.{Translation}
use Rattle.packet_rules.specs.declared.translations.Translation.TheVariants.{Outward, Inward, Hairpin}
use Rattle.packet_rules.specs.Adverts.{advert_frame}
use Rattle.packet_rules.specs.Asked.{IsAskable, is_asked}
use Rattle.packet_rules.specs.Arping.{answer_frame, gratuitous_frame, request_frame}
use Rattle.packet_rules.specs.Flows.{error_flow_in, flow_in, source_of}
use Rattle.packet_rules.specs.Frames.{hop_of, is_translation, pairs_of, sent_frame, way_of}
use Rattle.packet_rules.specs.Networks.{IsPlaced, IsWired, direction_of, exit_of, may_answer, network_of}
use Rattle.packet_rules.specs.Own.{answer_frame as own_answer, complaint_frame, complaint_of, is_own_frame}
use Rattle.packet_rules.specs.Steps.{IsForwardable, IsOfSide, IsPassable, reading_of}
use Rattle.packet_rules.specs.Errors.{error_direction, is_error_frame, passed_frame}
use Rattle.interfaces.specs.declared.tallies.Tally.{Tally}
use Rattle.interfaces.specs.Stations.{is_active}
use Rattle.interfaces.specs.Tallies.{IsWithin, complained, may_complain, may_reply, replied}
use Rattle.output.specs.Output.{Sent}
use Rattle.spec_step.specs.Others.{IsEcho, is_other, retaken_pairs}
use Rattle.spec_step.specs.Machine.{AreBytes}
use Rattle.spec_step.specs.Parts.{carried, carried_all, framed, remote, sender_in, wanted_for, by_row_and_behind}
use Rattle.spec_step.specs.OwnAnswers.{Answers, Complains, IsOwnOf, OwnFrame, own_frames}
use Rattle.spec_step.specs.PassedOn.{error_frames}
use Rattle.spec_step.specs.Shown.{GatewayAndOutput, Shown, id_of, is_apart, is_up, station_on}
use Rattle.spec_step.specs.Truly.{AreItsPairs, IsSetUp, IsSentBy, Known, Sending, known_of, near_on, packets_of, translated_frames, unasked, used_in, used_pairs}
use Rattle.spec_step.specs.Verdict.{exit_by, hop_back, hop_by, next_back, next_by, reading_on}
use Rattle.spec_step.proofs.Own.{told-answers}
use Rattle.spec_step.proofs.FrameKinds.{other-by, sent-no_error}
use Rattle.spec_step.proofs.Packets.{Reads}
use Rattle.spec_step.proofs.Rooting.{same-rooted}
use Rattle.spec_step.proofs.Sends.{AreFound, IsOwn, IsPlanned}
use Rattle.spec_step.proofs.Steady.{ServesNow, served-now, steady-same}
use Rattle.spec_step.proofs.Telling.{SameSaid, Told, at_hand, within-by}
use Rattle.spec_step.proofs.Translating.{Translates, carry-note, target-translates, wish-owns, wish-serves, wish-still}
use Rattle.spec_binding.specs.Uses.{use_counts}
use Rattle.spec_binding.specs.Ledgers.{carried_ledger}
use Rattle.spec_step.proofs.Ahead.{row-behind}
use Rattle.spec_binding.specs.declared.changes.Transition.{Transition}

-- the contract by which a tally stays within its limits
pub record Limited : Type 0 where
  pub replied : (now : ℕ) (tally : Tally) → IsWithin tally → may_reply now tally ≡ true → IsWithin (replied now tally)
  pub complained : (now : ℕ) (tally : Tally) → IsWithin tally → may_complain now tally ≡ true → IsWithin (complained now tally)

-- the contract that says which frames are the gateway's own
pub record OwnFrames : Type 0 where
  pub answer : (networks : Networks) (side : Side) (active : Bool) (next : Mac) (bytes : List ℕ) → IsWired networks → IsPlaced networks → length next.0 ≡ 6 → AreBytes bytes → IsAskable bytes
      → is_asked (network_of networks side) active (frame_of bytes) ≡ true → is_own_frame networks side (own_answer (network_of networks side) next bytes) ≡ true
  pub complaint : (networks : Networks) (side : Side) (complaint : Complaint) (next : Mac) (bytes : List ℕ) → IsWired networks → IsPlaced networks → length next.0 ≡ 6 → AreBytes bytes
      → is_own_frame networks side (complaint_frame (network_of networks side) complaint next bytes) ≡ true
  pub sent : (networks : Networks) (side : Side) (t : Translation) (next : Mac) (bytes : List ℕ) → IsWired networks → IsPlaced networks → length next.0 ≡ 6 → IsForwardable bytes → IsOfSide side bytes → AreBytes bytes
      → (let flow = flow_in bytes in direction_of networks side flow.protocol flow.source.0 flow.destination.0 ≡ Ok (way_of t)) → is_own_frame networks (exit_of (way_of t)) (sent_frame networks t next bytes) ≡ false
  pub passed : (networks : Networks) (side : Side) (t : Translation) (next : Mac) (bytes : List ℕ) → IsWired networks → IsPlaced networks → length next.0 ≡ 6 → IsPassable bytes → AreBytes bytes
      → error_direction networks side (error_flow_in bytes) ≡ Ok (way_of t) → is_own_frame networks (exit_of (way_of t)) (passed_frame networks t next bytes) ≡ false
  pub arp : (networks : Networks) (side : Side) (network : Network) (p : ArpPacket) (mac : Mac) → length network.own_mac.0 ≡ 6 → length p.sender_mac.0 ≡ 6 → is_own_frame networks side (answer_frame network p mac) ≡ false
  pub request : (networks : Networks) (side : Side) (network : Network) (ip : Ip) → length network.own_mac.0 ≡ 6 → is_own_frame networks side (request_frame network ip) ≡ false
  pub gratuitous : (networks : Networks) (side : Side) (network : Network) → is_own_frame networks side (gratuitous_frame network) ≡ false
  pub advert : (networks : Networks) (side : Side) (network : Network) (priority interval : ℕ) → is_own_frame networks side (advert_frame network priority interval) ≡ false

-- the contracts of frames: what they are read as, and which of those that are sent are translations
pub record Frames : Type 0 where
  pub reads : Reads
  pub asked : (side : Side) (network : Network) (active up : Bool) (bytes : List ℕ) (echo : Echo) → reading_of side network active up bytes ≡ Ok (Asked echo) → is_asked network active (frame_of bytes) ≡ true
  pub own : OwnFrames
  pub tallies : Limited
  pub sent : (networks : Networks) (side : Side) (t : Translation) (next : Mac) (bytes : List ℕ) → IsWired networks → length next.0 ≡ 6 → IsForwardable bytes → IsOfSide side bytes
      → (let flow = flow_in bytes in direction_of networks side flow.protocol flow.source.0 flow.destination.0 ≡ Ok (way_of t)) → is_translation (exit_of (way_of t)) (sent_frame networks t next bytes) ≡ true
  pub answer : (exit : Side) (network : Network) (p : ArpPacket) (mac : Mac) → length network.own_mac.0 ≡ 6 → length p.sender_mac.0 ≡ 6 → is_translation exit (answer_frame network p mac) ≡ false
  pub request : (exit : Side) (network : Network) (ip : Ip) → length network.own_mac.0 ≡ 6 → is_translation exit (request_frame network ip) ≡ false
  pub gratuitous : (exit : Side) (network : Network) → is_translation exit (gratuitous_frame network) ≡ false
  pub advert : (exit : Side) (network : Network) (priority interval : ℕ) → is_translation exit (advert_frame network priority interval) ≡ false
  pub passed : (networks : Networks) (t : Translation) (next : Mac) (bytes : List ℕ) → IsWired networks → length next.0 ≡ 6 → IsPassable bytes → is_error_frame (passed_frame networks t next bytes) ≡ true
  pub passed_apart : (networks : Networks) (exit : Side) (t : Translation) (next : Mac) (bytes : List ℕ) → IsWired networks → length next.0 ≡ 6 → IsPassable bytes → is_translation exit (passed_frame networks t next bytes) ≡ false
  pub answer_no_error : (network : Network) (p : ArpPacket) (mac : Mac) → length network.own_mac.0 ≡ 6 → length p.sender_mac.0 ≡ 6 → is_error_frame (answer_frame network p mac) ≡ false
  pub request_no_error : (network : Network) (ip : Ip) → length network.own_mac.0 ≡ 6 → is_error_frame (request_frame network ip) ≡ false
  pub gratuitous_no_error : (network : Network) → is_error_frame (gratuitous_frame network) ≡ false
  pub advert_no_error : (network : Network) (priority interval : ℕ) → is_error_frame (advert_frame network priority interval) ≡ false

-- ---- frames of another kind

pub request-other : Frames → (networks : Networks) (exit : Side) (network : Network) (ip : Ip) → length network.own_mac.0 ≡ 6 → is_other networks exit (request_frame network ip) ≡ true
request-other frames networks exit network ip own = other-by networks exit _ (frames.own.request networks exit network ip own) (frames.request exit network ip own) (frames.request_no_error network ip own)

pub advert-other : Frames → (networks : Networks) (exit : Side) (network : Network) (priority interval : ℕ) → is_other networks exit (advert_frame network priority interval) ≡ true
advert-other frames networks exit network priority interval =
    other-by networks exit _ (frames.own.advert networks exit network priority interval) (frames.advert exit network priority interval) (frames.advert_no_error network priority interval)

pub gratuitous-other : Frames → (networks : Networks) (exit : Side) (network : Network) → is_other networks exit (gratuitous_frame network) ≡ true
gratuitous-other frames networks exit network = other-by networks exit _ (frames.own.gratuitous networks exit network) (frames.gratuitous exit network) (frames.gratuitous_no_error network)

pub answer-other : Frames → (networks : Networks) (exit : Side) (network : Network) (p : ArpPacket) (mac : Mac) → length network.own_mac.0 ≡ 6 → length p.sender_mac.0 ≡ 6 → is_other networks exit (answer_frame network p mac) ≡ true
answer-other frames networks exit network p mac own six =
    other-by networks exit _ (frames.own.arp networks exit network p mac own six) (frames.answer exit network p mac own six) (frames.answer_no_error network p mac own six)

pub near-is : (g : Shown) (side : Side) → near_on (known_of g) side ≡ unasked (station_on g side).neighbours
near-is g Inside = refl
near-is g Outside = refl

-- the hardware address that is known for a host is the same, whenever it was last asked for
pub near-mac : (g : Shown) (side : Side) (host : ℕ) → mac_at host g.moment (near_on (known_of g) side) ≡ mac_at host g.moment (station_on g side).neighbours
near-mac g side host = ap (mac_at host g.moment) (near-is g side) ∙ mac-forgetful host g.moment (station_on g side).neighbours

pub known-on : (g : Shown) → IsSetUp g → (side : Side) → KnowsMacs (station_on g side).neighbours
known-on g w Inside = w.1.0.known
known-on g w Outside = w.1.1.known

pub own-six : (g : Shown) → IsSetUp g → (side : Side) → length (station_on g side).network.own_mac.0 ≡ 6
own-six g w Inside = w.1.0.own
own-six g w Outside = w.1.1.own

-- ---- the pairs of a plan

-- each pair of a translation translates
abbrev pub AllTranslate : Book → Translation → Type 0
AllTranslate b (Outward p) = Translates b p
AllTranslate b (Inward p) = Translates b p
AllTranslate b (Hairpin own other) = Translates b own × Translates b other

-- a pair that translates after a row does so after what is asked for behind it
translates-behind : (s : GatewayAndOutput) (r : Transition) (p : Pair) → Translates (after s.shown.ledger.book r) p → Translates (by_row_and_behind s r).shown.ledger.book p
translates-behind s r p is =
    row-behind (λ m. Translates m.shown.ledger.book p) s r
    (λ m paired t. record { synced = t.synced; entry = t.entry; found = t.found; pair = t.pair; live = t.live })
    is

own-translates : (s : GatewayAndOutput) (flow : Flow) (p : Pair) → IsBook s.shown.ledger.book → IsOwn s.shown flow p
    → Translates (wanted_for s flow (Outward p)).shown.ledger.book p × (p.endpoint ≡ source_of flow)
own-translates s flow p is own =
    let b = s.shown.ledger.book in
    let apart = is_apart s.shown in
    let full = is_full s.shown.link in
    let e = source_of flow in (
      subst (λ (q : Pair). Translates (wanted_for s flow (Outward p)).shown.ledger.book q) (sym own.1.1)
          (translates-behind s (wish_of b apart full e).row (new_pair e own.0) (wish-owns b apart full e is own.0 own.1.0)),
      ap (λ (q : Pair). q.endpoint) own.1.1,
    )

pub found-translate : (s : GatewayAndOutput) (flow : Flow) (by : Translation) → IsBook s.shown.ledger.book → is_synced s.shown.ledger.book.stage ≡ true → AreFound s.shown flow by
    → AllTranslate (wanted_for s flow by).shown.ledger.book by × AreItsPairs flow by
found-translate s flow (Outward p) is synced found = own-translates s flow p is found
found-translate s flow (Inward p) is synced found = target-translates s.shown flow p synced found
found-translate s flow (Hairpin own other) is synced found =
    let first = own-translates s flow own is found.0 in
    let second = target-translates s.shown flow other synced found.1 in (
      (
        first.0,
        translates-behind s (wish_of s.shown.ledger.book (is_apart s.shown) (is_full s.shown.link) (source_of flow)).row other
            (wish-still s.shown.ledger.book (is_apart s.shown) (is_full s.shown.link) (source_of flow) is other second.0),
      ),
      (first.1, second.1),
    )

-- the pair that the source has, or gets, is its endpoint's pair afterwards
source-serves : (s : GatewayAndOutput) (flow : Flow) (p : Pair) → IsBook s.shown.ledger.book → IsWellFormedEndpoint (source_of flow) → is_synced s.shown.ledger.book.stage ≡ true → IsOwn s.shown flow p
    → ServesNow (wanted_for s flow (Outward p)).shown.ledger.book (Outward p)
source-serves s flow p is formed synced own =
    let b = s.shown.ledger.book in
    let apart = is_apart s.shown in
    let full = is_full s.shown.link in
    let e = source_of flow in
    let row = (wish_of b apart full e).row in (
      row-behind (λ m. is_synced m.shown.ledger.book.stage ≡ true) s row (λ m paired x. x) (ap is_synced (change-leaves b row.change).stage ∙ synced),
      subst (λ (q : Pair). serving (wanted_for s flow (Outward p)).shown.ledger.book q.endpoint ≡ Some q) (sym own.1.1)
          (row-behind (λ m. serving m.shown.ledger.book e ≡ Some (new_pair e own.0)) s row (λ m paired x. x) (wish-serves b apart full e is formed own.0 own.1.0)),
    )

pub found-serve : (s : GatewayAndOutput) (flow : Flow) (by : Translation) → IsBook s.shown.ledger.book → IsWellFormedEndpoint (source_of flow) → is_synced s.shown.ledger.book.stage ≡ true → AreFound s.shown flow by
    → ServesNow (wanted_for s flow by).shown.ledger.book by
found-serve s flow (Outward p) is formed synced found = source-serves s flow p is formed synced found
found-serve s flow (Inward p) is formed synced found = tt
found-serve s flow (Hairpin own other) is formed synced found = source-serves s flow own is formed synced found.0

-- ---- the notes of the pairs

-- the note that a packet is carried by a pair, whose use counts or doesn't
abbrev pub carry_notes : Shown → Bool → Pair → List Note
carry_notes g counts p = noted_with counts (id_of g) g.moment (carry_row g.ledger.book p.key).what

-- the notes of all pairs, by whether the use of the first and that of the second counts
abbrev pub all_notes : Shown → Bool → Bool → Translation → List Note
all_notes g first second (Outward p) = carry_notes g first p
all_notes g first second (Inward p) = carry_notes g first p
all_notes g first second (Hairpin own other) = carry_notes g first own ++ carry_notes g second other

all-used : (g : Shown) (first second : Bool) (by : Translation) → AllTranslate g.ledger.book by → used_pairs (all_notes g first second by) ≡ pairs_of by
all-used g first second (Outward p) t = carry-note first g.ledger.book p (id_of g) g.moment t
all-used g first second (Inward p) t = carry-note first g.ledger.book p (id_of g) g.moment t
all-used g first second (Hairpin own other) t =
    flat_map-append (λ (n : Note). used_in n.what) (carry_notes g first own) (carry_notes g second other)
    ∙ ap (λ (ps : List Pair). ps ++ used_pairs (carry_notes g second other)) (carry-note first g.ledger.book own (id_of g) g.moment t.0)
    ∙ ap (λ (ps : List Pair). own ∷ ps) (carry-note second g.ledger.book other (id_of g) g.moment t.1)

-- what the carrying of a packet by its pairs leaves as it is, and what it notes
pub record Carries-on (s s2 : GatewayAndOutput) (by : Translation) : Type 0 where
  pub first : Bool
  pub second : Bool
  pub frames : s2.told.frames ≡ s.told.frames
  pub notes : s2.told.notes ≡ s.told.notes ++ all_notes s.shown first second by
  pub kept : s2.shown.kept ≡ s.shown.kept
  pub known : known_of s2.shown ≡ known_of s.shown
  pub book : s2.shown.ledger.book ≡ s.shown.ledger.book
  pub wired : IsSetUp s.shown → IsSetUp s2.shown
  pub said : SameSaid s.shown s2.shown
  pub nets : (s2.shown.inside.network ≡ s.shown.inside.network) × (s2.shown.outside.network ≡ s.shown.outside.network)

pub carried-leaves : (s : GatewayAndOutput) (flow : Flow) (flags : TcpFlags) (by : Translation) → Carries-on s (carried_all s flow flags by) by
carried-leaves s flow flags (Outward p) = record {
  first = use_counts s.shown.ledger p.key (carried s.shown (remote flow.destination flow.destination_port) goes.Outward flags);
  second = true;
  frames = refl;
  notes = refl;
  kept = refl;
  known = refl;
  book = refl;
  wired = λ w. w;
  said = (refl, (refl, omega arith));
  nets = (refl, refl);
}
carried-leaves s flow flags (Inward p) = record {
  first = use_counts s.shown.ledger p.key (carried s.shown (remote flow.source flow.source_port) goes.Inward flags);
  second = true;
  frames = refl;
  notes = refl;
  kept = refl;
  known = refl;
  book = refl;
  wired = λ w. w;
  said = (refl, (refl, omega arith));
  nets = (refl, refl);
}
carried-leaves s flow flags (Hairpin own other) =
    let here = s.shown.networks.outside.interface.virtual_ip in
    let out = carried s.shown (remote here flow.destination_port) goes.Outward flags in
    let back = carried s.shown (remote here own.key.port) goes.Inward flags in
    let one = use_counts s.shown.ledger own.key out in
    let two = use_counts (carried_ledger own.key out s.shown.ledger) other.key back in
    record {
      first = one;
      second = two;
      frames = refl;
      notes = append_assoc s.told.notes (carry_notes s.shown one own) (carry_notes s.shown two other);
      kept = refl;
      known = refl;
      book = refl;
      wired = λ w. w;
      said = (refl, (refl, omega arith));
      nets = (refl, refl);
    }

-- ---- the frame

pub is-sent : (g : Shown) (side : Side) (bytes : List ℕ) (by : Translation) (next : Mac) → IsPlanned g side (flow_in bytes) by next → AreItsPairs (flow_in bytes) by
    → IsSentBy (known_of g) (at_hand side bytes) by (let x : Sent = record { side = exit_by by; bytes = sent_frame g.networks by next bytes } in x)
is-sent g side bytes by next plan pairs = record {
  way = plan.way;
  pairs = pairs;
  side = refl;
  next = next;
  hop = near-mac g (exit_by by) (hop_of g.networks by (flow_in bytes).destination.0) ∙ plan.next_is;
  bytes_are = refl;
}

pub next-six : (g : Shown) (flow : Flow) (by : Translation) (next : Mac) → IsSetUp g → next_by g by flow ≡ Some next → length next.0 ≡ 6
next-six g flow by next wired is = near-six (hop_by g by flow).0 g.moment (station_on g (exit_by by)).neighbours next (known-on g wired (exit_by by)) is

-- ---- what a gateway says itself

pub back-six : (g : Shown) (side : Side) (source : Ip) (next : Mac) → IsSetUp g → next_back g side source ≡ Some next → length next.0 ≡ 6
back-six g side source next w is = near-six (hop_back g side source).0 g.moment (station_on g side).neighbours next (known-on g w side) is

house-network : (g : Shown) → IsSetUp g → (side : Side) → (station_on g side).network ≡ network_of g.networks side
house-network g w Inside = w.0.1.inside_is
house-network g w Outside = w.0.1.outside_is

-- the gateway's answer to an Echo is an own frame
pub answer-own : Frames → (g : Shown) (side : Side) (bytes : List ℕ) (echo : Echo) (next : Mac) → reading_on g side bytes ≡ Ok (Asked echo) → AreBytes bytes → IsSetUp g → next_back g side echo.source ≡ Some next
    → is_own_frame g.networks side (own_answer (network_of g.networks side) next bytes) ≡ true
answer-own frames g side bytes echo next read are w there =
    let at = station_on g side in
    let carries = frames.reads side at.network (is_active at) (is_up g) bytes (Asked echo) read in
    let asked = frames.asked side at.network (is_active at) (is_up g) bytes echo read in
    frames.own.answer g.networks side (is_active at) next bytes w.0.0 w.0.1.placed (back-six g side echo.source next w there) are carries.0
    (subst (λ (n : Network). is_asked n (is_active at) (frame_of bytes) ≡ true) (house-network g w side) asked)

abbrev pub answer_of : Shown → Side → List ℕ → Mac → OwnFrame
answer_of g side bytes next = record {
  packet = at_hand side bytes;
  purpose = Answers;
  sent = record { side = side; bytes = own_answer (network_of g.networks side) next bytes };
}

-- the source of an Echo is the sender of its packet
pub asker : Frames → (g : Shown) (side : Side) (bytes : List ℕ) (echo : Echo) → reading_on g side bytes ≡ Ok (Asked echo) → echo.source ≡ sender_in bytes
asker frames g side bytes echo read =
    let at = station_on g side in
    ap (λ (e : Echo). e.source) (frames.reads side at.network (is_active at) (is_up g) bytes (Asked echo) read).1

-- what is read as an Echo is an Echo to the gateway
pub asked-is : Frames → (g : Shown) (side : Side) (bytes : List ℕ) (echo : Echo) → reading_on g side bytes ≡ Ok (Asked echo) → IsSetUp g → IsEcho (known_of g) (at_hand side bytes)
asked-is frames g side bytes echo read w =
    let at = station_on g side in
    let carries = frames.reads side at.network (is_active at) (is_up g) bytes (Asked echo) read in
    let asked = frames.asked side at.network (is_active at) (is_up g) bytes echo read in
    (carries.0, (is_active at, subst (λ (n : Network). is_asked n (is_active at) (frame_of bytes) ≡ true) (house-network g w side) asked))

pub answer-is : Frames → (g : Shown) (side : Side) (bytes : List ℕ) (echo : Echo) (next : Mac) → reading_on g side bytes ≡ Ok (Asked echo) → AreBytes bytes → IsSetUp g → may_answer g.networks side echo.source.0 ≡ true
    → next_back g side echo.source ≡ Some next → IsOwnOf (known_of g) (answer_of g side bytes next)
answer-is frames g side bytes echo next read are w may there =
    let is_echo = asked-is frames g side bytes echo read w in
    let source = asker frames g side bytes echo read in
    record {
      bytes = are;
      sender = subst (λ (i : Ip). may_answer g.networks side i.0 ≡ true) source may;
      side = refl;
      next = next;
      hop = near-mac g side (hop_back g side (sender_in bytes)).0 ∙ subst (λ (i : Ip). next_back g side i ≡ Some next) source there;
      says = (is_echo.0, (is_echo.1, refl));
    }

abbrev pub complaint_by : Shown → Side → Side → List ℕ → Reason → Complaint → Mac → OwnFrame
complaint_by g side exit bytes reason complaint next = record {
  packet = at_hand side bytes;
  purpose = Complains reason exit;
  sent = record { side = side; bytes = complaint_frame (network_of g.networks side) complaint next bytes };
}

pub complaint-is : (g : Shown) (side exit : Side) (bytes : List ℕ) (reason : Reason) (complaint : Complaint) (next : Mac) → AreBytes bytes → complaint_of g.networks side exit reason bytes ≡ Some complaint → next_back g side (sender_in bytes) ≡ Some next
    → IsOwnOf (known_of g) (complaint_by g side exit bytes reason complaint next)
complaint-is g side exit bytes reason complaint next are is there = record {
  bytes = are;
  sender = told-answers g.networks side exit reason bytes complaint is;
  side = refl;
  next = next;
  hop = near-mac g side (hop_back g side (sender_in bytes)).0 ∙ there;
  says = (complaint, (is, refl));
}

-- the gateway's complaint of a packet is an own frame
pub complaint-own : Frames → (g : Shown) (side : Side) (bytes : List ℕ) (complaint : Complaint) (next : Mac) → AreBytes bytes → IsSetUp g → next_back g side (sender_in bytes) ≡ Some next
    → is_own_frame g.networks side (complaint_frame (network_of g.networks side) complaint next bytes) ≡ true
complaint-own frames g side bytes complaint next are w there =
    frames.own.complaint g.networks side complaint next bytes w.0.0 w.0.1.placed (back-six g side (sender_in bytes) next w there) are

-- what is told of a packet that is sent is true: its frame, and the notes of its pairs
pub sending-tells : (s : GatewayAndOutput) (side : Side) (bytes : List ℕ) (flow : Flow) (flags : TcpFlags) (by : Translation) (frame : List ℕ)
    → IsSentBy (known_of s.shown) (at_hand side bytes) by (let x : Sent = record { side = exit_by by; bytes = frame } in x) → is_own_frame s.shown.networks (exit_by by) frame ≡ false → is_translation (exit_by by) frame ≡ true → AllTranslate s.shown.ledger.book by
    → ServesNow s.shown.ledger.book by → Told (at_hand side bytes ∷ []) s (carried_all (framed s (exit_by by) frame) flow flags by)
sending-tells s side bytes flow flags by frame sent own is all serves =
    let two = carried_all (framed s (exit_by by) frame) flow flags by in
    let c = carried-leaves (framed s (exit_by by) frame) flow flags by in
    let x : Sent = record { side = exit_by by; bytes = frame } in
    let d : Sending = record { packet = at_hand side bytes; by = by; sent = x } in
    let none = sent-no_error (exit_by by) frame is in
    let notes = all_notes s.shown c.first c.second by in
    let nets : two.shown.networks ≡ s.shown.networks = ap (λ (k : Known). k.networks) c.known in
    record {
      all = record {
        frames = x ∷ [];
        frames_are = c.frames;
        notes = notes;
        notes_are = c.notes;
        done = d ∷ [];
        translated = subst (λ (n : Networks). translated_frames n (x ∷ []) ≡ x ∷ []) (sym nets) (rw (own, is) refl);
        used = all-used s.shown c.first c.second by all ∙ sym (append-nil (pairs_of by));
        each = (subst (λ (k : Known). IsSentBy k (at_hand side bytes) by x) (sym c.known) sent, tt);
        served = (served-now s two by c.book serves, tt);
        passed = [];
        errors = subst (λ (n : Networks). error_frames n (x ∷ []) ≡ []) (sym nets) (rw (own, none) refl);
        each_error = tt;
        served_errors = tt;
        own = [];
        own_are = subst (λ (n : Networks). own_frames n (x ∷ []) ≡ []) (sym nets) (rw own refl);
        each_own = tt;
        counted_inside = c.said.0;
        counted_outside = c.said.1.0;
        dropped = [];
        once = subst (λ (ws : List HeldPacket). IsPermutation (at_hand side bytes ∷ packets_of s.shown.kept) (at_hand side bytes ∷ packets_of ws)) (sym c.kept) (IsPermutation-refl (at_hand side bytes ∷ packets_of s.shown.kept));
      };
      roots = same-rooted s.shown.ledger.book.entries two.shown.ledger.book.entries (retaken_pairs notes) (ap (λ (b : Book). b.entries) c.book);
      steady = steady-same s two notes (ap (λ (b : Book). b.entries) c.book, (ap (λ (b : Book). b.stage) c.book, ap (λ (b : Book). b.id) c.book));
      within = within-by s.shown two.shown c.said;
      later = c.said.1.1;
    }
