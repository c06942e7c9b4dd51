-- What goes on is sent. A packet is dropped because no port is free, or because of its host's limit, exactly where a
-- port has to be chosen.
use Rattle.std.proofs.Common.{◌≡◌, ◌↔◌, ◌≤◌, ℕ, Bool, true, false, cond, Option, Some, None, Result, Ok, Err, List, is_none, nat_le, nat_lt, ◌&&◌, ◌||◌, not, refl, sym, ap, subst, ◌∙◌, arith}
use Rattle.std.proofs.lemmas.Bool.{and_parts, leb-true, ltb-false, ltb-true}
use Rattle.addresses.specs.declared.ethernet.Mac.{Mac}
use Rattle.addresses.specs.declared.internet.Ip.{Ip}
use Rattle.addresses.specs.declared.transport.Port.{Port}
use Rattle.addresses.specs.Transport.{parity_of}
use Rattle.nat_types.specs.declared.gateways.Side.{Side}
use Rattle.nat_types.specs.declared.pairs.Endpoint.{Endpoint}
use Rattle.nat_types.specs.declared.pairs.EntryState.{EntryState}
use Rattle.nat_types.specs.declared.pairs.EntryState.TheVariants.{Pending, Doomed, Live, Closing, Alone, Held}
use Rattle.nat_types.specs.declared.pairs.Pair.{Pair}
use Rattle.icmp.specs.declared.packets.ErrorFlow.{ErrorFlow}
use Rattle.ipv4.specs.declared.flows.Flow.{Flow}
use Rattle.ipv4.specs.declared.packets.Packet.{Packet as Datagram}
use Rattle.ipv4.specs.declared.packets.Size.{Size}
use Rattle.bindings.specs.declared.entries.Entry.{Entry}
use Rattle.bindings.specs.Entries.{entry_in, entry_of, held_entry_of, translates}
use Rattle.bindings.proofs.Offered.{entry-serves, entry-slot}
use Rattle.std.specs.Option.{option_or}
use Rattle.bindings.specs.Ports.{in_bounds, in_either, is_free_in, is_open_in, highest_of, lowest_of}
use Rattle.bindings.specs.declared.entries.PortBounds.{PortBounds}
use Rattle.port_range.proofs.Offered.{Between, chosen-none}
use Rattle.nat_types.specs.declared.notes.NoteKind.TheVariants.{Retaken}
use Rattle.spec_binding.specs.declared.changes.Change.TheVariants.{Add}
use Rattle.spec_binding.specs.declared.changes.Transition.{Transition}
use Rattle.spec_binding.specs.declared.changes.PortRequest.{PortRequest}
use Rattle.spec_binding.specs.declared.changes.Want as want
use Rattle.spec_binding.specs.declared.changes.Want.{Want}
use Rattle.spec_binding.specs.declared.setups.Choice.{Choice as PortChoice}
use Rattle.spec_binding.specs.declared.setups.Choice.TheVariants.{Drawn, Lowest}
use Rattle.spec_binding.specs.Books.{Book, IsBook, is_lone, is_synced, owns}
use Rattle.spec_binding.specs.Rows.{is_at_limit, is_full, known_wish, new_pair, new_wish, paired_wish, port_by, port_for, quiet, row, unknown_wish, wish, wish_by, wish_of}
use Rattle.spec_binding.proofs.Offered.{drawn-busy, chosen-says}
use Rattle.waiting.specs.declared.waits.WaitsFor as wait
use Rattle.waiting.specs.Packets.{has_place}
use Rattle.packet_rules.specs.declared.networks.Direction.{Direction}
use Rattle.packet_rules.specs.declared.networks.Direction.TheVariants as way
use Rattle.packet_rules.specs.declared.readings.Asked.{Asked as Echo}
use Rattle.packet_rules.specs.declared.readings.Reading.{Reading}
use Rattle.packet_rules.specs.declared.readings.Reading.TheVariants.{Arp, Advert, Packet, Error, Asked}
use Rattle.packet_rules.specs.declared.reasons.Reason.{Reason}
use Rattle.packet_rules.specs.declared.reasons.Reason.TheVariants as why
use Rattle.packet_rules.specs.declared.translations.Translation.{Translation}
use Rattle.packet_rules.specs.declared.translations.Translation.TheVariants.{Outward, Inward, Hairpin}
use Rattle.packet_rules.specs.Errors.{error_direction}
use Rattle.packet_rules.specs.Flows.{source_of}
use Rattle.packet_rules.specs.Frames.{way_of}
use Rattle.packet_rules.specs.Networks.{direction_of, exit_of, may_answer}
use Rattle.packet_rules.specs.Steps.{and_then}
use Rattle.interfaces.specs.Stations.{is_active}
use Rattle.interfaces.specs.Tallies.{may_reply}
use Rattle.spec_step.specs.declared.events.Outcome.TheVariants.{Sent, Dropped}
use Rattle.spec_step.specs.declared.plans.Plan.{Plan}
use Rattle.spec_step.specs.declared.plans.Plan.TheVariants.{Send, Ask, AskAgain, Wait}
use Rattle.spec_step.specs.declared.plans.Reply.{Reply}
use Rattle.spec_step.specs.declared.plans.Reply.TheVariants as reply
use Rattle.spec_step.specs.GoingOn.{BeginsBy, GoesByOwn, HasAllPairs, HasNoPort, HaveErrorPairs, HavePairs, IsOwnWhereTwo, MayBegin, MayGoOn, MayPassOn, NeedsPair, NeedsPort, Translates}
use Rattle.spec_step.specs.Shown.{Shown, is_apart, is_up, station_on}
use Rattle.spec_step.specs.Verdict.{error_by, error_on, error_plan, exit_by, fits_at, hop_back, hop_to, if_fits, if_reply_fits, look_for, next_back, next_by, next_to, outcome_by, outcome_read, outcome_reply, pair_at, pair_in, pair_in_of, pair_out, plan_by, plan_from, plan_of, plan_on, plan_to, plan_via, reading_on, reply_to, reply_via, target_pair, verdict}
use Rattle.spec_step.proofs.Sends.{AreFound, IsOwn, plan-sends}
use Rattle.spec_step.proofs.Translating.{pair-is}
use Rattle.spec_step.proofs.Reasons.{IsEarly, direction-early, error-direction-early, is_of_plan, reading-early, reads-up}

-- ---- pairs that are found

pair-in : (state : EntryState) (p : Pair) → translates state ≡ true → pair_in state p ≡ Ok p
pair-in (Pending true) p is = refl
pair-in (Pending false) p is = absurd (cc)
pair-in Doomed p is = absurd (cc)
pair-in Live p is = refl
pair-in (Closing true) p is = refl
pair-in (Closing false) p is = absurd (cc)
pair-in Alone p is = refl
pair-in Held p is = refl

pair-found : (o : Option Entry) (p : Pair) → Translates o p → pair_at o ≡ Ok p
pair-found o p t = ap pair_at t.is ∙ pair-in t.entry.state t.entry.pair t.translating ∙ ap Ok t.pair

wish-known : (state : EntryState) (p : Pair) → translates state ≡ true → (known_wish p state).answer ≡ want.TheVariants.Port p.key.port
wish-known (Pending true) p is = refl
wish-known (Pending false) p is = absurd (cc)
wish-known Doomed p is = absurd (cc)
wish-known Live p is = refl
wish-known (Closing true) p is = refl
wish-known (Closing false) p is = absurd (cc)
wish-known Alone p is = refl
wish-known Held p is = refl

-- a synced gateway answers an endpoint's wish by the entry of the endpoint
look-synced : (g : Shown) (flow : Flow) → is_synced g.ledger.book.stage ≡ true
    → look_for g flow ≡ (wish_by g.ledger.book (is_apart g) (is_full g.link) (source_of flow) (entry_of g.ledger.book.entries (source_of flow))).answer
look-synced g flow synced =
    let b = g.ledger.book in let e = source_of flow in
    ap (λ (t : Bool). (let r : PortRequest = cond t (wish_by b (is_apart g) (is_full g.link) e (entry_of b.entries e)) (wish want.TheVariants.NotNow quiet) in r).answer) synced

look-found : (g : Shown) (flow : Flow) (p : Pair) → is_synced g.ledger.book.stage ≡ true → Translates (entry_of g.ledger.book.entries (source_of flow)) p → look_for g flow ≡ want.TheVariants.Port p.key.port
look-found g flow p synced t =
    look-synced g flow synced
    ∙ ap (λ (o : Option Entry). (wish_by g.ledger.book (is_apart g) (is_full g.link) (source_of flow) o).answer) t.is
    ∙ wish-known t.entry.state t.entry.pair t.translating
    ∙ ap (λ (q : Pair). want.TheVariants.Port q.key.port) t.pair

-- ---- a packet

-- the translation by which a packet is planned, which has the same next hop
record Planned (g : Shown) (flow : Flow) (by : Translation) : Type 0 where
  taken : Translation
  plan : plan_on g flow (way_of by) ≡ plan_by g flow taken
  next : next_by g taken flow ≡ next_by g by flow

planned : (g : Shown) (flow : Flow) (by : Translation) → is_synced g.ledger.book.stage ≡ true → HavePairs g flow by → Planned g flow by
planned g flow (Outward p) synced pairs = record {
  taken = Outward (new_pair (source_of flow) p.key.port);
  plan = ap (λ (w : Want). plan_from g flow Outward w) (look-found g flow p synced pairs);
  next = refl;
}
planned g flow (Inward p) synced pairs = record {
  taken = Inward p;
  plan = ap (λ (r : Result Pair Reason). and_then r (λ q. plan_by g flow (Inward q))) (pair-found _ p pairs);
  next = refl;
}
planned g flow (Hairpin own other) synced pairs = record {
  taken = Hairpin (new_pair (source_of flow) own.key.port) other;
  plan =
      ap (λ (r : Result Pair Reason). and_then r (λ q. plan_from g flow (λ mine. Hairpin mine q) (look_for g flow))) (pair-found _ other pairs.1)
      ∙ ap (λ (w : Want). plan_from g flow (λ mine. Hairpin mine other) w) (look-found g flow own synced pairs.0);
  next = refl;
}

-- a packet to a known hop, which fits, is sent
hop-sends : (g : Shown) (by : Translation) (to : Ip) (mac : Mac) (fits : Bool) → next_to g by to ≡ Some mac → fits ≡ true → outcome_by (and_then (plan_via g by to) (if_fits fits)) ≡ Sent
hop-sends g by to mac fits next is =
    ap (λ (o : Option Mac). outcome_by (and_then (plan_to g by (hop_to g by to) o) (if_fits fits))) next
    ∙ ap (λ (b : Bool). outcome_by (if_fits b (Send by mac))) is

up-synced : (synced stopped : Bool) → (synced && not stopped) ≡ true → synced ≡ true
up-synced true stopped is = refl
up-synced false stopped is = absurd (cc)

synced-reads : (g : Shown) (side : Side) (bytes : List ℕ) (r : Reading) → reading_on g side bytes ≡ Ok r → is_synced g.ledger.book.stage ≡ true
synced-reads g side bytes r reads =
    let s = station_on g side in
    up-synced (is_synced g.ledger.book.stage) g.stopped (reads-up side s.network (is_active s) (is_up g) bytes r reads)

pub packet-sent : (g : Shown) (side : Side) (bytes : List ℕ) (by : Translation) → MayGoOn g side bytes by → verdict g side bytes ≡ Sent
packet-sent g side bytes by may =
    let flow = may.packet.flow in
    let size = may.packet.size in
    let fits = fits_at g (exit_by by) size in
    let p = planned g flow by (synced-reads g side bytes (Packet may.packet) may.reads) may.pairs in
    ap (λ (r : Result Reading Reason). outcome_read g side r) may.reads
    ∙ ap (λ (r : Result Direction Reason). outcome_by (and_then r (λ x. and_then (plan_on g flow x) (if_fits (fits_at g (exit_of x) size))))) may.way
    ∙ ap (λ (r : Result Plan Reason). outcome_by (and_then r (if_fits fits))) p.plan
    ∙ hop-sends g p.taken flow.destination may.hop fits (p.next ∙ may.next) may.fits

-- ---- a packet that begins a pair, at a gateway that is apart

begun-answer : (b : Book) (e : Endpoint) (full : Bool) (port : Port) → (new_wish b true full e (Some port)).answer ≡ want.TheVariants.Port port
begun-answer b e full port = at (is_lone b.stage)
  where
    at : (lone : Bool) → (let r : PortRequest = cond lone (wish (want.TheVariants.Port port) (row (Add (entry_in Live (new_pair e port))) None (Some (Retaken (new_pair e port))))) (paired_wish true full (new_pair e port)) in r).answer ≡ want.TheVariants.Port port
    at true = refl
    at false = refl

look-begun : (g : Shown) (flow : Flow) (port : Port) → is_synced g.ledger.book.stage ≡ true → is_apart g ≡ true
    → entry_of g.ledger.book.entries (source_of flow) ≡ None → is_at_limit g.ledger.book flow.source ≡ false
    → port_for g.ledger.book (source_of flow) ≡ Some port → look_for g flow ≡ want.TheVariants.Port port
look-begun g flow port synced apart none below free =
    let b = g.ledger.book in let e = source_of flow in let full = is_full g.link in
    look-synced g flow synced
    ∙ ap (λ (o : Option Entry). (wish_by b (is_apart g) full e o).answer) none
    ∙ ap (λ (t : Bool). (let r : PortRequest = cond t (wish want.TheVariants.HostLimit quiet) (new_wish b (is_apart g) full e (port_for b e)) in r).answer) below
    ∙ ap (λ (o : Option Port). (new_wish b (is_apart g) full e o).answer) free
    ∙ ap (λ (t : Bool). (new_wish b t full e (Some port)).answer) apart
    ∙ begun-answer b e full port

begun-plan : (g : Shown) (flow : Flow) (port : Port) (by : Translation) → BeginsBy g flow port by → look_for g flow ≡ want.TheVariants.Port port
    → plan_on g flow (way_of by) ≡ plan_by g flow by
begun-plan g flow port (Outward p) begins look =
    ap (λ (w : Want). plan_from g flow Outward w) look
    ∙ ap (λ (q : Pair). plan_by g flow (Outward q)) (sym begins)
begun-plan g flow port (Inward p) begins look = absurd begins
begun-plan g flow port (Hairpin own other) begins look =
    ap (λ (r : Result Pair Reason). and_then r (λ q. plan_from g flow (λ mine. Hairpin mine q) (look_for g flow))) begins.1
    ∙ ap (λ (w : Want). plan_from g flow (λ mine. Hairpin mine other) w) look
    ∙ ap (λ (q : Pair). plan_by g flow (Hairpin q other)) (sym begins.0)

pub begun-sent : (g : Shown) (side : Side) (bytes : List ℕ) → is_apart g ≡ true → MayBegin g side bytes → verdict g side bytes ≡ Sent
begun-sent g side bytes apart may =
    let flow = may.packet.flow in
    let size = may.packet.size in
    let by = may.by in
    let fits = fits_at g (exit_by by) size in
    let synced = synced-reads g side bytes (Packet may.packet) may.reads in
    let look = look-begun g flow may.port synced apart may.none may.below may.free in
    ap (λ (r : Result Reading Reason). outcome_read g side r) may.reads
    ∙ ap (λ (r : Result Direction Reason). outcome_by (and_then r (λ x. and_then (plan_on g flow x) (if_fits (fits_at g (exit_of x) size))))) may.way
    ∙ ap (λ (r : Result Plan Reason). outcome_by (and_then r (if_fits fits))) (begun-plan g flow may.port by may.begins look)
    ∙ hop-sends g by flow.destination may.hop fits may.next may.fits

-- ---- an error

error-planned : (g : Shown) (flow : ErrorFlow) (by : Translation) → HaveErrorPairs g flow by → error_on g flow (way_of by) ≡ error_by g flow by
error-planned g flow (Outward p) pairs = ap (λ (r : Result Pair Reason). and_then r (λ q. error_by g flow (Outward q))) (pair-found _ p pairs)
error-planned g flow (Inward p) pairs = ap (λ (r : Result Pair Reason). and_then r (λ q. error_by g flow (Inward q))) (pair-found _ p pairs)
error-planned g flow (Hairpin own other) pairs =
    ap (λ (r : Result Pair Reason). and_then r (λ q. and_then (pair_in_of g flow) (λ mine. error_by g flow (Hairpin mine q)))) (pair-found _ other pairs.1)
    ∙ ap (λ (r : Result Pair Reason). and_then r (λ mine. error_by g flow (Hairpin mine other))) (pair-found _ own pairs.0)

pub error-sent : (g : Shown) (side : Side) (bytes : List ℕ) (by : Translation) → MayPassOn g side bytes by → verdict g side bytes ≡ Sent
error-sent g side bytes by may =
    let flow = may.packet.flow in
    let size = may.packet.size in
    let fits = fits_at g (exit_by by) size in
    ap (λ (r : Result Reading Reason). outcome_read g side r) may.reads
    ∙ ap (λ (r : Result Direction Reason). outcome_by (and_then r (λ x. and_then (error_on g flow x) (if_fits (fits_at g (exit_of x) size))))) may.way
    ∙ ap (λ (r : Result Plan Reason). outcome_by (and_then r (if_fits fits))) (error-planned g flow by may.pairs)
    ∙ hop-sends g by flow.destination may.hop fits may.next may.fits

-- ---- which reasons a plan has

-- whether a reason is one of choosing a port: no port is free, or the host has all the pairs that it may have
abbrev is_of_choice : Reason → Bool
is_of_choice why.ShortFrame = false
is_of_choice why.NotMine = false
is_of_choice why.BadHeader = false
is_of_choice why.BadLength = false
is_of_choice why.BadHeaderSum = false
is_of_choice why.Fragment = false
is_of_choice why.TtlOver = false
is_of_choice why.NotUdpTcp = false
is_of_choice why.BadTransport = false
is_of_choice why.BadArp = false
is_of_choice why.BadAdvert = false
is_of_choice why.NotUp = false
is_of_choice why.NoBinding = false
is_of_choice why.NoPort = true
is_of_choice why.CannotWait = false
is_of_choice why.BadDatagram = false
is_of_choice why.OldWord = false
is_of_choice why.HostLimit = true
is_of_choice why.TooLong = false
is_of_choice why.TooMany = false
is_of_choice why.SourceRoute = false

-- the result isn't refused for one of these two reasons
abbrev IsFine : {X : Type 0} → Result X Reason → Type 0
IsFine (Ok x) = Unit {0}
IsFine (Err reason) = is_of_choice reason ≡ false

-- the next step of a result that is fine is fine, where it is fine from each value
then-fine : {X Y : Type 0} (r : Result X Reason) (next : X → Result Y Reason) → IsFine r → ((x : X) → IsFine (next x)) → IsFine (and_then r next)
then-fine (Ok x) next fine each = each x
then-fine (Err reason) next fine each = fine

-- a reason that a plan has not alone is none of choosing a port
early-is : (reason : Reason) → is_of_plan reason ≡ false → is_of_choice reason ≡ false
early-is why.ShortFrame early = refl
early-is why.NotMine early = refl
early-is why.BadHeader early = refl
early-is why.BadLength early = refl
early-is why.BadHeaderSum early = refl
early-is why.Fragment early = refl
early-is why.TtlOver early = refl
early-is why.NotUdpTcp early = refl
early-is why.BadTransport early = refl
early-is why.BadArp early = refl
early-is why.BadAdvert early = refl
early-is why.NotUp early = refl
early-is why.NoBinding early = refl
early-is why.NoPort early = absurd (cc)
early-is why.CannotWait early = refl
early-is why.BadDatagram early = refl
early-is why.OldWord early = refl
early-is why.HostLimit early = absurd (cc)
early-is why.TooLong early = refl
early-is why.TooMany early = refl
early-is why.SourceRoute early = refl

early-fine : {X : Type 0} (r : Result X Reason) → IsEarly r → IsFine r
early-fine (Ok x) early = tt
early-fine (Err reason) early = early-is reason early

clash : {X : Type 0} (x : Result X Reason) (r : Reason) → IsFine x → x ≡ Err r → is_of_choice r ≡ true → ⊥
clash (Ok y) r fine is choice = absurd (cc)
clash (Err reason) r fine is choice =
    let same : reason ≡ r = cc in
    let no : false ≡ true = sym fine ∙ ap is_of_choice same ∙ choice in absurd (cc)

hop-fine : (g : Shown) (by : Translation) (hop : Ip) (o : Option Mac) → IsFine (plan_to g by hop o)
hop-fine g by hop (Some mac) = tt
hop-fine g by hop None = at (has_place g.kept (wait.TheVariants.Hop (exit_by by) hop))
  where
    at : (b : Bool) → IsFine (let r : Result Plan Reason = cond b (Ok (Ask by hop)) (Ok (AskAgain by hop)) in r)
    at true = tt
    at false = tt

via-fine : (g : Shown) (by : Translation) (to : Ip) → IsFine (plan_via g by to)
via-fine g by to = hop-fine g by (hop_to g by to) (next_to g by to)

in-fine : (state : EntryState) (p : Pair) → IsFine (pair_in state p)
in-fine (Pending true) p = tt
in-fine (Pending false) p = refl
in-fine Doomed p = refl
in-fine Live p = tt
in-fine (Closing true) p = tt
in-fine (Closing false) p = refl
in-fine Alone p = tt
in-fine Held p = tt

pair-fine : (o : Option Entry) → IsFine (pair_at o)
pair-fine None = refl
pair-fine (Some x) = in-fine x.state x.pair

fits-fine : (fits : Bool) (plan : Plan) → IsFine (if_fits fits plan)
fits-fine true (Send by next) = tt
fits-fine false (Send by next) = refl
fits-fine true (Ask by hop) = tt
fits-fine false (Ask by hop) = refl
fits-fine fits (AskAgain by hop) = tt
fits-fine true (Wait endpoint) = tt
fits-fine false (Wait endpoint) = refl

error-plan-fine : (g : Shown) (side : Side) (flow : ErrorFlow) (size : Size) → IsFine (error_plan g side flow size)
error-plan-fine g side flow size =
    then-fine (error_direction g.networks side flow) _ (early-fine _ (error-direction-early g.networks side flow))
    (λ x. then-fine (error_on g flow x) _ (on x) (λ plan. fits-fine (fits_at g (exit_of x) size) plan))
  where
    on : (x : Direction) → IsFine (error_on g flow x)
    on way.Outward = then-fine (pair_in_of g flow) _ (pair-fine _) (λ p. via-fine g (Outward p) flow.destination)
    on way.Inward = then-fine (pair_out g flow) _ (pair-fine _) (λ p. via-fine g (Inward p) flow.destination)
    on way.Hairpin = then-fine (pair_out g flow) _ (pair-fine _) (λ other. then-fine (pair_in_of g flow) _ (pair-fine _) (λ own. via-fine g (Hairpin own other) flow.destination))

reply-place-fine : (hop : Ip) (b : Bool) → IsFine (let r : Result Reply Reason = cond b (Ok (reply.Ask hop)) (Ok (reply.AskAgain hop)) in r)
reply-place-fine hop true = tt
reply-place-fine hop false = tt

reply-via-fine : (g : Shown) (side : Side) (hop : Ip) (o : Option Mac) → IsFine (reply_via g side hop o)
reply-via-fine g side hop (Some mac) = tt
reply-via-fine g side hop None = reply-place-fine hop (has_place g.kept (wait.TheVariants.Hop side hop))

reply-fits-fine : (fits : Bool) (plan : Reply) → IsFine (if_reply_fits fits plan)
reply-fits-fine true (reply.Send next) = tt
reply-fits-fine false (reply.Send next) = refl
reply-fits-fine true (reply.Ask hop) = tt
reply-fits-fine false (reply.Ask hop) = refl
reply-fits-fine fits (reply.AskAgain hop) = tt

reply-fine : (g : Shown) (side : Side) (echo : Echo) → IsFine (reply_to g side echo)
reply-fine g side echo = at (may_answer g.networks side echo.source.0) (may_reply g.moment (station_on g side).said)
  where
    at : (answers replies : Bool) → IsFine (let r : Result Reply Reason = cond answers (cond replies (and_then (reply_via g side (hop_back g side echo.source) (next_back g side echo.source)) (if_reply_fits (fits_at g side echo.size))) (Err why.TooMany)) (Err why.NoBinding) in r)
    at true true = then-fine (reply_via g side (hop_back g side echo.source) (next_back g side echo.source)) _ (reply-via-fine g side (hop_back g side echo.source) (next_back g side echo.source)) (λ plan. reply-fits-fine (fits_at g side echo.size) plan)
    at true false = refl
    at false replies = refl

-- ---- a packet that is refused because no port is free, or because of the limit

-- the reason for which the answer to a wish refuses a packet, if it does
abbrev refused_want : Want → Option Reason
refused_want (want.TheVariants.Port port) = None
refused_want want.TheVariants.Wait = None
refused_want want.TheVariants.NoPort = Some why.NoPort
refused_want want.TheVariants.HostLimit = Some why.HostLimit
refused_want want.TheVariants.NotNow = None

from-refused : (g : Shown) (flow : Flow) (by : Pair → Translation) (w : Want) (r : Reason) → is_of_choice r ≡ true → plan_from g flow by w ≡ Err r → refused_want w ≡ Some r
from-refused g flow by (want.TheVariants.Port port) r choice is = absurd (clash _ r (via-fine g (by (new_pair (source_of flow) port)) flow.destination) is choice)
from-refused g flow by want.TheVariants.Wait r choice is = absurd (at (has_place g.kept (wait.TheVariants.Pair (source_of flow))) is)
  where
    at : (b : Bool) → (let x : Result Plan Reason = cond b (Ok (Wait (source_of flow))) (Err why.CannotWait) in x) ≡ Err r → ⊥
    at true is = absurd (cc)
    at false is = clash (let x : Result Plan Reason = Err why.CannotWait in x) r refl is choice
from-refused g flow by want.TheVariants.NoPort r choice is = let same : why.NoPort ≡ r = cc in ap Some same
from-refused g flow by want.TheVariants.HostLimit r choice is = let same : why.HostLimit ≡ r = cc in ap Some same
from-refused g flow by want.TheVariants.NotNow r choice is = absurd (clash (let x : Result Plan Reason = Err why.CannotWait in x) r refl is choice)

-- a port has to be chosen for the packet, and the answer refuses it for this reason
record Refused (g : Shown) (flow : Flow) (x : Direction) (r : Reason) : Type 0 where
  needs : NeedsPair g flow x
  look : refused_want (look_for g flow) ≡ Some r

on-refused : (g : Shown) (flow : Flow) (x : Direction) (r : Reason) → is_of_choice r ≡ true → plan_on g flow x ≡ Err r → Refused g flow x r
on-refused g flow way.Outward r choice is = record { needs = tt; look = from-refused g flow Outward (look_for g flow) r choice is }
on-refused g flow way.Inward r choice is =
    absurd (clash (plan_on g flow way.Inward) r (then-fine (target_pair g flow) (λ p. plan_by g flow (Inward p)) (pair-fine _) (λ p. via-fine g (Inward p) flow.destination)) is choice)
on-refused g flow way.Hairpin r choice is = at (target_pair g flow) refl is
  where
    at : (o : Result Pair Reason) → target_pair g flow ≡ o → and_then o (λ p. plan_from g flow (λ own. Hairpin own p) (look_for g flow)) ≡ Err r → Refused g flow way.Hairpin r
    at (Ok p) there plan = record { needs = (p, there); look = from-refused g flow (λ own. Hairpin own p) (look_for g flow) r choice plan }
    at (Err reason) there plan =
        let fine : is_of_choice reason ≡ false = subst (λ (o : Result Pair Reason). IsFine o) there (pair-fine _) in
        absurd (clash (let y : Result Plan Reason = Err reason in y) r fine plan choice)

-- the packet of a frame is refused so
record FrameRefused (g : Shown) (side : Side) (bytes : List ℕ) (r : Reason) : Type 0 where
  packet : Datagram
  reads : reading_on g side bytes ≡ Ok (Packet packet)
  path : Direction
  goes : direction_of g.networks side packet.flow.protocol packet.flow.source.0 packet.flow.destination.0 ≡ Ok path
  refused : Refused g packet.flow path r

fitted-refused : (g : Shown) (flow : Flow) (x : Direction) (fits : Bool) (r : Reason) → is_of_choice r ≡ true → and_then (plan_on g flow x) (if_fits fits) ≡ Err r → Refused g flow x r
fitted-refused g flow x fits r choice is = at (plan_on g flow x) refl is
  where
    at : (o : Result Plan Reason) → plan_on g flow x ≡ o → and_then o (if_fits fits) ≡ Err r → Refused g flow x r
    at (Ok plan) there fitted = absurd (clash (if_fits fits plan) r (fits-fine fits plan) fitted choice)
    at (Err reason) there fitted = on-refused g flow x r choice (there ∙ fitted)

packet-refused : (g : Shown) (side : Side) (bytes : List ℕ) (packet : Datagram) (r : Reason) → is_of_choice r ≡ true → reading_on g side bytes ≡ Ok (Packet packet) → plan_of g side packet.flow packet.size ≡ Err r → FrameRefused g side bytes r
packet-refused g side bytes packet r choice reads is = at (direction_of g.networks side flow.protocol flow.source.0 flow.destination.0) refl (early-fine _ (direction-early g.networks side flow.protocol flow.source.0 flow.destination.0)) is
  where
    flow : Flow
    flow = packet.flow

    at : (o : Result Direction Reason) → direction_of g.networks side packet.flow.protocol packet.flow.source.0 packet.flow.destination.0 ≡ o → IsFine o
        → and_then o (λ x. and_then (plan_on g packet.flow x) (if_fits (fits_at g (exit_of x) packet.size))) ≡ Err r → FrameRefused g side bytes r
    at (Ok x) goes fine plan = record { packet = packet; reads = reads; path = x; goes = goes; refused = fitted-refused g packet.flow x (fits_at g (exit_of x) packet.size) r choice plan }
    at (Err reason) goes fine plan = absurd (clash (let y : Result Plan Reason = Err reason in y) r fine plan choice)

outcome-refused : (p : Result Plan Reason) (r : Reason) → is_of_choice r ≡ true → outcome_by p ≡ Dropped r → p ≡ Err r
outcome-refused (Ok (Send by next)) r choice is = absurd (cc)
outcome-refused (Ok (Ask by hop)) r choice is = absurd (cc)
outcome-refused (Ok (AskAgain by hop)) r choice is =
    let same : why.CannotWait ≡ r = cc in
    let no : false ≡ true = ap is_of_choice same ∙ choice in absurd (cc)
outcome-refused (Ok (Wait endpoint)) r choice is = absurd (cc)
outcome-refused (Err reason) r choice is = let same : reason ≡ r = cc in ap Err same

reply-refused : (p : Result Reply Reason) (r : Reason) → is_of_choice r ≡ true → outcome_reply p ≡ Dropped r → p ≡ Err r
reply-refused (Ok (reply.Send next)) r choice is = absurd (cc)
reply-refused (Ok (reply.Ask hop)) r choice is = absurd (cc)
reply-refused (Ok (reply.AskAgain hop)) r choice is =
    let same : why.CannotWait ≡ r = cc in
    let no : false ≡ true = ap is_of_choice same ∙ choice in absurd (cc)
reply-refused (Err reason) r choice is = let same : reason ≡ r = cc in ap Err same

frame-refused : (g : Shown) (side : Side) (bytes : List ℕ) (r : Reason) → is_of_choice r ≡ true → verdict g side bytes ≡ Dropped r → FrameRefused g side bytes r
frame-refused g side bytes r choice is = at (reading_on g side bytes) refl is
  where
    fine : IsFine (reading_on g side bytes)
    fine = early-fine _ (reading-early side (station_on g side).network (is_active (station_on g side)) (is_up g) bytes)

    at : (o : Result Reading Reason) → reading_on g side bytes ≡ o → outcome_read g side o ≡ Dropped r → FrameRefused g side bytes r
    at (Ok (Arp p)) reads out = absurd (cc)
    at (Ok (Advert a from)) reads out = absurd (cc)
    at (Ok (Packet packet)) reads out = packet-refused g side bytes packet r choice reads (outcome-refused (plan_of g side packet.flow packet.size) r choice out)
    at (Ok (Error packet)) reads out = absurd (clash _ r (error-plan-fine g side packet.flow packet.size) (outcome-refused (error_plan g side packet.flow packet.size) r choice out) choice)
    at (Ok (Asked echo)) reads out = absurd (clash _ r (reply-fine g side echo) (reply-refused (reply_to g side echo) r choice out) choice)
    at (Err reason) reads out =
        let same : reason ≡ r = cc in
        let own : is_of_choice reason ≡ false = subst (λ (o : Result Reading Reason). IsFine o) reads fine in
        let no : false ≡ true = sym own ∙ ap is_of_choice same ∙ choice in absurd (cc)

-- ---- what the book says where a packet is refused

data Choice (b : Book) (e : Endpoint) (r : Reason) : Type 0 where
  limited : is_at_limit b e.address ≡ true → why.HostLimit ≡ r → Choice b e r
  without : is_at_limit b e.address ≡ false → port_for b e ≡ None → why.NoPort ≡ r → Choice b e r

record Unknown (b : Book) (e : Endpoint) (r : Reason) : Type 0 where
  none : entry_of b.entries e ≡ None
  choice : Choice b e r

known-refused : (state : EntryState) (p : Pair) (r : Reason) → refused_want (known_wish p state).answer ≡ Some r → ⊥
known-refused (Pending true) p r is = absurd (cc)
known-refused (Pending false) p r is = absurd (cc)
known-refused Doomed p r is = absurd (cc)
known-refused Live p r is = absurd (cc)
known-refused (Closing true) p r is = absurd (cc)
known-refused (Closing false) p r is = absurd (cc)
known-refused Alone p r is = absurd (cc)
known-refused Held p r is = absurd (cc)

paired-refused : (apart full : Bool) (p : Pair) (r : Reason) → refused_want (paired_wish apart full p).answer ≡ Some r → ⊥
paired-refused true full p r is = absurd (cc)
paired-refused false true p r is = absurd (cc)
paired-refused false false p r is = absurd (cc)

new-refused : (b : Book) (apart full : Bool) (e : Endpoint) (r : Reason) (o : Option Port) → refused_want (new_wish b apart full e o).answer ≡ Some r → (o ≡ None) × (why.NoPort ≡ r)
new-refused b apart full e r None is = (refl, cc)
new-refused b apart full e r (Some port) is = absurd (at (is_lone b.stage) (row (Add (entry_in Live (new_pair e port))) None (Some (Retaken (new_pair e port)))) is)
  where
    at : (lone : Bool) (one : Transition) → refused_want (let x : PortRequest = cond lone (wish (want.TheVariants.Port port) one) (paired_wish apart full (new_pair e port)) in x).answer ≡ Some r → ⊥
    at true one is = absurd (cc)
    at false one is = paired-refused apart full (new_pair e port) r is

unknown-refused : (b : Book) (apart full : Bool) (e : Endpoint) (r : Reason) → refused_want (unknown_wish b apart full e).answer ≡ Some r → Choice b e r
unknown-refused b apart full e r is = at (is_at_limit b e.address) refl is
  where
    at : (t : Bool) → is_at_limit b e.address ≡ t → refused_want (let x : PortRequest = cond t (wish want.TheVariants.HostLimit quiet) (new_wish b apart full e (port_for b e)) in x).answer ≡ Some r → Choice b e r
    at true there is = limited there cc
    at false there is = let new = new-refused b apart full e r (port_for b e) is in without there new.0 new.1

wish-refused : (b : Book) (apart full : Bool) (e : Endpoint) (r : Reason) → refused_want (wish_of b apart full e).answer ≡ Some r → Unknown b e r
wish-refused b apart full e r is = at (is_synced b.stage) (entry_of b.entries e) refl is
  where
    at : (t : Bool) (o : Option Entry) → entry_of b.entries e ≡ o → refused_want (let x : PortRequest = cond t (wish_by b apart full e o) (wish want.TheVariants.NotNow quiet) in x).answer ≡ Some r → Unknown b e r
    at true None there is = record { none = there; choice = unknown-refused b apart full e r is }
    at true (Some x) there is = absurd (known-refused x.state x.pair r is)
    at false o there is = absurd (cc)

-- ---- owned ports

lowest-is : (zero one : PortBounds) → (lowest_of zero one ≤ zero.lowest.0) × (lowest_of zero one ≤ one.lowest.0)
lowest-is zero one = at (nat_lt zero.lowest.0 one.lowest.0) refl
  where
    at : (b : Bool) → nat_lt zero.lowest.0 one.lowest.0 ≡ b → (let n : ℕ = cond b zero.lowest.0 one.lowest.0 in (n ≤ zero.lowest.0) × (n ≤ one.lowest.0))
    at true is = let less = ltb-true zero.lowest.0 one.lowest.0 is in (omega arith, omega (arith, less))
    at false is = let more = ltb-false zero.lowest.0 one.lowest.0 is in (omega (arith, more), omega arith)

highest-is : (zero one : PortBounds) → (zero.highest.0 ≤ highest_of zero one) × (one.highest.0 ≤ highest_of zero one)
highest-is zero one = at (nat_lt zero.highest.0 one.highest.0) refl
  where
    at : (b : Bool) → nat_lt zero.highest.0 one.highest.0 ≡ b → (let n : ℕ = cond b one.highest.0 zero.highest.0 in (zero.highest.0 ≤ n) × (one.highest.0 ≤ n))
    at true is = let less = ltb-true zero.highest.0 one.highest.0 is in (omega (arith, less), omega arith)
    at false is = let more = ltb-false zero.highest.0 one.highest.0 is in (omega arith, omega (arith, more))

bounds-say : (b : PortBounds) (port : ℕ) → in_bounds b port ≡ true → (b.lowest.0 ≤ port) × (port ≤ b.highest.0)
bounds-say b port is =
    let parts = and_parts (nat_le b.lowest.0 port) (nat_le port b.highest.0) is in
    (leb-true b.lowest.0 port parts.0, leb-true port b.highest.0 parts.1)

either-says : (zero one : PortBounds) (port : ℕ) → in_either zero one port ≡ true → (lowest_of zero one ≤ port) × (port ≤ highest_of zero one)
either-says zero one port is = at (in_bounds zero port) refl is
  where
    low : (lowest_of zero one ≤ zero.lowest.0) × (lowest_of zero one ≤ one.lowest.0)
    low = lowest-is zero one

    high : (zero.highest.0 ≤ highest_of zero one) × (one.highest.0 ≤ highest_of zero one)
    high = highest-is zero one

    at : (b : Bool) → in_bounds zero port ≡ b → (b || in_bounds one port) ≡ true → (lowest_of zero one ≤ port) × (port ≤ highest_of zero one)
    at true here is = let says = bounds-say zero port here in (omega (arith, says.0, low.0), omega (arith, says.1, high.0))
    at false here is = let says = bounds-say one port is in (omega (arith, says.0, low.1), omega (arith, says.1, high.1))

-- where no port is chosen, each owned port has an entry of the protocol
none-busy : (b : Book) (e : Endpoint) → IsBook b → port_for b e ≡ None → (port : ℕ) → owns b port ≡ true → is_free_in b.entries e.protocol port ≡ false
none-busy b e is none port owned = sym (ap (λ (t : Bool). t && is_free_in b.entries e.protocol port) owned) ∙ closed b.choice none
  where
    closed : (choice : PortChoice) → port_by choice b e ≡ None → is_open_in b.entries b.owned e.protocol port ≡ false
    closed Lowest none =
        let test = is_open_in b.entries b.owned e.protocol in
        let between : Between test (lowest_of b.zero b.one) (highest_of b.zero b.one) =
        (λ q may. either-says b.zero b.one q (is.owned q (and_parts (owns b q) (is_free_in b.entries e.protocol q) may).0)) in
        chosen-none test (lowest_of b.zero b.one) (highest_of b.zero b.one) (parity_of e.port.0) between none port
    closed (Drawn key) none = drawn-busy b e key is none port

-- where each owned port has an entry of the protocol, no port is chosen
busy-none : (b : Book) (e : Endpoint) → ((port : ℕ) → owns b port ≡ true → is_free_in b.entries e.protocol port ≡ false) → port_for b e ≡ None
busy-none b e busy = at (port_for b e) refl
  where
    at : (o : Option Port) → port_for b e ≡ o → o ≡ None
    at None is = refl
    at (Some port) is =
        let says = chosen-says b e port is in
        let free : is_free_in b.entries e.protocol port.0 ≡ true = ap is_none says.free in
        let no : true ≡ false = sym free ∙ busy port.0 says.owned in absurd (cc)

-- ---- the two reasons

abbrev needs-port : (g : Shown) (side : Side) (bytes : List ℕ) (r : Reason) (is : FrameRefused g side bytes r) → entry_of g.ledger.book.entries (source_of is.packet.flow) ≡ None → NeedsPort g side bytes
needs-port g side bytes r is none = record { packet = is.packet; reads = is.reads; way = is.path; goes = is.goes; needs = is.refused.needs; none = none }

no-port-there : (g : Shown) (side : Side) (bytes : List ℕ) → IsBook g.ledger.book → verdict g side bytes ≡ Dropped why.NoPort → HasNoPort g side bytes
no-port-there g side bytes book is =
    let refused = frame-refused g side bytes why.NoPort refl is in
    let e = source_of refused.packet.flow in
    let b = g.ledger.book in
    let unknown = wish-refused b (is_apart g) (is_full g.link) e why.NoPort refused.refused.look in
    at refused unknown.none unknown.choice
  where
    at : (refused : FrameRefused g side bytes why.NoPort) → entry_of g.ledger.book.entries (source_of refused.packet.flow) ≡ None → Choice g.ledger.book (source_of refused.packet.flow) why.NoPort → HasNoPort g side bytes
    at refused none (limited there same) = absurd (cc)
    at refused none (without there port same) = record {
      chooses = needs-port g side bytes why.NoPort refused none;
      below = there;
      busy = none-busy g.ledger.book (source_of refused.packet.flow) book port;
    }

all-pairs-there : (g : Shown) (side : Side) (bytes : List ℕ) → verdict g side bytes ≡ Dropped why.HostLimit → HasAllPairs g side bytes
all-pairs-there g side bytes is =
    let refused = frame-refused g side bytes why.HostLimit refl is in
    let unknown = wish-refused g.ledger.book (is_apart g) (is_full g.link) (source_of refused.packet.flow) why.HostLimit refused.refused.look in
    at refused unknown.none unknown.choice
  where
    at : (refused : FrameRefused g side bytes why.HostLimit) → entry_of g.ledger.book.entries (source_of refused.packet.flow) ≡ None → Choice g.ledger.book (source_of refused.packet.flow) why.HostLimit → HasAllPairs g side bytes
    at refused none (limited there same) = record { chooses = needs-port g side bytes why.HostLimit refused none; reached = there }
    at refused none (without there port same) = absurd (cc)

-- a packet whose way needs a pair is refused by the answer to its wish
needs-refuses : (g : Shown) (flow : Flow) (x : Direction) (w : Want) (r : Reason) → NeedsPair g flow x → look_for g flow ≡ w → ((by : Pair → Translation) → plan_from g flow by w ≡ Err r) → plan_on g flow x ≡ Err r
needs-refuses g flow way.Outward w r needs look refuses = ap (λ (v : Want). plan_from g flow Outward v) look ∙ refuses Outward
needs-refuses g flow way.Inward w r needs look refuses = absurd needs
needs-refuses g flow way.Hairpin w r needs look refuses =
    let p = needs.0 in
    ap (λ (o : Result Pair Reason). and_then o (λ q. plan_from g flow (λ own. Hairpin own q) (look_for g flow))) needs.1
    ∙ ap (λ (v : Want). plan_from g flow (λ own. Hairpin own p) v) look ∙ refuses (λ own. Hairpin own p)

chooses-refuses : (g : Shown) (side : Side) (bytes : List ℕ) (is : NeedsPort g side bytes) (w : Want) (r : Reason) → look_for g is.packet.flow ≡ w → ((by : Pair → Translation) → plan_from g is.packet.flow by w ≡ Err r) → verdict g side bytes ≡ Dropped r
chooses-refuses g side bytes is w r look refuses =
    let flow = is.packet.flow in let size = is.packet.size in
    ap (λ (o : Result Reading Reason). outcome_read g side o) is.reads
    ∙ ap (λ (o : Result Direction Reason). outcome_by (and_then o (λ x. and_then (plan_on g flow x) (if_fits (fits_at g (exit_of x) size))))) is.goes
    ∙ ap (λ (o : Result Plan Reason). outcome_by (and_then o (if_fits (fits_at g (exit_of is.way) size)))) (needs-refuses g flow is.way w r is.needs look refuses)

-- a synced gateway answers the wish of an endpoint without a pair as unknown_wish says
look-none : (g : Shown) (side : Side) (bytes : List ℕ) (is : NeedsPort g side bytes) → look_for g is.packet.flow ≡ (unknown_wish g.ledger.book (is_apart g) (is_full g.link) (source_of is.packet.flow)).answer
look-none g side bytes is =
    look-synced g is.packet.flow (synced-reads g side bytes (Packet is.packet) is.reads)
    ∙ ap (λ (o : Option Entry). (wish_by g.ledger.book (is_apart g) (is_full g.link) (source_of is.packet.flow) o).answer) is.none

no-port-says : (g : Shown) (side : Side) (bytes : List ℕ) → HasNoPort g side bytes → verdict g side bytes ≡ Dropped why.NoPort
no-port-says g side bytes is =
    let c = is.chooses in let b = g.ledger.book in let e = source_of c.packet.flow in let apart = is_apart g in let full = is_full g.link in
    let look : look_for g c.packet.flow ≡ want.TheVariants.NoPort =
    look-none g side bytes c
    ∙ ap (λ (t : Bool). (let x : PortRequest = cond t (wish want.TheVariants.HostLimit quiet) (new_wish b apart full e (port_for b e)) in x).answer) is.below
    ∙ ap (λ (o : Option Port). (new_wish b apart full e o).answer) (busy-none b e is.busy) in
    chooses-refuses g side bytes c want.TheVariants.NoPort why.NoPort look (λ by. refl)

all-pairs-say : (g : Shown) (side : Side) (bytes : List ℕ) → HasAllPairs g side bytes → verdict g side bytes ≡ Dropped why.HostLimit
all-pairs-say g side bytes is =
    let c = is.chooses in let b = g.ledger.book in let e = source_of c.packet.flow in let apart = is_apart g in let full = is_full g.link in
    let look : look_for g c.packet.flow ≡ want.TheVariants.HostLimit =
    look-none g side bytes c
    ∙ ap (λ (t : Bool). (let x : PortRequest = cond t (wish want.TheVariants.HostLimit quiet) (new_wish b apart full e (port_for b e)) in x).answer) is.reached in
    chooses-refuses g side bytes c want.TheVariants.HostLimit why.HostLimit look (λ by. refl)

pub no-port : (g : Shown) (side : Side) (bytes : List ℕ) → IsBook g.ledger.book → (verdict g side bytes ≡ Dropped why.NoPort) ↔ HasNoPort g side bytes
no-port g side bytes book = (no-port-there g side bytes book, no-port-says g side bytes)

pub host-limit : (g : Shown) (side : Side) (bytes : List ℕ) → (verdict g side bytes ≡ Dropped why.HostLimit) ↔ HasAllPairs g side bytes
host-limit g side bytes = (all-pairs-there g side bytes, all-pairs-say g side bytes)

-- ---- of two pairs of an endpoint, the own one

known-port : (state : EntryState) (p : Pair) (port : Port) → (known_wish p state).answer ≡ want.TheVariants.Port port → p.key.port ≡ port
known-port (Pending true) p port is = cc
known-port (Pending false) p port is = absurd (cc)
known-port Doomed p port is = absurd (cc)
known-port Live p port is = cc
known-port (Closing true) p port is = cc
known-port (Closing false) p port is = absurd (cc)
known-port Alone p port is = cc
known-port Held p port is = cc

-- only a synced gateway answers an endpoint's wish with a port
port-synced : (g : Shown) (flow : Flow) (port : Port) → look_for g flow ≡ want.TheVariants.Port port → is_synced g.ledger.book.stage ≡ true
port-synced g flow port is = at (is_synced g.ledger.book.stage) is
  where
    at : (t : Bool) → (let r : PortRequest = cond t (wish_by g.ledger.book (is_apart g) (is_full g.link) (source_of flow) (entry_of g.ledger.book.entries (source_of flow))) (wish want.TheVariants.NotNow quiet) in r).answer ≡ want.TheVariants.Port port → t ≡ true
    at true is = refl
    at false is = absurd (cc)

own-first : (g : Shown) (flow : Flow) (p : Pair) → IsBook g.ledger.book → IsOwn g flow p → IsOwnWhereTwo g (source_of flow) p
own-first g flow p book own = λ x is.
    let b = g.ledger.book in let e = source_of flow in
    let there : entry_of b.entries e ≡ Some x = ap (λ (o : Option Entry). option_or o (held_entry_of b.entries e)) is in
    let look = look-synced g flow (port-synced g flow own.0 own.1.0) ∙ ap (λ (o : Option Entry). (wish_by b (is_apart g) (is_full g.link) e o).answer) there in
    let at = known-port x.state x.pair own.0 (sym look ∙ own.1.0) in
    let formed = book.formed x.pair.key x (entry-slot b.entries e x book.keys there) in
    let serving = (entry-serves b.entries e x there).1 in
    pair-is x.pair e own.0 serving (ap (λ (q : Endpoint). q.protocol) (sym serving) ∙ formed.protocol) at ∙ sym own.1.1

-- of two pairs of its source a packet that is sent goes out by the own one
pub sent-by-own : (g : Shown) (side : Side) (flow : Flow) (size : Size) (by : Translation) (next : Mac) → IsBook g.ledger.book → plan_of g side flow size ≡ Ok (Send by next) → GoesByOwn g flow by
sent-by-own g side flow size by next book is = at by (plan-sends g side flow size by next is).pairs
  where
    at : (by : Translation) → AreFound g flow by → GoesByOwn g flow by
    at (Outward p) found = own-first g flow p book found
    at (Inward p) found = tt
    at (Hairpin own other) found = own-first g flow own book found.0
