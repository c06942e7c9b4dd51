-- What a plan says of an error. Of an error that is sent: its way, its pairs, and that its next hop is known. Of one
-- whose next hop is asked for: its way, its pairs, and that no hardware address is known for that host. Of one that
-- waits for that hop: that there is a place. No error waits for a pair.
use Rattle.std.proofs.Common.{◌≡◌, ◌≢◌, Bool, true, false, cond, Option, Some, None, Result, Ok, Err, List, [], refl, sym, ap, ◌∙◌, inl}
use Rattle.std.specs.List.{AllByRecursion}
use Rattle.addresses.specs.declared.ethernet.Mac.{Mac}
use Rattle.addresses.specs.declared.internet.Ip.{Ip}
use Rattle.nat_types.specs.declared.gateways.Side.{Side}
use Rattle.nat_types.specs.declared.notes.Note.{Note}
use Rattle.nat_types.specs.declared.pairs.Endpoint.{Endpoint}
use Rattle.nat_types.specs.declared.pairs.EntryState.{EntryState}
use Rattle.nat_types.specs.declared.pairs.EntryState.TheVariants as state
use Rattle.nat_types.specs.declared.pairs.Pair.{Pair}
use Rattle.icmp.specs.declared.packets.ErrorFlow.{ErrorFlow}
use Rattle.ipv4.specs.declared.flows.Flow.{Flow}
use Rattle.ipv4.specs.declared.packets.Size.{Size}
use Rattle.bindings.specs.declared.entries.Entry.{Entry}
use Rattle.bindings.specs.Entries.{HasDistinctKeys, entry_of, slot_of, translates}
use Rattle.bindings.proofs.Offered.{entry-serves, entry-slot}
use Rattle.spec_binding.specs.Books.{IsBook, is_synced}
use Rattle.spec_binding.specs.Serving.{serving, serving_by}
use Rattle.spec_binding.specs.Uses.{IsTranslated}
use Rattle.waiting.specs.declared.waits.WaitsFor.TheVariants as wait
use Rattle.waiting.specs.Packets.{has_place}
use Rattle.packet_rules.specs.declared.networks.Direction.{Direction}
use Rattle.packet_rules.specs.declared.networks.Direction.TheVariants as way
use Rattle.packet_rules.specs.declared.reasons.Reason.{Reason}
use Rattle.packet_rules.specs.declared.translations.Translation.{Translation}
use Rattle.packet_rules.specs.declared.translations.Translation.TheVariants.{Outward, Inward, Hairpin}
use Rattle.packet_rules.specs.Errors.{AreErrorPairs, endpoint_about, error_direction}
use Rattle.packet_rules.specs.Frames.{pairs_of, way_of}
use Rattle.packet_rules.specs.Networks.{exit_of}
use Rattle.packet_rules.specs.Steps.{and_then}
use Rattle.spec_step.specs.declared.plans.Plan.{Plan}
use Rattle.spec_step.specs.declared.plans.Plan.TheVariants.{Send, Ask, AskAgain, Wait as WaitFor}
use Rattle.spec_step.specs.Others.{MayGoBy, targets}
use Rattle.spec_step.specs.Shown.{Shown}
use Rattle.spec_step.specs.Verdict.{error_by, error_hop, error_on, error_plan, exit_by, next_to, pair_at, pair_in, pair_in_of, pair_out, plan_to, fits_at, if_fits}
use Rattle.spec_step.proofs.Fitting.{fitted}
use Rattle.spec_step.proofs.Steady.{ServesNow}
use Rattle.spec_step.proofs.Translating.{IsThere, target-translates}

-- the pairs that were found for an error
abbrev pub AreErrorFound : Shown → ErrorFlow → Translation → Type 0
AreErrorFound g flow (Outward p) = pair_in_of g flow ≡ Ok p
AreErrorFound g flow (Inward p) = pair_out g flow ≡ Ok p
AreErrorFound g flow (Hairpin own other) = (pair_in_of g flow ≡ Ok own) × (pair_out g flow ≡ Ok other)

-- the way and the pairs of an error that goes on
pub record IsErrorGoing (g : Shown) (side : Side) (flow : ErrorFlow) (by : Translation) : Type 0 where
  pub way : error_direction g.networks side flow ≡ Ok (way_of by)
  pub pairs : AreErrorFound g flow by

pub record IsErrorAsked (g : Shown) (side : Side) (flow : ErrorFlow) (by : Translation) (hop : Ip) : Type 0 where
  pub goes : IsErrorGoing g side flow by
  pub hop_is : hop ≡ error_hop g by flow
  pub unknown : next_to g by flow.destination ≡ None

abbrev pub ErrorSays : Shown → Side → ErrorFlow → Result Plan Reason → Type 0
ErrorSays g side flow (Ok (Send by next)) = IsErrorGoing g side flow by × (next_to g by flow.destination ≡ Some next)
ErrorSays g side flow (Ok (Ask by hop)) = IsErrorAsked g side flow by hop × (has_place g.kept (wait.Hop (exit_by by) hop) ≡ true)
ErrorSays g side flow (Ok (AskAgain by hop)) = IsErrorAsked g side flow by hop
ErrorSays g side flow (Ok (WaitFor e)) = ⊥
ErrorSays g side flow (Err reason) = Unit {0}

module _ (g : Shown) (side : Side) (flow : ErrorFlow) where
  to-says : (by : Translation) → IsErrorGoing g side flow by → (o : Option Mac) → next_to g by flow.destination ≡ o → ErrorSays g side flow (plan_to g by (error_hop g by flow) o)
  to-says by goes (Some next) is = (goes, is)
  to-says by goes None is = at (has_place g.kept (wait.Hop (exit_by by) (error_hop g by flow))) refl
    where
      at : (b : Bool) → has_place g.kept (wait.Hop (exit_by by) (error_hop g by flow)) ≡ b → ErrorSays g side flow (let r : Result Plan Reason = cond b (Ok (Ask by (error_hop g by flow))) (Ok (AskAgain by (error_hop g by flow))) in r)
      at true place = (record { goes = goes; hop_is = refl; unknown = is }, place)
      at false place = record { goes = goes; hop_is = refl; unknown = is }

  on-says : (w : Direction) → error_direction g.networks side flow ≡ Ok w → ErrorSays g side flow (error_on g flow w)
  on-says way.Outward there = at (pair_in_of g flow) refl
    where
      at : (r : Result Pair Reason) → pair_in_of g flow ≡ r → ErrorSays g side flow (and_then r (λ p. error_by g flow (Outward p)))
      at (Ok p) found = to-says (Outward p) (record { way = there; pairs = found }) (next_to g (Outward p) flow.destination) refl
      at (Err reason) found = tt
  on-says way.Inward there = at (pair_out g flow) refl
    where
      at : (r : Result Pair Reason) → pair_out g flow ≡ r → ErrorSays g side flow (and_then r (λ p. error_by g flow (Inward p)))
      at (Ok p) found = to-says (Inward p) (record { way = there; pairs = found }) (next_to g (Inward p) flow.destination) refl
      at (Err reason) found = tt
  on-says way.Hairpin there = first (pair_out g flow) refl
    where
      second : (other : Pair) → pair_out g flow ≡ Ok other → (r : Result Pair Reason) → pair_in_of g flow ≡ r → ErrorSays g side flow (and_then r (λ own. error_by g flow (Hairpin own other)))
      second other out (Ok own) found = to-says (Hairpin own other) (record { way = there; pairs = (found, out) }) (next_to g (Hairpin own other) flow.destination) refl
      second other out (Err reason) found = tt

      first : (r : Result Pair Reason) → pair_out g flow ≡ r → ErrorSays g side flow (and_then r (λ other. and_then (pair_in_of g flow) (λ own. error_by g flow (Hairpin own other))))
      first (Ok other) out = second other out (pair_in_of g flow) refl
      first (Err reason) out = tt

  pub error-says : (size : Size) → ErrorSays g side flow (error_plan g side flow size)
  error-says size = at (error_direction g.networks side flow) refl
    where
      at : (r : Result Direction Reason) → error_direction g.networks side flow ≡ r → ErrorSays g side flow (and_then r (λ way. and_then (error_on g flow way) (if_fits (fits_at g (exit_of way) size))))
      at (Ok w) there = fitted (ErrorSays g side flow) tt (fits_at g (exit_of w) size) (error_on g flow w) (on-says w there)
      at (Err reason) there = tt

-- a plan for an error is none to wait for a pair
told-waits : (g : Shown) (side : Side) (flow : ErrorFlow) (r : Result Plan Reason) → ErrorSays g side flow r → (e : Endpoint) → r ≢ Ok (WaitFor e)
told-waits g side flow (Ok (Send by next)) says e is = absurd (cc)
told-waits g side flow (Ok (Ask by hop)) says e is = absurd (cc)
told-waits g side flow (Ok (AskAgain by hop)) says e is = absurd (cc)
told-waits g side flow (Ok (WaitFor other)) says e is = says
told-waits g side flow (Err reason) says e is = absurd (cc)

pub no-error-waits : (g : Shown) (side : Side) (flow : ErrorFlow) (size : Size) (e : Endpoint) → error_plan g side flow size ≢ Ok (WaitFor e)
no-error-waits g side flow size e = told-waits g side flow (error_plan g side flow size) (error-says g side flow size) e

-- ---- the pairs that were found are those that the rules name

-- a packet to the port from which the packet inside came
abbrev back_to : ErrorFlow → Flow
back_to flow = record {
  protocol = flow.inside.protocol;
  source = flow.source;
  source_port = flow.inside.source_port;
  destination = flow.destination;
  destination_port = flow.inside.source_port;
}

pub out-there : (g : Shown) (flow : ErrorFlow) (p : Pair) → is_synced g.ledger.book.stage ≡ true → pair_out g flow ≡ Ok p → IsThere g (back_to flow) p
out-there g flow p synced is = target-translates g (back_to flow) p synced is

in-serves : (es : List Entry) (e : Endpoint) (p : Pair) → pair_at (entry_of es e) ≡ Ok p → p.endpoint ≡ e
in-serves es e p is = at (entry_of es e) refl is
  where
    same-end : (x : Entry) → entry_of es e ≡ Some x → x.pair ≡ p → p.endpoint ≡ e
    same-end x there same = ap (λ (q : Pair). q.endpoint) (sym same) ∙ (entry-serves es e x there).1

    state-of : (x : Entry) → entry_of es e ≡ Some x → (s : EntryState) → pair_in s x.pair ≡ Ok p → p.endpoint ≡ e
    state-of x there (state.Pending true) is = let same : x.pair ≡ p = cc in same-end x there same
    state-of x there (state.Pending false) is = absurd (cc)
    state-of x there state.Doomed is = absurd (cc)
    state-of x there state.Live is = let same : x.pair ≡ p = cc in same-end x there same
    state-of x there (state.Closing true) is = let same : x.pair ≡ p = cc in same-end x there same
    state-of x there (state.Closing false) is = absurd (cc)
    state-of x there state.Alone is = let same : x.pair ≡ p = cc in same-end x there same
    state-of x there state.Held is = let same : x.pair ≡ p = cc in same-end x there same

    at : (o : Option Entry) → entry_of es e ≡ o → pair_at o ≡ Ok p → p.endpoint ≡ e
    at None there is = absurd (cc)
    at (Some x) there is = state-of x there x.state is

pub error-pairs : (g : Shown) (flow : ErrorFlow) (by : Translation) → is_synced g.ledger.book.stage ≡ true → AreErrorFound g flow by → AreErrorPairs flow by
error-pairs g flow (Outward p) synced found = in-serves g.ledger.book.entries (endpoint_about flow) p found
error-pairs g flow (Inward p) synced found = (out-there g flow p synced found).1
error-pairs g flow (Hairpin own other) synced found = ((out-there g flow other synced found.1).1, in-serves g.ledger.book.entries (endpoint_about flow) own found.0)

-- ---- an error goes by its endpoint's pair

pair-serves : (o : Option Entry) (p : Pair) → pair_at o ≡ Ok p → serving_by o ≡ Some p
pair-serves None p is = absurd (cc)
pair-serves (Some x) p is = at x.state x.pair is
  where
    at : (s : EntryState) (q : Pair) → pair_in s q ≡ Ok p → (let o : Option Pair = cond (translates s) (Some q) None in o) ≡ Some p
    at (state.Pending true) q is = let same : q ≡ p = cc in ap (λ (r : Pair). Some r) same
    at (state.Pending false) q is = absurd (cc)
    at state.Doomed q is = absurd (cc)
    at state.Live q is = let same : q ≡ p = cc in ap (λ (r : Pair). Some r) same
    at (state.Closing true) q is = let same : q ≡ p = cc in ap (λ (r : Pair). Some r) same
    at (state.Closing false) q is = absurd (cc)
    at state.Alone q is = let same : q ≡ p = cc in ap (λ (r : Pair). Some r) same
    at state.Held q is = let same : q ≡ p = cc in ap (λ (r : Pair). Some r) same

inside-serves : (g : Shown) (flow : ErrorFlow) (p : Pair) → pair_in_of g flow ≡ Ok p → serving g.ledger.book p.endpoint ≡ Some p
inside-serves g flow p is =
    ap (λ (e : Endpoint). serving g.ledger.book e) (in-serves g.ledger.book.entries (endpoint_about flow) p is)
    ∙ pair-serves (entry_of g.ledger.book.entries (endpoint_about flow)) p is

pub error-serves : (g : Shown) (flow : ErrorFlow) (by : Translation) → is_synced g.ledger.book.stage ≡ true → AreErrorFound g flow by → ServesNow g.ledger.book by
error-serves g flow (Outward p) synced found = (synced, inside-serves g flow p found)
error-serves g flow (Inward p) synced found = tt
error-serves g flow (Hairpin own other) synced found = (synced, inside-serves g flow own found.0)

-- the pair of the source port inside translates
out-may : (g : Shown) (flow : ErrorFlow) (p : Pair) (notes : List Note) → is_synced g.ledger.book.stage ≡ true → pair_out g flow ≡ Ok p → MayGoBy g notes p
out-may g flow p notes synced is =
    let t = (out-there g flow p synced is).0 in
    inl (record { entry = t.entry; found = t.found; pair = t.pair; translates = t.live })

pub error-targets : (g : Shown) (flow : ErrorFlow) (by : Translation) (notes : List Note) → is_synced g.ledger.book.stage ≡ true → AreErrorFound g flow by → AllByRecursion (MayGoBy g notes) (targets by)
error-targets g flow (Outward p) notes synced found = tt
error-targets g flow (Inward p) notes synced found = (out-may g flow p notes synced found, tt)
error-targets g flow (Hairpin own other) notes synced found = (out-may g flow other notes synced found.1, tt)

-- the pair of the destination inside translates
in-there : (es : List Entry) (e : Endpoint) (p : Pair) → HasDistinctKeys es → pair_at (entry_of es e) ≡ Ok p → IsTranslated es p
in-there es e p keys is = at (entry_of es e) refl is
  where
    made : (x : Entry) → entry_of es e ≡ Some x → x.pair ≡ p → translates x.state ≡ true → IsTranslated es p
    made x there same live = record {
      entry = x;
      found = ap (λ (q : Pair). slot_of es q.key) (sym same) ∙ entry-slot es e x keys there;
      pair = same;
      translates = live;
    }

    state-of : (x : Entry) → entry_of es e ≡ Some x → (s : EntryState) → x.state ≡ s → pair_in s x.pair ≡ Ok p → IsTranslated es p
    state-of x there (state.Pending true) st is = let same : x.pair ≡ p = cc in made x there same (ap translates st)
    state-of x there (state.Pending false) st is = absurd (cc)
    state-of x there state.Doomed st is = absurd (cc)
    state-of x there state.Live st is = let same : x.pair ≡ p = cc in made x there same (ap translates st)
    state-of x there (state.Closing true) st is = let same : x.pair ≡ p = cc in made x there same (ap translates st)
    state-of x there (state.Closing false) st is = absurd (cc)
    state-of x there state.Alone st is = let same : x.pair ≡ p = cc in made x there same (ap translates st)
    state-of x there state.Held st is = let same : x.pair ≡ p = cc in made x there same (ap translates st)

    at : (o : Option Entry) → entry_of es e ≡ o → pair_at o ≡ Ok p → IsTranslated es p
    at None there is = absurd (cc)
    at (Some x) there is = state-of x there x.state refl is

-- packets may go by all pairs of an error
pub error-may : (g : Shown) (flow : ErrorFlow) (by : Translation) → IsBook g.ledger.book → is_synced g.ledger.book.stage ≡ true → AreErrorFound g flow by → AllByRecursion (MayGoBy g []) (pairs_of by)
error-may g flow (Outward p) book synced found = (inl (in-there g.ledger.book.entries (endpoint_about flow) p book.keys found), tt)
error-may g flow (Inward p) book synced found = (out-may g flow p [] synced found, tt)
error-may g flow (Hairpin own other) book synced found =
    (inl (in-there g.ledger.book.entries (endpoint_about flow) own book.keys found.0), (out-may g flow other [] synced found.1, tt))
