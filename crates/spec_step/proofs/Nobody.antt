-- After a tick at which a gateway is apart no packet waits for a pair, and each pair of its table translates.
use Rattle.std.proofs.Common.{◌≡◌, ◌≢◌, ℕ, Bool, true, false, cond, not, List, [], ◌∷◌, Option, Some, None, Result, Ok, Err, refl, sym, ap, subst, ◌∙◌}
use Rattle.addresses.specs.declared.internet.Ip.{Ip}
use Rattle.addresses.specs.declared.ethernet.Mac.{Mac}
use Rattle.addresses.specs.declared.transport.Port.{Port}
use Rattle.nat_types.specs.declared.gateways.Side.{Side}
use Rattle.nat_types.specs.declared.notes.NoteKind.TheVariants.{Retaken}
use Rattle.nat_types.specs.declared.pairs.Endpoint.{Endpoint}
use Rattle.nat_types.specs.declared.pairs.EntryState.{EntryState}
use Rattle.nat_types.specs.declared.pairs.EntryState.TheVariants as state
use Rattle.nat_types.specs.declared.pairs.Key.{Key}
use Rattle.nat_types.specs.declared.pairs.Pair.{Pair}
use Rattle.nat_types.specs.declared.records.Record.TheVariants as record_of
use Rattle.nat_types.specs.Same.{same_key}
use Rattle.activity.specs.declared.packets.Packet.{Packet as Carried}
use Rattle.bindings.specs.declared.entries.Entry.{Entry}
use Rattle.bindings.specs.Entries.{HasDistinctKeys, entry_in, entry_of, is_pair, slot_of, translates, waits}
use Rattle.bindings.specs.Lists.{put_in}
use Rattle.bindings.proofs.Offered.{entry-slot, slot-put}
use Rattle.ipv4.specs.declared.flows.Flow.{Flow}
use Rattle.ipv4.specs.declared.packets.Size.{Size}
use Rattle.link.specs.Link.{Link, is_due_on_tick, sent_on_tick}
use Rattle.output.specs.Output.{with_datagram}
use Rattle.spec_binding.specs.declared.changes.Change.TheVariants.{Add}
use Rattle.spec_binding.specs.declared.changes.Change.TheVariants as change_of
use Rattle.spec_binding.specs.declared.changes.PortRequest.{PortRequest}
use Rattle.spec_binding.specs.declared.changes.Transition.{Transition}
use Rattle.spec_binding.specs.declared.changes.Want.{Want}
use Rattle.spec_binding.specs.declared.changes.Want.TheVariants as want
use Rattle.spec_binding.specs.Books.{Book, IsBook, is_lone, is_synced}
use Rattle.spec_binding.specs.Ledgers.{Ledger, sought_keys}
use Rattle.spec_binding.specs.Rows.{after, is_at_limit, is_full, known_wish, may_want, new_pair, new_wish, wanting_row, paired_wish, port_for, quiet, row, wish, wish_by, wish_of}
use Rattle.spec_binding.specs.WellFormed.{IsWellFormedEndpoint}
use Rattle.spec_binding.proofs.Offered.{all-translate, chosen-says, wish-keeps}
use Rattle.waiting.specs.declared.waits.Ended.TheVariants.{AllPairs}
use Rattle.waiting.specs.declared.waits.WaitsFor.TheVariants as wait
use Rattle.waiting.specs.Packets.{HeldPacket, ended_by, has_place, left_by}
use Rattle.waiting.specs.Waits.{is_for_pair}
use Rattle.packet_rules.specs.declared.networks.Direction.{Direction}
use Rattle.packet_rules.specs.declared.networks.Direction.TheVariants as way
use Rattle.packet_rules.specs.declared.reasons.Reason.{Reason}
use Rattle.packet_rules.specs.declared.translations.Translation.{Translation}
use Rattle.packet_rules.specs.declared.translations.Translation.TheVariants.{Outward, Inward, Hairpin}
use Rattle.packet_rules.specs.Flows.{source_of}
use Rattle.packet_rules.specs.Networks.{direction_of, exit_of}
use Rattle.packet_rules.specs.Steps.{and_then}
use Rattle.spec_step.specs.declared.events.Event.TheVariants.{Tick}
use Rattle.spec_step.specs.declared.plans.Plan.{Plan}
use Rattle.spec_step.specs.declared.plans.Plan.TheVariants.{Ask, AskAgain, Wait as WaitFor}
use Rattle.spec_step.specs.Apart.{WaitsForNobody}
use Rattle.spec_step.specs.Machine.{AreBytes, KeepsBytes}
use Rattle.spec_step.specs.Parts.{all_sought_done, alone_taken, by_plan, carried_by, datagram_in, gone_alone, handed_in, idle_taken, size_in, link_ticked, old_dropped, peer_told, wanted_by}
use Rattle.spec_step.specs.Shown.{GatewayAndOutput, Shown, is_apart, scene}
use Rattle.spec_step.specs.Steps.{IsStepOn}
use Rattle.spec_step.specs.Verdict.{exit_by, fits_at, hop_by, if_fits, look_for, next_by, plan_by, plan_from, plan_of, plan_on, plan_to, target_pair}
use Rattle.spec_step.proofs.Accounting.{all-sought-keep, idle-rests-from}
use Rattle.spec_step.proofs.Fitting.{fitted}
use Rattle.spec_step.proofs.Idle.{sought-at-once}
use Rattle.spec_step.proofs.Packets.{Reads, kept-filter}
use Rattle.spec_step.proofs.Passing.{IsSound}
use Rattle.spec_step.proofs.Takes.{IsUnseen, NoneForPair, takes-all}
use Rattle.spec_step.proofs.WhileApart.{all-sought-apart, apart-paired, apart-same, row-apart}
use Rattle.spec_step.proofs.Ahead.{Keeps, asking, asking-book, row-behind}

-- ---- entries that don't wait

-- no entry waits for an answer
abbrev AllSettled : List Entry → Type 0
AllSettled es = (k : Key) (x : Entry) → slot_of es k ≡ Some x → waits x.state ≡ false

put-settled : (es : List Entry) (n : Entry) → slot_of es n.pair.key ≡ None → waits n.state ≡ false → AllSettled es → AllSettled (put_in n es)
put-settled es n free still all = λ k x is. at (same_key n.pair.key k) k x (sym (slot-put n es k free) ∙ is)
  where
    at : (b : Bool) (k : Key) (x : Entry) → cond b (Some n) (slot_of es k) ≡ Some x → waits x.state ≡ false
    at true k x is = let one : n ≡ x = cc in subst (λ (y : Entry). waits y.state ≡ false) one still
    at false k x is = all k x is

abbrev RowSettled : Book → Transition → Type 0
RowSettled b r = AllSettled b.entries → AllSettled (after b r).entries

known-settled : (b : Book) (p : Pair) (s : EntryState) → RowSettled b (known_wish p s).row
known-settled b p (state.Pending true) = λ h. h
known-settled b p (state.Pending false) = λ h. h
known-settled b p state.Doomed = λ h. h
known-settled b p state.Live = λ h. h
known-settled b p (state.Closing true) = λ h. h
known-settled b p (state.Closing false) = λ h. h
known-settled b p state.Alone = λ h. h
known-settled b p state.Held = λ h. h

none-settled : (b : Book) (full : Bool) → RowSettled b (wanting_row b full)
none-settled b full = at (may_want b full)
  where
    at : (t : Bool) → RowSettled b (let r : Transition = cond t (row change_of.Want (Some record_of.Want) None) quiet in r)
    at true = λ h. h
    at false = λ h. h

new-settled : (b : Book) (full : Bool) (e : Endpoint) (o : Option Port) → port_for b e ≡ o → RowSettled b (new_wish b true full e o).row
new-settled b full e None is = none-settled b full
new-settled b full e (Some port) is = at (is_lone b.stage)
  where
    free : slot_of b.entries (new_pair e port).key ≡ None
    free = (chosen-says b e port is).free

    at : (t : Bool) → RowSettled b (let w : PortRequest = cond t (wish (want.Port port) (row (Add (entry_in state.Live (new_pair e port))) None (Some (Retaken (new_pair e port))))) (paired_wish true full (new_pair e port)) in w.row)
    at true = put-settled b.entries (entry_in state.Live (new_pair e port)) free refl
    at false = put-settled b.entries (entry_in state.Alone (new_pair e port)) free refl

-- while a gateway is apart, no wish adds an entry that waits
wish-settled : (b : Book) (full : Bool) (e : Endpoint) → RowSettled b (wish_of b true full e).row
wish-settled b full e = at (is_synced b.stage) (entry_of b.entries e)
  where
    limited : (t : Bool) → RowSettled b (let w : PortRequest = cond t (wish want.HostLimit quiet) (new_wish b true full e (port_for b e)) in w.row)
    limited true = λ h. h
    limited false = new-settled b full e (port_for b e) refl

    at : (t : Bool) (o : Option Entry) → RowSettled b (let w : PortRequest = cond t (wish_by b true full e o) (wish want.NotNow quiet) in w.row)
    at true (Some x) = known-settled b x.pair x.state
    at true None = limited (is_at_limit b e.address)
    at false o = λ h. h

-- ---- a packet that waits for its pair

to-waits : (g : Shown) (by : Translation) (hop : Ip) (o : Option Mac) (e : Endpoint) → plan_to g by hop o ≡ Ok (WaitFor e) → ⊥
to-waits g by hop (Some m) e is = absurd (cc)
to-waits g by hop None e is = at (has_place g.kept (wait.Hop (exit_by by) hop)) is
  where
    at : (b : Bool) → (let r : Result Plan Reason = cond b (Ok (Ask by hop)) (Ok (AskAgain by hop)) in r) ≡ Ok (WaitFor e) → ⊥
    at true is = absurd (cc)
    at false is = absurd (cc)

from-waits : (g : Shown) (flow : Flow) (by : Pair → Translation) (w : Want) (e : Endpoint) → plan_from g flow by w ≡ Ok (WaitFor e) → w ≡ want.Wait
from-waits g flow by (want.Port port) e is =
    let own = by (new_pair (source_of flow) port) in
    absurd (to-waits g own (hop_by g own flow) (next_by g own flow) e is)
from-waits g flow by want.Wait e is = refl
from-waits g flow by want.NoPort e is = absurd (cc)
from-waits g flow by want.NotNow e is = absurd (cc)
from-waits g flow by want.HostLimit e is = absurd (cc)

on-waits : (g : Shown) (flow : Flow) (w : Direction) (e : Endpoint) → plan_on g flow w ≡ Ok (WaitFor e) → look_for g flow ≡ want.Wait
on-waits g flow way.Outward e is = from-waits g flow Outward (look_for g flow) e is
on-waits g flow way.Inward e is = at (target_pair g flow) is
  where
    at : (r : Result Pair Reason) → and_then r (λ p. plan_by g flow (Inward p)) ≡ Ok (WaitFor e) → look_for g flow ≡ want.Wait
    at (Ok p) is = absurd (to-waits g (Inward p) (hop_by g (Inward p) flow) (next_by g (Inward p) flow) e is)
    at (Err reason) is = absurd (cc)
on-waits g flow way.Hairpin e is = at (target_pair g flow) is
  where
    at : (r : Result Pair Reason) → and_then r (λ p. plan_from g flow (λ own. Hairpin own p) (look_for g flow)) ≡ Ok (WaitFor e) → look_for g flow ≡ want.Wait
    at (Ok p) is = from-waits g flow (λ own. Hairpin own p) (look_for g flow) e is
    at (Err reason) is = absurd (cc)

plan-waits : (g : Shown) (side : Side) (flow : Flow) (size : Size) (e : Endpoint) → plan_of g side flow size ≡ Ok (WaitFor e) → look_for g flow ≡ want.Wait
plan-waits g side flow size e is = at (direction_of g.networks side flow.protocol flow.source.0 flow.destination.0) is
  where
    at : (r : Result Direction Reason) → and_then r (λ way. and_then (plan_on g flow way) (if_fits (fits_at g (exit_of way) size))) ≡ Ok (WaitFor e) → look_for g flow ≡ want.Wait
    at (Ok w) is =
        fitted (λ (r : Result Plan Reason). r ≡ Ok (WaitFor e) → look_for g flow ≡ want.Wait) (λ no. absurd (cc)) (fits_at g (exit_of w) size) (plan_on g flow w)
        (λ on. on-waits g flow w e on) is
    at (Err reason) is = absurd (cc)

known-waits : (p : Pair) (s : EntryState) → waits s ≡ false → (known_wish p s).answer ≡ want.Wait → ⊥
known-waits p (state.Pending true) still is = absurd (cc)
known-waits p (state.Pending false) still is = absurd (cc)
known-waits p state.Doomed still is = absurd (cc)
known-waits p state.Live still is = absurd (cc)
known-waits p (state.Closing true) still is = absurd (cc)
known-waits p (state.Closing false) still is = absurd (cc)
known-waits p state.Alone still is = absurd (cc)
known-waits p state.Held still is = absurd (cc)

-- where no entry waits, a gateway that is apart has no packet wait for a pair
wish-waits : (b : Book) (full : Bool) (e : Endpoint) → HasDistinctKeys b.entries → AllSettled b.entries → (wish_of b true full e).answer ≡ want.Wait → ⊥
wish-waits b full e keys all is = at (is_synced b.stage) (entry_of b.entries e) refl is
  where
    new : (o : Option Port) → (new_wish b true full e o).answer ≡ want.Wait → ⊥
    new None is = absurd (cc)
    new (Some port) is = by (is_lone b.stage) is
      where
        by : (t : Bool) → (let w : PortRequest = cond t (wish (want.Port port) (row (Add (entry_in state.Live (new_pair e port))) None (Some (Retaken (new_pair e port))))) (paired_wish true full (new_pair e port)) in w.answer) ≡ want.Wait → ⊥
        by true is = absurd (cc)
        by false is = absurd (cc)

    limited : (t : Bool) → (let w : PortRequest = cond t (wish want.HostLimit quiet) (new_wish b true full e (port_for b e)) in w.answer) ≡ want.Wait → ⊥
    limited true is = absurd (cc)
    limited false is = new (port_for b e) is

    at : (t : Bool) (o : Option Entry) → entry_of b.entries e ≡ o → (let w : PortRequest = cond t (wish_by b true full e o) (wish want.NotNow quiet) in w.answer) ≡ want.Wait → ⊥
    at true (Some x) there is = known-waits x.pair x.state (all x.pair.key x (entry-slot b.entries e x keys there)) is
    at true None there is = limited (is_at_limit b e.address) is
    at false o there is = absurd (cc)

-- ---- what holds while a gateway is apart

-- nobody waits at a gateway that is apart
record Nobody (g : Shown) : Type 0 where
  sound : IsSound g
  apart : is_apart g ≡ true
  none : NoneForPair g.kept
  settled : AllSettled g.ledger.book.entries

abbrev Still : GatewayAndOutput → GatewayAndOutput → Type 0
Still s s2 = Nobody s.shown → Nobody s2.shown

unseen-still : (s s2 : GatewayAndOutput) → IsUnseen s s2 → Still s s2
unseen-still s s2 u = λ n. record {
  sound = record { book = subst (λ (l : Ledger). IsBook l.book) (sym u.ledger) n.sound.book; kept = u.kept n.sound.kept };
  apart = apart-same s.shown s2.shown (ap (λ (l : Ledger). l.book.stage) u.ledger) (ap (λ (l : Ledger). l.book.alone) u.ledger) (ap (λ (e : Link). e.answered) u.link) u.moment ∙ n.apart;
  none = u.none n.none;
  settled = subst (λ (l : Ledger). AllSettled l.book.entries) (sym u.ledger) n.settled;
}

asking-still : Keeps (λ m. Nobody m.shown)
asking-still m paired n = record {
  sound = record { book = asking-book m.shown.ledger.book paired n.sound.book; kept = n.sound.kept };
  apart = row-apart m asking ∙ n.apart;
  none = n.none;
  settled = n.settled;
}

wanted-still : (s : GatewayAndOutput) (e : Endpoint) → IsWellFormedEndpoint e → Still s (wanted_by s e)
wanted-still s e formed = λ n.
    let g = s.shown in let b = g.ledger.book in
    let full = is_full g.link in
    let row = (wish_of b (is_apart g) full e).row in
    row-behind (λ m. Nobody m.shown) s row asking-still
    record {
      sound = record { book = wish-keeps b (is_apart g) full e n.sound.book formed; kept = n.sound.kept };
      apart = row-apart s row ∙ n.apart;
      none = n.none;
      settled = subst (λ (t : Bool). AllSettled (after b (wish_of b t full e).row).entries) (sym n.apart) (wish-settled b full e n.settled);
    }

carried-still : (s : GatewayAndOutput) (k : Key) (p : Carried) → Still s (carried_by s k p)
carried-still s k p = λ n. record { sound = record { book = n.sound.book; kept = n.sound.kept }; apart = n.apart; none = n.none; settled = n.settled }

waits-still : (s : GatewayAndOutput) (side : Side) (bytes : List ℕ) (flow : Flow) (e : Endpoint) → AreBytes bytes → IsWellFormedEndpoint (source_of flow) → plan_of s.shown side flow (size_in bytes) ≡ Ok (WaitFor e) → Still s (by_plan s side bytes flow (WaitFor e))
waits-still s side bytes flow e are formed is = λ n.
    let g = s.shown in
    let look = plan-waits g side flow (size_in bytes) e is in
    absurd (wish-waits g.ledger.book (is_full g.link) (source_of flow) n.sound.book.keys n.settled
    (subst (λ (t : Bool). (wish_of g.ledger.book t (is_full g.link) (source_of flow)).answer ≡ want.Wait) n.apart look))

-- ---- a tick

state-settled : (s : EntryState) → (is_pair s ≡ true → translates s ≡ true) → waits s ≡ false
state-settled (state.Pending true) h = refl
state-settled (state.Pending false) h = let no : false ≡ true = h refl in absurd (cc)
state-settled state.Doomed h = refl
state-settled state.Live h = refl
state-settled (state.Closing true) h = refl
state-settled (state.Closing false) h = let no : false ≡ true = h refl in absurd (cc)
state-settled state.Alone h = refl
state-settled state.Held h = refl

state-serves : (s : EntryState) → waits s ≡ false → is_pair s ≡ true → translates s ≡ true
state-serves (state.Pending true) still pair = refl
state-serves (state.Pending false) still pair = absurd (cc)
state-serves state.Doomed still pair = absurd (cc)
state-serves state.Live still pair = refl
state-serves (state.Closing true) still pair = refl
state-serves (state.Closing false) still pair = absurd (cc)
state-serves state.Alone still pair = refl
state-serves state.Held still pair = refl

-- once all that waits is marked, no entry waits
marked-settled : (s : GatewayAndOutput) → IsBook s.shown.ledger.book → is_apart s.shown ≡ true → AllSettled (all_sought_done true s (sought_keys true s.shown.ledger.book.entries)).shown.ledger.book.entries
marked-settled s book apart =
    let g = s.shown in let l = g.ledger in
    let once = sought-at-once s true (sought_keys true l.book.entries) in
    λ k x is. state-settled x.state
    (λ pair. all-translate g.moment l g.link k x book (apart-paired g apart) (ap (λ (z : GatewayAndOutput). slot_of z.shown.ledger.book.entries k) (sym once) ∙ is) pair)

none-left : (ws : List HeldPacket) → NoneForPair (left_by AllPairs ws)
none-left [] = tt
none-left (w ∷ ws) = at (is_for_pair w.wait) refl (none-left ws)
  where
    at : (b : Bool) → is_for_pair w.wait ≡ b → NoneForPair (left_by AllPairs ws) → NoneForPair (let xs : List HeldPacket = cond (not b) (w ∷ left_by AllPairs ws) (left_by AllPairs ws) in xs)
    at true is rest = rest
    at false is rest = (is, rest)

gone-nobody : Reads → (s : GatewayAndOutput) → IsSound s.shown → is_apart s.shown ≡ true → Nobody (gone_alone s).shown
gone-nobody reads s is apart =
    let keys = sought_keys true s.shown.ledger.book.entries in
    let marked = all_sought_done true s keys in
    let kept = marked-kept s keys is.kept in
    let book = all-sought-keep true s keys is.book in
    let start = scene (record marked.shown { kept = left_by AllPairs marked.shown.kept }) marked.told in
    takes-all Still (λ a b c x y n. y (x n)) unseen-still wanted-still carried-still waits-still reads start (ended_by AllPairs marked.shown.kept) (kept-filter _ marked.shown.kept kept)
    (record {
      sound = record { book = book; kept = kept-filter _ marked.shown.kept kept };
      apart = apart-same marked.shown start.shown refl refl refl refl ∙ all-sought-apart true s keys ∙ apart;
      none = none-left marked.shown.kept;
      settled = marked-settled s is.book apart;
    })
  where
    marked-kept : (s : GatewayAndOutput) (ks : List Key) → KeepsBytes s.shown → KeepsBytes (all_sought_done true s ks).shown
    marked-kept s ks k = subst (λ (z : GatewayAndOutput). KeepsBytes z.shown) (sym (sought-at-once s true ks)) k

-- the datagram at the end of a tick leaves that
ticked-nobody : (s : GatewayAndOutput) → Nobody s.shown → WaitsForNobody (link_ticked s).shown
ticked-nobody s n = at (is_due_on_tick (handed_in s.shown).link s.shown.moment)
  where
    serves : (k : Key) (x : Entry) → slot_of s.shown.ledger.book.entries k ≡ Some x → is_pair x.state ≡ true → translates x.state ≡ true
    serves k x is pair = state-serves x.state (n.settled k x is) pair

    at : (b : Bool) → WaitsForNobody (let g = handed_in s.shown in let x : GatewayAndOutput = cond b (scene (record g { link = sent_on_tick g.link g.moment }) (with_datagram s.told (datagram_in g))) (scene g s.told) in x.shown)
    at true = record { none = n.none; translate = serves }
    at false = record { none = n.none; translate = serves }

ticked-apart : (s : GatewayAndOutput) → is_apart (link_ticked s).shown ≡ is_apart s.shown
ticked-apart s = at (is_due_on_tick (handed_in s.shown).link s.shown.moment)
  where
    at : (b : Bool) → is_apart (let g = handed_in s.shown in let x : GatewayAndOutput = cond b (scene (record g { link = sent_on_tick g.link g.moment }) (with_datagram s.told (datagram_in g))) (scene g s.told) in x.shown) ≡ is_apart s.shown
    at true = refl
    at false = refl

pub apart-waits : Reads → (s : GatewayAndOutput) (now : ℕ) (s2 : GatewayAndOutput) → IsStepOn s (Tick now) s2 → IsBook s.shown.ledger.book → KeepsBytes s.shown → is_apart s2.shown ≡ true → WaitsForNobody s2.shown
apart-waits reads s now s2 step book kept apart =
    let does = step.does in
    let idle = idle_taken (old_dropped does.1) in
    let sound = (idle-rests-from s now does.0 does.1 does.2 does.3 (record { book = book; kept = kept })).sound in
    let ended : s2 ≡ link_ticked (alone_taken idle) = step.sends ∙ ap (λ (z : GatewayAndOutput). link_ticked z) does.4 in
    let there : is_apart (alone_taken idle).shown ≡ true = sym (ticked-apart (alone_taken idle)) ∙ ap (λ (z : GatewayAndOutput). is_apart z.shown) (sym ended) ∙ apart in
    subst (λ (z : GatewayAndOutput). WaitsForNobody z.shown) (sym ended) (at idle sound (is_apart idle.shown) refl there)
  where
    at : (idle : GatewayAndOutput) → IsSound idle.shown → (t : Bool) → is_apart idle.shown ≡ t → is_apart (let x : GatewayAndOutput = cond t (gone_alone idle) (peer_told idle) in x.shown) ≡ true
        → WaitsForNobody (link_ticked (let x : GatewayAndOutput = cond t (gone_alone idle) (peer_told idle) in x)).shown
    at idle sound true is there = ticked-nobody (gone_alone idle) (gone-nobody reads idle sound is)
    at idle sound false is there =
        let no : false ≡ true = sym is ∙ sym (all-sought-apart false idle (sought_keys false idle.shown.ledger.book.entries)) ∙ there in absurd (cc)

-- while nobody waits at a gateway that is apart, no packet comes to wait for a pair
pub apart-takes : (g : Shown) (side : Side) (flow : Flow) (size : Size) (e : Endpoint) → IsBook g.ledger.book → is_apart g ≡ true → WaitsForNobody g → plan_of g side flow size ≢ Ok (WaitFor e)
apart-takes g side flow size e book apart none is =
    wish-waits g.ledger.book (is_full g.link) (source_of flow) book.keys (λ k x there. state-settled x.state (λ pair. none.translate k x there pair))
    (subst (λ (t : Bool). (wish_of g.ledger.book t (is_full g.link) (source_of flow)).answer ≡ want.Wait) apart (plan-waits g side flow size e is))
