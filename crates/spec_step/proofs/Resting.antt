-- A gateway's ledger accounts for the trace after each part of a step, and each note of a part is its own: for rows,
-- packets, and packets whose wait is over.
use Rattle.std.proofs.Common.{◌≡◌, ℕ, List, [], ◌∷◌, ◌++◌, reverse, Option, Some, None, Result, Ok, Err, refl, sym, ap, subst, ◌∙◌, append_assoc, Bool, true, false, cond}
use Rattle.std.specs.List.{AllByRecursion}
use Rattle.std.proofs.lemmas.List.{append-nil}
use Rattle.addresses.specs.declared.transport.TcpFlags.{TcpFlags}
use Rattle.addresses.specs.declared.internet.Ip.{Ip}
use Rattle.nat_types.specs.declared.gateways.GatewayId.{GatewayId}
use Rattle.nat_types.specs.declared.gateways.Side.{Side}
use Rattle.nat_types.specs.declared.notes.NoteKind.{NoteKind}
use Rattle.nat_types.specs.declared.notes.Note.{Note}
use Rattle.nat_types.specs.declared.pairs.Endpoint.{Endpoint}
use Rattle.nat_types.specs.declared.pairs.Key.{Key}
use Rattle.nat_types.specs.declared.gateways.Side.TheVariants.{Inside, Outside}
use Rattle.ipv4.specs.declared.flows.Flow.{Flow}
use Rattle.activity.specs.declared.packets.Remote.{Remote}
use Rattle.activity.specs.declared.packets.Way.{Way}
use Rattle.activity.specs.declared.packets.Way.TheVariants as goes
use Rattle.link.specs.Link.{Link}
use Rattle.spec_binding.specs.Books.{IsBook}
use Rattle.spec_binding.specs.Ledgers.{Ledger, carried_ledger, ledger_after}
use Rattle.spec_binding.specs.Rows.{answered, carry_row, is_full, noted_by, wish_of, noted_with}
use Rattle.spec_binding.specs.Uses.{Accounts, carried_notes, use_counts}
use Rattle.spec_binding.proofs.Offered.{reversed-join, wish-keeps, change-leaves, carried-accounts, wished-accounts}
use Rattle.spec_binding.specs.WellFormed.{IsWellFormedEndpoint}
use Rattle.waiting.specs.declared.waits.Ended.{Ended}
use Rattle.waiting.specs.declared.waits.WaitsFor.{WaitsFor}
use Rattle.waiting.specs.declared.waits.WaitsFor.TheVariants as wait
use Rattle.waiting.specs.Packets.{HeldPacket, asks_again, ended_by, left_by, with_asked}
use Rattle.waiting.proofs.Offered.{all-asked, all-room}
use Rattle.packet_rules.specs.declared.readings.Asked.{Asked as Echo}
use Rattle.packet_rules.specs.declared.readings.Reading.{Reading}
use Rattle.packet_rules.specs.declared.readings.Reading.TheVariants.{Arp, Advert, Packet, Error, Asked}
use Rattle.packet_rules.specs.declared.reasons.Reason.{Reason}
use Rattle.packet_rules.specs.declared.translations.Translation.{Translation}
use Rattle.packet_rules.specs.declared.translations.Translation.TheVariants.{Outward, Inward, Hairpin}
use Rattle.packet_rules.specs.Flows.{source_of}
use Rattle.packet_rules.specs.Errors.{passed_frame}
use Rattle.arp.specs.Neighbours.{asks_at}
use Rattle.spec_step.specs.declared.plans.Plan.{Plan}
use Rattle.spec_step.specs.declared.plans.Plan.TheVariants.{Send, Ask, AskAgain, Wait as WaitFor}
use Rattle.spec_step.specs.Machine.{AreBytes, KeepsBytes}
use Rattle.spec_step.specs.Parts.{all_taken, asked_again, by_plan, by_verdict, carried, carried_all, carried_by, flags_in, flow_taken, framed, keeping, released, remote, renewed_behind, request_by, retaken_by, taken_again, wanted_by, wanted_for, by_error_plan, by_error_verdict, error_taken, echo_taken, size_in, refused, by_row}
use Rattle.spec_step.specs.Rests.{AreBy}
use Rattle.spec_step.specs.Shown.{GatewayAndOutput, id_of, is_apart, scene, station_on, with_notes}
use Rattle.spec_step.specs.Verdict.{exit_by, hop_by, plan_of, reading_on, error_hop, error_plan}
use Rattle.spec_step.proofs.Packets.{PlanFits, Reads, kept-filter, kept-more, plan-fits, read-formed}
use Rattle.spec_step.proofs.Own.{Said, echo-by, refusal-by, refused-by, said_scene}
use Rattle.spec_step.proofs.Passing.{IsSound}
use Rattle.spec_step.proofs.Plain.{StaysPlain, carried-stays-plain, plain-join, wanted-stays-plain}
use Rattle.icmp.specs.declared.packets.ErrorFlow.{ErrorFlow}
use Rattle.spec_step.proofs.Behind.{asked_behind}
use Rattle.spec_step.proofs.Ahead.{Keeps, asking, asking-book, row-behind}

-- the notes from one scene to another, all at one time; a trace that the ledger accounted for before is accounted for
-- with these notes
pub record Rested (s s2 : GatewayAndOutput) : Type 0 where
  pub notes : List Note
  pub notes_are : s2.told.notes ≡ s.told.notes ++ notes
  pub own : AreBy (id_of s.shown) s.shown.moment notes
  pub moment : s2.shown.moment ≡ s.shown.moment
  pub id : id_of s2.shown ≡ id_of s.shown
  pub stays : StaysPlain s.shown.ledger.book s2.shown.ledger.book notes
  pub accounts : (before : List Note) → Accounts s.shown.moment s.shown.ledger before → Accounts s2.shown.moment s2.shown.ledger (reverse notes ++ before)
  pub sound : IsSound s2.shown

abbrev pub Resting : GatewayAndOutput → GatewayAndOutput → Type 0
Resting s s2 = IsSound s.shown → Rested s s2

pub by-join : (id : GatewayId) (now : ℕ) (ns ns2 : List Note) → AreBy id now ns → AreBy id now ns2 → AreBy id now (ns ++ ns2)
by-join id now [] ns2 x y = y
by-join id now (n ∷ ns) ns2 x y = (x.0, by-join id now ns ns2 x.1 y)

-- the ledger accounts for two parts, one after the other, where it does for each
pub resting-then : (a b c : GatewayAndOutput) → Resting a b → Resting b c → Resting a c
resting-then a b c x y = λ is.
    let one = x is in
    let two = y one.sound in
    record {
      notes = one.notes ++ two.notes;
      notes_are = two.notes_are ∙ ap (λ (ns : List Note). ns ++ two.notes) one.notes_are ∙ append_assoc a.told.notes one.notes two.notes;
      own = by-join (id_of a.shown) a.shown.moment one.notes two.notes one.own
          (subst (λ (m : ℕ). AreBy (id_of a.shown) m two.notes) one.moment
          (subst (λ (i : GatewayId). AreBy i b.shown.moment two.notes) one.id two.own));
      moment = two.moment ∙ one.moment;
      id = two.id ∙ one.id;
      stays = record {
        alone = two.stays.alone ∙ one.stays.alone;
        plain = λ never. plain-join one.notes two.notes (one.stays.plain never) (two.stays.plain (one.stays.alone ∙ never));
      };
      accounts = λ before a0. subst (λ (ns : List Note). Accounts c.shown.moment c.shown.ledger ns) (sym (reversed-join one.notes two.notes before))
          (two.accounts (reverse one.notes ++ before) (one.accounts before a0));
      sound = two.sound;
    }

-- the ledger accounts for a part that notes nothing and leaves the ledger as it is
pub resting-unseen : (s s2 : GatewayAndOutput) → s2.shown.ledger ≡ s.shown.ledger → s2.told.notes ≡ s.told.notes → s2.shown.moment ≡ s.shown.moment → (KeepsBytes s.shown → KeepsBytes s2.shown) → Resting s s2
resting-unseen s s2 ledger notes moment kept = λ is. record {
  notes = [];
  notes_are = notes ∙ sym (append-nil s.told.notes);
  own = tt;
  moment = moment;
  id = ap (λ (l : Ledger). l.book.id) ledger;
  stays = record { alone = ap (λ (l : Ledger). l.book.alone) ledger; plain = λ never. tt };
  accounts = λ before a. subst (λ (l : Ledger). Accounts s2.shown.moment l before) (sym ledger)
      (subst (λ (m : ℕ). Accounts m s.shown.ledger before) (sym moment) a);
  sound = record { book = subst (λ (l : Ledger). IsBook l.book) (sym ledger) is.book; kept = kept is.kept };
}

pub resting-nothing : (s : GatewayAndOutput) → Resting s s
resting-nothing s = resting-unseen s s refl refl refl (λ k. k)

-- the ledger accounts for a part that changes it and makes these notes, where it accounts for them
pub resting-noted : (s : GatewayAndOutput) (l : Ledger) (e : Link) (notes : List Note) → AreBy (id_of s.shown) s.shown.moment notes → StaysPlain s.shown.ledger.book l.book notes → l.book.id ≡ id_of s.shown → (IsBook s.shown.ledger.book → IsBook l.book)
    → ((before : List Note) → IsBook s.shown.ledger.book → Accounts s.shown.moment s.shown.ledger before → Accounts s.shown.moment l (reverse notes ++ before))
    → Resting s (scene (record s.shown { ledger = l; link = e }) (with_notes s.told notes))
resting-noted s l e notes own stays id keeps accounts = λ is. record {
  notes = notes;
  notes_are = refl;
  own = own;
  moment = refl;
  id = id;
  stays = stays;
  accounts = λ before a. accounts before is.book a;
  sound = record { book = keeps is.book; kept = is.kept };
}

pub noted-own : (id : GatewayId) (now : ℕ) (o : Option NoteKind) → AreBy id now (noted_by id now o)
noted-own id now None = tt
noted-own id now (Some what) = ((refl, refl), tt)

own-with : (counts : Bool) (id : GatewayId) (now : ℕ) (o : Option NoteKind) → AreBy id now (noted_with counts id now o)
own-with counts id now None = tt
own-with counts id now (Some what) = ((refl, refl), tt)

-- ---- one packet

-- the ledger accounts for a part where ports are asked for behind it
pub asking-rests : (s : GatewayAndOutput) → Keeps (Resting s)
asking-rests s m paired first =
    let g = m.shown in
    resting-then s m (by_row m asking) first
    (resting-noted m (ledger_after g.moment asking.change g.ledger) (answered g.link asking.answer) []
    tt (record { alone = refl; plain = λ never. tt }) refl (λ is. asking-book g.ledger.book paired is)
    (λ before is a. record { uses = a.uses; none = a.none; idle = a.idle }))

pub wanted-rests : (s : GatewayAndOutput) (e : Endpoint) → IsWellFormedEndpoint e → Resting s (wanted_by s e)
wanted-rests s e formed =
    let g = s.shown in let b = g.ledger.book in
    let apart = is_apart g in
    let full = is_full g.link in
    let row = (wish_of b apart full e).row in
    row-behind (Resting s) s row (asking-rests s)
    (resting-noted s (ledger_after g.moment row.change g.ledger) (answered g.link row.answer) (noted_by b.id g.moment row.what)
    (noted-own b.id g.moment row.what) (wanted-stays-plain g e) (change-leaves b row.change).id (λ is. wish-keeps b apart full e is formed)
    (λ before is a. wished-accounts g.moment g.ledger before apart full e is a))

carried-rests : (s : GatewayAndOutput) (k : Key) (r : Remote) (w : Way) (flags : TcpFlags) → Resting s (carried_by s k (carried s.shown r w flags))
carried-rests s k r w flags =
    let g = s.shown in let b = g.ledger.book in
    let p = carried g r w flags in
    let counts = use_counts g.ledger k p in
    resting-noted s (carried_ledger k p g.ledger) g.link (carried_notes g.ledger k p)
    (own-with counts b.id g.moment (carry_row b k).what) (carried-stays-plain b k counts b.id g.moment) refl (λ is. is)
    (λ before is a. carried-accounts g.ledger before k p a)

carried-all-rests : (s : GatewayAndOutput) (flow : Flow) (flags : TcpFlags) (by : Translation) → Resting s (carried_all s flow flags by)
carried-all-rests s flow flags (Outward p) = carried-rests s p.key _ goes.Outward flags
carried-all-rests s flow flags (Inward p) = carried-rests s p.key _ goes.Inward flags
carried-all-rests s flow flags (Hairpin own other) =
    let here = s.shown.networks.outside.interface.virtual_ip in
    let one = carried_by s own.key (carried s.shown (remote here flow.destination_port) goes.Outward flags) in
    resting-then s one _ (carried-rests s own.key (remote here flow.destination_port) goes.Outward flags)
    (carried-rests one other.key (remote here own.key.port) goes.Inward flags)

wanted-for-rests : (s : GatewayAndOutput) (flow : Flow) (by : Translation) → IsWellFormedEndpoint (source_of flow) → Resting s (wanted_for s flow by)
wanted-for-rests s flow (Outward p) formed = wanted-rests s (source_of flow) formed
wanted-for-rests s flow (Inward p) formed = resting-nothing s
wanted-for-rests s flow (Hairpin own other) formed = wanted-rests s (source_of flow) formed

pub framed-rests : (s : GatewayAndOutput) (side : Side) (bytes : List ℕ) → Resting s (framed s side bytes)
framed-rests s side bytes = resting-unseen s (framed s side bytes) refl refl refl (λ k. k)

keeping-rests : (s : GatewayAndOutput) (side : Side) (bytes : List ℕ) (w : WaitsFor) → AreBytes bytes → Resting s (keeping s side bytes w)
keeping-rests s side bytes w are = resting-unseen s (keeping s side bytes w) refl refl refl (λ k. kept-more _ _ (all-room (λ (x : HeldPacket). AreBytes x.bytes) w s.shown.kept k) are)

renewed-rests : (s : GatewayAndOutput) (exit : Side) (hop : Ip) → Resting s (renewed_behind s exit hop)
renewed-rests s exit hop = at exit (asks_at hop.0 s.shown.moment (station_on s.shown exit).neighbours)
  where
    at : (side : Side) (b : Bool) → Resting s (asked_behind s side hop b)
    at Inside true = resting-unseen s _ refl refl refl (λ k. k)
    at Outside true = resting-unseen s _ refl refl refl (λ k. k)
    at Inside false = resting-unseen s _ refl refl refl (λ k. k)
    at Outside false = resting-unseen s _ refl refl refl (λ k. k)

again-rests : (s : GatewayAndOutput) (exit : Side) (hop : Ip) → Resting s (asked_again s exit hop)
again-rests s exit hop = at (asks_again s.shown.moment (wait.Hop exit hop) s.shown.kept)
  where
    at : (b : Bool) → Resting s (let x : GatewayAndOutput = cond b (framed (scene (record s.shown { kept = with_asked s.shown.moment (wait.Hop exit hop) s.shown.kept }) s.told) exit (request_by s.shown exit hop)) s in x)
    at true = resting-unseen s _ refl refl refl (λ k. all-asked (λ (x : HeldPacket). AreBytes x.bytes) (λ w n is. is) s.shown.moment (wait.Hop exit hop) s.shown.kept k)
    at false = resting-nothing s

plan-rests : (s : GatewayAndOutput) (side : Side) (bytes : List ℕ) (flow : Flow) (plan : Plan) → AreBytes bytes → IsWellFormedEndpoint (source_of flow) → PlanFits (Ok plan) → Resting s (by_plan s side bytes flow plan)
plan-rests s side bytes flow (Send by next) are formed fits =
    let one = wanted_for s flow by in
    let two = carried_all (framed one _ _) flow (flags_in bytes) by in
    resting-then s two _
    (resting-then s (framed one _ _) two
    (resting-then s one (framed one _ _) (wanted-for-rests s flow by formed) (framed-rests one _ _))
    (carried-all-rests (framed one _ _) flow (flags_in bytes) by))
    (renewed-rests two (exit_by by) (hop_by s.shown by flow))
plan-rests s side bytes flow (Ask by hop) are formed fits =
    let one = wanted_for s flow by in
    let what = wait.Hop (exit_by by) hop in
    let two = keeping one side bytes what in
    resting-then s two _
    (resting-then s one two (wanted-for-rests s flow by formed) (keeping-rests one side bytes what are))
    (framed-rests two _ _)
plan-rests s side bytes flow (AskAgain by hop) are formed fits = again-rests s (exit_by by) hop
plan-rests s side bytes flow (WaitFor e) are formed fits =
    let one = wanted_by s e in
    resting-then s one _ (wanted-rests s e fits) (keeping-rests one side bytes (wait.Pair e) are)

-- the ledger accounts for what the gateway says itself, which notes nothing
said-rests : (s : GatewayAndOutput) (side : Side) → Said (λ x. Resting s x) s side
said-rests s Inside = λ frame tally hop.
    let one = said_scene s Inside frame tally in
    resting-then s one _ (resting-unseen s one refl refl refl (λ k. k)) (renewed-rests one Inside hop)
said-rests s Outside = λ frame tally hop.
    let one = said_scene s Outside frame tally in
    resting-then s one _ (resting-unseen s one refl refl refl (λ k. k)) (renewed-rests one Outside hop)

pub refused-rests : (s : GatewayAndOutput) (side exit : Side) (bytes : List ℕ) (reason : Reason) → Resting s (refused s side exit bytes reason)
refused-rests s side exit bytes reason = refused-by (λ x. Resting s x) s side exit bytes (resting-nothing s) (said-rests s side) reason

pub echo-rests : (s : GatewayAndOutput) (side : Side) (bytes : List ℕ) (echo : Echo) → AreBytes bytes → Resting s (echo_taken s side bytes echo)
echo-rests s side bytes echo are =
    echo-by (λ x. Resting s x) s side bytes echo (resting-nothing s) (said-rests s side)
    (λ hop place.
    let one = keeping s side bytes (wait.Hop side hop) in
    resting-then s one _ (keeping-rests s side bytes (wait.Hop side hop) are) (framed-rests one _ _))
    (λ hop. again-rests s side hop)

verdict-rests : (s : GatewayAndOutput) (side : Side) (bytes : List ℕ) (flow : Flow) (plan : Result Plan Reason) → AreBytes bytes → IsWellFormedEndpoint (source_of flow) → PlanFits plan → Resting s (by_verdict s side bytes flow plan)
verdict-rests s side bytes flow (Ok plan) are formed fits = plan-rests s side bytes flow plan are formed fits
verdict-rests s side bytes flow (Err reason) are formed fits =
    refusal-by (λ x. Resting s x) s side bytes flow (resting-nothing s) (wanted-rests s (source_of flow) formed) (said-rests s side) reason

pub flow-rests : (s : GatewayAndOutput) (side : Side) (bytes : List ℕ) (flow : Flow) → AreBytes bytes → IsWellFormedEndpoint (source_of flow) → Resting s (flow_taken s side bytes flow)
flow-rests s side bytes flow are formed = verdict-rests s side bytes flow (plan_of s.shown side flow (size_in bytes)) are formed (plan-fits s.shown side flow (size_in bytes) formed)

-- ---- an error

error-plan-rests : (s : GatewayAndOutput) (side : Side) (bytes : List ℕ) (flow : ErrorFlow) (plan : Plan) → AreBytes bytes → Resting s (by_error_plan s side bytes flow plan)
error-plan-rests s side bytes flow (Send by next) are =
    let one = framed s (exit_by by) (passed_frame s.shown.networks by next bytes) in
    resting-then s one _ (framed-rests s _ _) (renewed-rests one (exit_by by) (error_hop s.shown by flow))
error-plan-rests s side bytes flow (Ask by hop) are =
    let what = wait.Hop (exit_by by) hop in
    let one = keeping s side bytes what in
    resting-then s one _ (keeping-rests s side bytes what are) (framed-rests one _ _)
error-plan-rests s side bytes flow (AskAgain by hop) are = again-rests s (exit_by by) hop
error-plan-rests s side bytes flow (WaitFor e) are = resting-nothing s

pub error-rests : (s : GatewayAndOutput) (side : Side) (bytes : List ℕ) (flow : ErrorFlow) → AreBytes bytes → Resting s (error_taken s side bytes flow)
error-rests s side bytes flow are = at (error_plan s.shown side flow (size_in bytes))
  where
    at : (r : Result Plan Reason) → Resting s (by_error_verdict s side bytes flow r)
    at (Ok plan) = error-plan-rests s side bytes flow plan are
    at (Err reason) = resting-nothing s

-- ---- the packets whose wait is over

retaken-rests : Reads → (s : GatewayAndOutput) (side : Side) (bytes : List ℕ) (r : Result Reading Reason) → reading_on s.shown side bytes ≡ r → AreBytes bytes → Resting s (retaken_by s side bytes r)
retaken-rests reads s side bytes (Ok (Packet packet)) read are = flow-rests s side bytes packet.flow are (read-formed [] [] reads s.shown side bytes packet are read)
retaken-rests reads s side bytes (Ok (Error packet)) read are = error-rests s side bytes packet.flow are
retaken-rests reads s side bytes (Ok (Arp p)) read are = resting-nothing s
retaken-rests reads s side bytes (Ok (Advert a from)) read are = resting-nothing s
retaken-rests reads s side bytes (Ok (Asked echo)) read are = echo-rests s side bytes echo are
retaken-rests reads s side bytes (Err reason) read are = refused-rests s side side bytes reason

all-rest : Reads → (s : GatewayAndOutput) (ws : List HeldPacket) → AllByRecursion (λ (w : HeldPacket). AreBytes w.bytes) ws → Resting s (all_taken s ws)
all-rest reads s [] all = resting-nothing s
all-rest reads s (w ∷ ws) all =
    resting-then s (taken_again s w) _
    (retaken-rests reads s w.side w.bytes (reading_on s.shown w.side w.bytes) refl all.0)
    (all-rest reads (taken_again s w) ws all.1)

pub released-rests : Reads → (s : GatewayAndOutput) (ended : Ended) → Resting s (released s ended)
released-rests reads s ended = λ is.
    let start = scene (record s.shown { kept = left_by ended s.shown.kept }) s.told in
    resting-then s start _
    (resting-unseen s start refl refl refl (λ k. kept-filter _ s.shown.kept k))
    (all-rest reads start (ended_by ended s.shown.kept) (kept-filter _ s.shown.kept is.kept))
    is
