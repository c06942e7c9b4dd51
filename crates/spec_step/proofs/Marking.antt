-- What makes a use count, and what a stranger's packet leaves as it was.
use Rattle.std.proofs.Common.{◌≡◌, ℕ, Bool, true, false, cond, not, ◌&&◌, ◌||◌, Option, Some, None, Result, Ok, is_some, List, [], ◌∷◌, ◌++◌, refl, sym, ap, subst, ◌∙◌, append_assoc}
use Rattle.std.proofs.lemmas.Bool.{cond-true, cond-false}
use Rattle.addresses.specs.declared.transport.Protocol.{Protocol}
use Rattle.addresses.specs.declared.transport.Protocol.TheVariants.{Icmp, Tcp, Udp}
use Rattle.addresses.specs.declared.transport.TcpFlags.{TcpFlags}
use Rattle.addresses.specs.declared.ethernet.Mac.{Mac}
use Rattle.addresses.specs.declared.internet.Ip.{Ip}
use Rattle.arp.specs.Neighbours.{asks_at}
use Rattle.nat_types.specs.declared.gateways.Side.{Side}
use Rattle.nat_types.specs.Same.{same_key}
use Rattle.nat_types.specs.declared.notes.Note.{Note}
use Rattle.nat_types.specs.declared.notes.NoteKind.{NoteKind}
use Rattle.nat_types.specs.declared.pairs.Key.{Key}
use Rattle.nat_types.specs.declared.pairs.Pair.{Pair}
use Rattle.nat_types.proofs.Offered.{key-eq, key-false}
use Rattle.ipv4.specs.declared.flows.Flow.{Flow}
use Rattle.activity.specs.declared.packets.Packet.{Packet as Carried}
use Rattle.activity.specs.declared.packets.Remote.{Remote}
use Rattle.activity.specs.declared.packets.Way.TheVariants as goes
use Rattle.activity.specs.Kept.{has_session}
use Rattle.activity.specs.Lives.{Activity, counts_at, is_loose_at, life_carried, looks_idle}
use Rattle.activity.specs.Packets.{is_passive}
use Rattle.bindings.specs.declared.entries.Entry.{Entry}
use Rattle.bindings.specs.Entries.{has_key}
use Rattle.bindings.specs.Lives.{life_in, lives_with, rests_at, rests_by, use_counts_by}
use Rattle.spec_pair.specs.Talk.{use_note}
use Rattle.spec_binding.specs.Ledgers.{Ledger, carried_ledger}
use Rattle.spec_binding.specs.Rows.{carry_row, noted_with}
use Rattle.spec_binding.specs.Uses.{carried_notes, use_counts}
use Rattle.packet_rules.specs.declared.reasons.Reason.{Reason}
use Rattle.packet_rules.specs.declared.translations.Translation.{Translation}
use Rattle.packet_rules.specs.declared.translations.Translation.TheVariants.{Outward, Inward, Hairpin}
use Rattle.packet_rules.specs.Frames.{sent_frame}
use Rattle.spec_step.specs.declared.plans.Plan.{Plan}
use Rattle.spec_step.specs.declared.plans.Plan.TheVariants.{Send}
use Rattle.spec_step.specs.Parts.{by_verdict, carried, carried_all, carried_by, flags_in, flow_taken, framed, remote, size_in, wanted_for}
use Rattle.spec_step.specs.Shown.{GatewayAndOutput, Shown, id_of, station_on}
use Rattle.spec_step.specs.Uses.{IsCarrier, RestAlike}
use Rattle.spec_step.specs.Verdict.{exit_by, hop_by, plan_of}
use Rattle.spec_step.proofs.Behind.{asked_behind}

-- ---- lives, where that of one key changes

life-beside : (f : Activity → Activity) (k : Key) (es : List Entry) (ls : List Activity) (q : Key) → same_key k q ≡ false → life_in es (lives_with f k es ls) q ≡ life_in es ls q
life-beside f k [] ls q other = refl
life-beside f k (e ∷ es) [] q other = refl
life-beside f k (e ∷ es) (l ∷ ls) q other = at (has_key k e) refl (life-beside f k es ls q other)
  where
    at : (b : Bool) → has_key k e ≡ b → life_in es (lives_with f k es ls) q ≡ life_in es ls q → life_in (e ∷ es) (cond b (f l ∷ ls) (l ∷ lives_with f k es ls)) q ≡ life_in (e ∷ es) (l ∷ ls) q
    at true here rest =
        let is : e.pair.key ≡ k = key-eq e.pair.key k here in
        let no : has_key q e ≡ false = ap (λ (x : Key). same_key x q) is ∙ other in
        cond-false (has_key q e) (Some (f l)) (life_in es ls q) no ∙ sym (cond-false (has_key q e) (Some l) (life_in es ls q) no)
    at false here rest = ap (cond (has_key q e) (Some l)) rest

life-here : (f : Activity → Activity) (k : Key) (es : List Entry) (ls : List Activity) (life : Activity) → life_in es ls k ≡ Some life → life_in es (lives_with f k es ls) k ≡ Some (f life)
life-here f k [] ls life is = absurd (cc)
life-here f k (e ∷ es) [] life is = absurd (cc)
life-here f k (e ∷ es) (l ∷ ls) life is = at (has_key k e) refl is (λ rest. life-here f k es ls life rest)
  where
    at : (b : Bool) → has_key k e ≡ b → cond b (Some l) (life_in es ls k) ≡ Some life → (life_in es ls k ≡ Some life → life_in es (lives_with f k es ls) k ≡ Some (f life)) → life_in (e ∷ es) (cond b (f l ∷ ls) (l ∷ lives_with f k es ls)) k ≡ Some (f life)
    at true here is rest = cond-true (has_key k e) (Some (f l)) (life_in es ls k) here ∙ cc
    at false here is rest = cond-false (has_key k e) (Some l) (life_in es (lives_with f k es ls) k) here ∙ rest is

life-none : (f : Activity → Activity) (k : Key) (es : List Entry) (ls : List Activity) → life_in es ls k ≡ None → life_in es (lives_with f k es ls) k ≡ None
life-none f k [] ls is = refl
life-none f k (e ∷ es) [] is = refl
life-none f k (e ∷ es) (l ∷ ls) is = at (has_key k e) refl is (λ rest. life-none f k es ls rest)
  where
    at : (b : Bool) → has_key k e ≡ b → (let o : Option Activity = cond b (Some l) (life_in es ls k) in o) ≡ None → (life_in es ls k ≡ None → life_in es (lives_with f k es ls) k ≡ None) → life_in (e ∷ es) (cond b (f l ∷ ls) (l ∷ lives_with f k es ls)) k ≡ None
    at true here is rest = absurd (cc)
    at false here is rest = cond-false (has_key k e) (Some l) (life_in es (lives_with f k es ls) k) here ∙ rest is

-- ---- marks

-- a packet's note, by the life of its pair
marked-by : (g : Shown) (p : Pair) (life : Activity) (x : Carried) → IsCarrier g p life → carried_notes g.ledger p.key x ≡ use_note (id_of g) x.at p (counts_at p.key.protocol life x) ∷ []
marked-by g p life x is =
    ap (λ (o : Option NoteKind). noted_with (use_counts g.ledger p.key x) (id_of g) x.at o) is.noted
    ∙ ap (λ (o : Option Activity). let ns : List Note = use_note (id_of g) x.at p (use_counts_by p.key x o) ∷ [] in ns) is.life_is

or-true : (b : Bool) → (b || true) ≡ true
or-true true = refl
or-true false = refl

or-false : (b : Bool) → (b || false) ≡ b
or-false true = refl
or-false false = refl

twice : (b : Bool) → not (not b) ≡ b
twice true = refl
twice false = refl

-- outward a use counts, of TCP one without RST
counts-out : (protocol : Protocol) (g : Shown) (r : Remote) (flags : TcpFlags) (life : Activity) → (protocol ≡ Tcp → flags.rst ≡ false) → counts_at protocol life (carried g r goes.Outward flags) ≡ true
counts-out Icmp g r flags life plain = or-true g.ledger.inward_refresh
counts-out Udp g r flags life plain = or-true g.ledger.inward_refresh
counts-out Tcp g r flags life plain = at flags.rst life.has_carried (has_session r life.sessions) (plain refl)
  where
    at : (b c k : Bool) → b ≡ false → not (not (not (b && c)) && not k) ≡ true
    at true c k is = absurd (cc)
    at false c k is = refl

counts-reset : (protocol : Protocol) (g : Shown) (r : Remote) (flags : TcpFlags) (life : Activity) → protocol ≡ Tcp → flags.rst ≡ true → counts_at protocol life (carried g r goes.Outward flags) ≡ (has_session r life.sessions || not life.has_carried)
counts-reset Icmp g r flags life tcp reset = absurd (cc)
counts-reset Udp g r flags life tcp reset = absurd (cc)
counts-reset Tcp g r flags life tcp reset = at flags.rst life.has_carried (has_session r life.sessions) reset
  where
    at : (b c k : Bool) → b ≡ true → not (not (not (b && c)) && not k) ≡ (k || not c)
    at true true true is = refl
    at true true false is = refl
    at true false true is = refl
    at true false false is = refl
    at false c k is = absurd (cc)

-- inward a use counts by the setting, and of TCP by the session
counts-in : (protocol : Protocol) (g : Shown) (r : Remote) (flags : TcpFlags) (life : Activity) → (protocol ≡ Tcp → ⊥) → counts_at protocol life (carried g r goes.Inward flags) ≡ g.ledger.inward_refresh
counts-in Icmp g r flags life other = or-false g.ledger.inward_refresh
counts-in Udp g r flags life other = or-false g.ledger.inward_refresh
counts-in Tcp g r flags life other = absurd (other refl)

counts-segment : (protocol : Protocol) (g : Shown) (r : Remote) (flags : TcpFlags) (life : Activity) → protocol ≡ Tcp → counts_at protocol life (carried g r goes.Inward flags) ≡ has_session r life.sessions
counts-segment Icmp g r flags life tcp = absurd (cc)
counts-segment Udp g r flags life tcp = absurd (cc)
counts-segment Tcp g r flags life tcp = twice (has_session r life.sessions)

-- the notes after a packet was carried whose mark is known
carried-marked : (s : GatewayAndOutput) (p : Pair) (life : Activity) (x : Carried) (counts : Bool) → IsCarrier s.shown p life → counts_at p.key.protocol life x ≡ counts → (carried_by s p.key x).told.notes ≡ s.told.notes ++ use_note (id_of s.shown) x.at p counts ∷ []
carried-marked s p life x counts is mark =
    ap (λ (ns : List Note). s.told.notes ++ ns) (marked-by s.shown p life x is ∙ ap (λ (b : Bool). let ns : List Note = use_note (id_of s.shown) x.at p b ∷ [] in ns) mark)

pub outward-marked : (s : GatewayAndOutput) (flow : Flow) (flags : TcpFlags) (p : Pair) (life : Activity) → IsCarrier s.shown p life → (p.key.protocol ≡ Tcp → flags.rst ≡ false) → (carried_all s flow flags (Outward p)).told.notes ≡ s.told.notes ++ use_note (id_of s.shown) s.shown.moment p true ∷ []
outward-marked s flow flags p life is plain =
    let r = remote flow.destination flow.destination_port in
    carried-marked s p life (carried s.shown r goes.Outward flags) true is (counts-out p.key.protocol s.shown r flags life plain)

pub reset-marked : (s : GatewayAndOutput) (flow : Flow) (flags : TcpFlags) (p : Pair) (life : Activity) → IsCarrier s.shown p life → p.key.protocol ≡ Tcp → flags.rst ≡ true
    → (carried_all s flow flags (Outward p)).told.notes ≡ s.told.notes ++ use_note (id_of s.shown) s.shown.moment p (has_session (remote flow.destination flow.destination_port) life.sessions || not life.has_carried) ∷ []
reset-marked s flow flags p life is tcp reset =
    let r = remote flow.destination flow.destination_port in
    carried-marked s p life (carried s.shown r goes.Outward flags) (has_session r life.sessions || not life.has_carried) is (counts-reset p.key.protocol s.shown r flags life tcp reset)

pub inward-marked : (s : GatewayAndOutput) (flow : Flow) (flags : TcpFlags) (p : Pair) (life : Activity) → IsCarrier s.shown p life → (p.key.protocol ≡ Tcp → ⊥) → (carried_all s flow flags (Inward p)).told.notes ≡ s.told.notes ++ use_note (id_of s.shown) s.shown.moment p s.shown.ledger.inward_refresh ∷ []
inward-marked s flow flags p life is other =
    let r = remote flow.source flow.source_port in
    carried-marked s p life (carried s.shown r goes.Inward flags) s.shown.ledger.inward_refresh is (counts-in p.key.protocol s.shown r flags life other)

pub segment-marked : (s : GatewayAndOutput) (flow : Flow) (flags : TcpFlags) (p : Pair) (life : Activity) → IsCarrier s.shown p life → p.key.protocol ≡ Tcp
    → (carried_all s flow flags (Inward p)).told.notes ≡ s.told.notes ++ use_note (id_of s.shown) s.shown.moment p (has_session (remote flow.source flow.source_port) life.sessions) ∷ []
segment-marked s flow flags p life is tcp =
    let r = remote flow.source flow.source_port in
    carried-marked s p life (carried s.shown r goes.Inward flags) (has_session r life.sessions) is (counts-segment p.key.protocol s.shown r flags life tcp)

-- ---- a packet that is sent

behind-notes : (s : GatewayAndOutput) (exit : Side) (hop : Ip) (asks : Bool) → (asked_behind s exit hop asks).told.notes ≡ s.told.notes
behind-notes s exit hop true = refl
behind-notes s exit hop false = refl

-- the scene after a packet was sent, before its next hop is asked for
abbrev pub sent_scene : GatewayAndOutput → List ℕ → Flow → Translation → Mac → GatewayAndOutput
sent_scene s bytes flow by next =
    carried_all (framed (wanted_for s flow by) (exit_by by) (sent_frame s.shown.networks by next bytes)) flow (flags_in bytes) by

sent-notes : (s : GatewayAndOutput) (bytes : List ℕ) (flow : Flow) (by : Translation) (next : Mac) → (sent_scene s bytes flow by next).told.notes ≡ (carried_all (wanted_for s flow by) flow (flags_in bytes) by).told.notes
sent-notes s bytes flow (Outward p) next = refl
sent-notes s bytes flow (Inward p) next = refl
sent-notes s bytes flow (Hairpin own other) next = refl

pub taken-marked : (s : GatewayAndOutput) (side : Side) (bytes : List ℕ) (flow : Flow) (by : Translation) (next : Mac) → plan_of s.shown side flow (size_in bytes) ≡ Ok (Send by next) → (flow_taken s side bytes flow).told.notes ≡ (carried_all (wanted_for s flow by) flow (flags_in bytes) by).told.notes
taken-marked s side bytes flow by next plan =
    let one = sent_scene s bytes flow by next in
    let exit = exit_by by in let hop = hop_by s.shown by flow in
    ap (λ (r : Result Plan Reason). (by_verdict s side bytes flow r).told.notes) plan
    ∙ behind-notes one exit hop (asks_at hop.0 one.shown.moment (station_on one.shown exit).neighbours)
    ∙ sent-notes s bytes flow by next

-- ---- a hairpin

-- the lives after a packet was carried, by whether its pair translates
abbrev pub lives_by : Bool → Key → Carried → Ledger → List Activity
lives_by b k x l = cond b (lives_with (life_carried k.protocol x) k l.book.entries l.lives) l.lives

-- a pair carries packets after another carried one, or the same
still-there : (b : Bool) (k : Key) (x : Carried) (l : Ledger) (q : Key) (life : Activity) → life_in l.book.entries l.lives q ≡ Some life → (m : Activity) × (life_in l.book.entries (lives_by b k x l) q ≡ Some m)
still-there false k x l q life is = (life, is)
still-there true k x l q life is = at (same_key k q) refl
  where
    f : Activity → Activity
    f = life_carried k.protocol x

    at : (b : Bool) → same_key k q ≡ b → (m : Activity) × (life_in l.book.entries (lives_with f k l.book.entries l.lives) q ≡ Some m)
    at true same =
        let e = key-eq k q same in
        (f life, subst (λ (y : Key). life_in l.book.entries (lives_with f k l.book.entries l.lives) y ≡ Some (f life)) e (life-here f k l.book.entries l.lives life (ap (λ (y : Key). life_in l.book.entries l.lives y) e ∙ is)))
    at false same = (life, life-beside f k l.book.entries l.lives q same ∙ is)

beside-there : (b : Bool) (k : Key) (x : Carried) (l : Ledger) (q : Key) → same_key k q ≡ false → life_in l.book.entries (lives_by b k x l) q ≡ life_in l.book.entries l.lives q
beside-there false k x l q other = refl
beside-there true k x l q other = life-beside (life_carried k.protocol x) k l.book.entries l.lives q other

still-carries : (s : GatewayAndOutput) (k : Key) (x : Carried) (p : Pair) (life : Activity) → IsCarrier s.shown p life → (m : Activity) × IsCarrier (carried_by s k x).shown p m
still-carries s k x p life is =
    let l = s.shown.ledger in
    let there = still-there (is_some (carry_row l.book k).what) k x l p.key life is.life_is in
    (there.0, record { life_is = there.1; noted = is.noted })

beside-carries : (s : GatewayAndOutput) (k : Key) (x : Carried) (p : Pair) (life : Activity) → (k ≡ p.key → ⊥) → IsCarrier s.shown p life → IsCarrier (carried_by s k x).shown p life
beside-carries s k x p life other is =
    let l = s.shown.ledger in
    record { life_is = beside-there (is_some (carry_row l.book k).what) k x l p.key (key-false k p.key other) ∙ is.life_is; noted = is.noted }

module _ (s : GatewayAndOutput) (flow : Flow) (flags : TcpFlags) (own other : Pair) (one two : Activity) (owns : IsCarrier s.shown own one) (others : IsCarrier s.shown other two) (plain : own.key.protocol ≡ Tcp → flags.rst ≡ false) where
  abbrev pub here : Remote
  here = remote s.shown.networks.outside.interface.virtual_ip flow.destination_port

  abbrev pub there : Remote
  there = remote s.shown.networks.outside.interface.virtual_ip own.key.port

  abbrev pub first : Carried
  first = carried s.shown here goes.Outward flags

  abbrev pub second : Carried
  second = carried s.shown there goes.Inward flags

  abbrev pub middle : GatewayAndOutput
  middle = carried_by s own.key first

  -- the notes of both, where the second's mark is known
  both : (life : Activity) (counts : Bool) → IsCarrier middle.shown other life → counts_at other.key.protocol life second ≡ counts
      → (carried_all s flow flags (Hairpin own other)).told.notes ≡ s.told.notes ++ use_note (id_of s.shown) s.shown.moment own true ∷ use_note (id_of s.shown) s.shown.moment other counts ∷ []
  both life counts is mark =
      let last : List Note = use_note (id_of s.shown) s.shown.moment other counts ∷ [] in
      let lead : List Note = use_note (id_of s.shown) s.shown.moment own true ∷ [] in
      carried-marked middle other life second counts is mark
      ∙ ap (λ (ns : List Note). ns ++ last) (carried-marked s own one first true owns (counts-out own.key.protocol s.shown here flags one plain))
      ∙ append_assoc s.told.notes lead last

  pub hairpin-marked : (other.key.protocol ≡ Tcp → ⊥) → (carried_all s flow flags (Hairpin own other)).told.notes ≡ s.told.notes ++ use_note (id_of s.shown) s.shown.moment own true ∷ use_note (id_of s.shown) s.shown.moment other s.shown.ledger.inward_refresh ∷ []
  hairpin-marked plainer = let still = still-carries s own.key first other two others in both still.0 s.shown.ledger.inward_refresh still.1 (counts-in other.key.protocol s.shown there flags still.0 plainer)

  pub hairpin-segment-marked : (own.key ≡ other.key → ⊥) → other.key.protocol ≡ Tcp → (carried_all s flow flags (Hairpin own other)).told.notes ≡ s.told.notes ++ use_note (id_of s.shown) s.shown.moment own true ∷ use_note (id_of s.shown) s.shown.moment other (has_session there two.sessions) ∷ []
  hairpin-segment-marked apart tcp = both two (has_session there two.sessions) (beside-carries s own.key first other two apart others) (counts-segment other.key.protocol s.shown there flags two tcp)

-- ---- a stranger's packet

-- what the crate activity proves: a passive packet changes the answer of `looks_idle` at no time
abbrev pub KeptIdle : Type 0
KeptIdle = (protocol : Protocol) → (life : Activity) → (packet : Carried) → (now : ℕ) → packet.inward_refresh ≡ false → is_passive protocol (is_loose_at life packet) packet ≡ true → looks_idle protocol (life_carried protocol packet life) now ≡ looks_idle protocol life now

-- an entry is idle at the same times after a passive packet
rests-by : KeptIdle → (k : Key) (x : Carried) (now : ℕ) (es : List Entry) (ls : List Activity) → x.inward_refresh ≡ false → (o : Option Activity) → life_in es ls k ≡ o → ((life : Activity) → life_in es ls k ≡ Some life → is_passive k.protocol (is_loose_at life x) x ≡ true)
    → rests_at es (lives_with (life_carried k.protocol x) k es ls) k now ≡ rests_at es ls k now
rests-by law k x now es ls refresh None is passive =
    ap (rests_by k now) (life-none (life_carried k.protocol x) k es ls is) ∙ sym (ap (rests_by k now) is)
rests-by law k x now es ls refresh (Some life) is passive =
    ap (rests_by k now) (life-here (life_carried k.protocol x) k es ls life is) ∙ law k.protocol life x now refresh (passive life is) ∙ sym (ap (rests_by k now) is)

alike-by : KeptIdle → (l : Ledger) (k : Key) (x : Carried) → x.inward_refresh ≡ false → ((life : Activity) → life_in l.book.entries l.lives k ≡ Some life → is_passive k.protocol (is_loose_at life x) x ≡ true) → RestAlike l (carried_ledger k x l)
alike-by law l k x refresh passive = λ key now. at key (is_some (carry_row l.book k).what) (same_key k key) refl now
  where
    at : (key : Key) (b c : Bool) → same_key k key ≡ c → (now : ℕ) → rests_at l.book.entries (lives_by b k x l) key now ≡ rests_at l.book.entries l.lives key now
    at key false c same now = refl
    at key true true same now =
        subst (λ (y : Key). rests_at l.book.entries (lives_with (life_carried k.protocol x) k l.book.entries l.lives) y now ≡ rests_at l.book.entries l.lives y now) (key-eq k key same)
        (rests-by law k x now l.book.entries l.lives refresh (life_in l.book.entries l.lives k) refl passive)
    at key true false same now = ap (rests_by key now) (life-beside (life_carried k.protocol x) k l.book.entries l.lives key same)

passive-in : (protocol : Protocol) (loose : Bool) (g : Shown) (r : Remote) (flags : TcpFlags) → (protocol ≡ Tcp → ⊥) → is_passive protocol loose (carried g r goes.Inward flags) ≡ true
passive-in Icmp loose g r flags other = refl
passive-in Udp loose g r flags other = refl
passive-in Tcp loose g r flags other = absurd (other refl)

loose-in : (protocol : Protocol) (g : Shown) (r : Remote) (flags : TcpFlags) (life : Activity) → protocol ≡ Tcp → has_session r life.sessions ≡ false → is_passive protocol (is_loose_at life (carried g r goes.Inward flags)) (carried g r goes.Inward flags) ≡ true
loose-in Icmp g r flags life tcp none = absurd (cc)
loose-in Udp g r flags life tcp none = absurd (cc)
loose-in Tcp g r flags life tcp none = ap not none

pub datagram-keeps : KeptIdle → (s : GatewayAndOutput) (flow : Flow) (flags : TcpFlags) (p : Pair) → s.shown.ledger.inward_refresh ≡ false → (p.key.protocol ≡ Tcp → ⊥) → RestAlike s.shown.ledger (carried_all s flow flags (Inward p)).shown.ledger
datagram-keeps law s flow flags p refresh other =
    let r = remote flow.source flow.source_port in
    let x = carried s.shown r goes.Inward flags in
    alike-by law s.shown.ledger p.key x refresh (λ life is. passive-in p.key.protocol (is_loose_at life x) s.shown r flags other)

pub segment-keeps : KeptIdle → (s : GatewayAndOutput) (flow : Flow) (flags : TcpFlags) (p : Pair) (life : Activity) → s.shown.ledger.inward_refresh ≡ false → p.key.protocol ≡ Tcp → life_in s.shown.ledger.book.entries s.shown.ledger.lives p.key ≡ Some life → has_session (remote flow.source flow.source_port) life.sessions ≡ false
    → RestAlike s.shown.ledger (carried_all s flow flags (Inward p)).shown.ledger
segment-keeps law s flow flags p life refresh tcp is none =
    let r = remote flow.source flow.source_port in
    let x = carried s.shown r goes.Inward flags in
    alike-by law s.shown.ledger p.key x refresh (λ other there. loose-in p.key.protocol s.shown r flags other tcp (subst (λ (m : Activity). has_session r m.sessions ≡ false) (same life other (sym is ∙ there)) none))
  where
    same : (a b : Activity) → Some a ≡ Some b → a ≡ b
    same a b e = cc
