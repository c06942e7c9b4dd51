-- The other frames of parts of a step: requests for next hops.
use Rattle.std.proofs.Common.{◌≡◌, ℕ, Bool, true, false, cond, not, ◌||◌, List, [], ◌∷◌, ◌++◌, filter, refl, sym, ap, subst, ◌∙◌, append_assoc, ◌≤◌, map, IsPermutation, arith, inl, inr}
use Rattle.std.specs.List.{AllByRecursion}
use Rattle.std.proofs.lemmas.List.{append-nil, map-append}
use Rattle.std.proofs.lemmas.List.Elements.{filter-append}
use Rattle.std.proofs.lemmas.List.Sorted.{IsPermutation-refl, IsPermutation-append_right, IsPermutation-trans}
use Rattle.addresses.specs.declared.internet.Ip.{Ip}
use Rattle.nat_types.specs.declared.gateways.Side.{Side}
use Rattle.nat_types.specs.declared.gateways.Side.TheVariants.{Inside, Outside}
use Rattle.nat_types.specs.declared.notes.Note.{Note}
use Rattle.nat_types.specs.declared.pairs.Endpoint.{Endpoint}
use Rattle.nat_types.specs.declared.pairs.Pair.{Pair}
use Rattle.arp.specs.Neighbours.{Neighbours, asks_at}
use Rattle.ipv4.specs.declared.flows.Flow.{Flow}
use Rattle.spec_binding.specs.declared.changes.Transition.{Transition}
use Rattle.spec_binding.specs.Rows.{is_full, noted_by, wish_of}
use Rattle.spec_binding.specs.Uses.{IsTranslated}
use Rattle.waiting.specs.declared.waits.WaitsFor.{WaitsFor}
use Rattle.waiting.specs.declared.waits.WaitsFor.TheVariants as wait
use Rattle.waiting.specs.Packets.{HeldPacket, asks_again, hop_count}
use Rattle.waiting.specs.Waits.{is_for_pair}
use Rattle.packet_rules.specs.declared.networks.Network.{Network}
use Rattle.packet_rules.specs.declared.translations.Translation.{Translation}
use Rattle.packet_rules.specs.declared.translations.Translation.TheVariants.{Outward, Inward, Hairpin}
use Rattle.packet_rules.specs.Arping.{request_frame}
use Rattle.packet_rules.specs.Flows.{source_of}
use Rattle.output.specs.Output.{Sent}
use Rattle.spec_step.specs.Others.{Asking, Cause, Drops, IsCause, IsDue, IsHost, IsItsWait, IsNew, IsNextHop, IsOnward, MayGoBy, Sends, Waits, all_noted, firsts, has_come, hops_of, other_frames, packets_asked, request_of, requests, targets, waiting_by, within_limit, is_other}
use Rattle.spec_step.specs.Machine.{AreBytes, KeepsBytes}
use Rattle.spec_step.specs.Parts.{by_row, wanted_by, wanted_for}
use Rattle.spec_step.specs.Shown.{GatewayAndOutput, Shown, id_of, is_apart, station_on}
use Rattle.spec_step.specs.Truly.{IsSetUp, AtHand, Known, known_of, packets_of}
use Rattle.spec_step.proofs.Freeing.{Comes-of, comes-then, filter-all, filter-left, filter-none}
use Rattle.spec_step.proofs.Limits.{IsByWait, KeepsHops, TakesNone, asks-before, count-noted, hops-stay, limit-count, limit-same, noted-taken, noted-then}
use Rattle.spec_step.proofs.Rooting.{RowRoots, has-more, has-then, same-rooted, wish-roots}
use Rattle.spec_step.proofs.Telling.{at_hand, shuffled}
use Rattle.spec_step.proofs.Ahead.{Keeps, row-behind}

-- the networks of a gateway stay the same
abbrev pub NetsStay : Shown → Shown → Type 0
NetsStay g g2 = (g2.inside.network ≡ g.inside.network) × (g2.outside.network ≡ g.outside.network)

pub net-stays : (g g2 : Shown) → NetsStay g g2 → (side : Side) → (station_on g2 side).network ≡ (station_on g side).network
net-stays g g2 nets Inside = nets.0
net-stays g g2 nets Outside = nets.1

-- a neighbour that may be asked for afterwards could be asked for before
abbrev pub NearStays : ℕ → Shown → Shown → Type 0
NearStays now g g2 = (side : Side) (host : ℕ) → asks_at host now (station_on g2 side).neighbours ≡ true → asks_at host now (station_on g side).neighbours ≡ true

-- a test that no waiting packet passes: nobody's wait is over
abbrev pub nobody : HeldPacket → Bool
nobody w = false

all-filter : (P : HeldPacket → Type 0) (f : HeldPacket → Bool) (ws : List HeldPacket) → AllByRecursion P ws → AllByRecursion P (filter f ws)
all-filter P f [] all = tt
all-filter P f (w ∷ ws) all = at (f w) (all-filter P f ws all.1)
  where
    at : (b : Bool) → AllByRecursion P (filter f ws) → AllByRecursion P (let xs : List HeldPacket = cond b (w ∷ filter f ws) (filter f ws) in xs)
    at true rest = (all.0, rest)
    at false rest = rest

all-append : (P : HeldPacket → Type 0) (ws vs : List HeldPacket) → AllByRecursion P ws → AllByRecursion P vs → AllByRecursion P (ws ++ vs)
all-append P [] vs x y = y
all-append P (w ∷ ws) vs x y = (x.0, all-append P ws vs x.1 y)

-- who waits after a part: those before whose wait isn't over by the test, and those that came to wait at this time
pub record Waiting (now : ℕ) (over : HeldPacket → Bool) (askings : List Asking) (came old kept : List HeldPacket) : Type 0 where
  pub hops_are : hops_of came ≡ map (waiting_by now) (firsts askings)
  pub kept_are : kept ≡ all_noted now askings (within_limit (filter (λ w. not (over w)) old ++ came))

-- From a scene to a later one, with the packets `hand` at hand, where the waits that pass the test are over: the other
-- frames are requests for next hops.
pub record Asks (hand : List AtHand) (over : HeldPacket → Bool) (s s2 : GatewayAndOutput) : Type 0 where
  pub frames : List Sent
  pub frames_are : s2.told.frames ≡ s.told.frames ++ frames
  pub notes : List Note
  pub notes_are : s2.told.notes ≡ s.told.notes ++ notes
  pub roots : (p : Pair) → IsTranslated s2.shown.ledger.book.entries p → MayGoBy s.shown notes p
  pub askings : List Asking
  pub due : AllByRecursion (IsDue s.shown (known_of s2.shown) (MayGoBy s.shown notes)) askings
  pub others : other_frames s2.shown.networks frames ≡ requests s.shown askings
  pub came : List HeldPacket
  pub new : AllByRecursion (IsNew (known_of s2.shown) (MayGoBy s.shown notes)) came
  pub waiting : Waiting s.shown.moment over askings came s.shown.kept s2.shown.kept
  pub gone : List AtHand
  pub of_hand : Comes-of hand (filter over s.shown.kept) came (packets_asked askings ++ gone)
  pub known : known_of s2.shown ≡ known_of s.shown
  pub near : NearStays s.shown.moment s.shown s2.shown
  pub nets : NetsStay s.shown s2.shown
  pub wired : IsSetUp s2.shown
  pub bytes : KeepsBytes s2.shown

-- such a part where no wait for a next hop is over, and the test doesn't look at when a hop was asked for
pub record IsAsking (hand : List AtHand) (over : HeldPacket → Bool) (s s2 : GatewayAndOutput) : Type 0 where
  pub asks : Asks hand over s s2
  pub hops : TakesNone over
  pub waits : IsByWait over

-- at most 64 packets wait for next hops, and all that is kept is bytes
abbrev pub IsFit : Shown → Type 0
IsFit g = IsSetUp g × ((hop_count g.kept ≤ 64) × KeepsBytes g)

pub kept-bytes : (g g2 : Shown) → g2.kept ≡ g.kept → KeepsBytes g → KeepsBytes g2
kept-bytes g g2 same all = subst (λ (ws : List HeldPacket). AllByRecursion (λ (w : HeldPacket). AreBytes w.bytes) ws) (sym same) all

abbrev pub Ask-on : List AtHand → (HeldPacket → Bool) → GatewayAndOutput → GatewayAndOutput → Type 0
Ask-on hand over s s2 = IsFit s.shown → IsAsking hand over s s2

pub asks-fit : (hand : List AtHand) (over : HeldPacket → Bool) (s s2 : GatewayAndOutput) → Asks hand over s s2 → IsFit s2.shown
asks-fit hand over s s2 x =
    let all = filter (λ (w : HeldPacket). not (over w)) s.shown.kept ++ x.came in
    let same = ap (λ (ws : List HeldPacket). hop_count ws) x.waiting.kept_are ∙ count-noted s.shown.moment x.askings (within_limit all) in
    (x.wired, (omega (arith, same, limit-count all), x.bytes))

-- ---- lists of requests

pub requests-same : (g g2 : Shown) → NetsStay g g2 → (qs : List Asking) → requests g2 qs ≡ requests g qs
requests-same g g2 nets [] = refl
requests-same g g2 nets (a ∷ qs) =
    ap (λ (n : Network). let x : Sent = record { side = a.exit; bytes = request_frame n a.host } in x ∷ requests g2 qs) (net-stays g g2 nets a.exit)
    ∙ ap (λ (fs : List Sent). request_of g a ∷ fs) (requests-same g g2 nets qs)

packets-join : (qs bs : List Asking) → packets_asked (qs ++ bs) ≡ packets_asked qs ++ packets_asked bs
packets-join qs bs =
    let other = λ (a : Asking). not (has_come a.cause) in
    ap (map (λ (a : Asking). a.packet)) (filter-append other qs bs) ∙ map-append (λ (a : Asking). a.packet) (filter other qs) (filter other bs)

firsts-join : (now : ℕ) (qs bs : List Asking) → map (waiting_by now) (firsts (qs ++ bs)) ≡ map (waiting_by now) (firsts qs) ++ map (waiting_by now) (firsts bs)
firsts-join now qs bs =
    let first = λ (a : Asking). has_come a.cause in
    ap (map (waiting_by now)) (filter-append first qs bs) ∙ map-append (waiting_by now) (filter first qs) (filter first bs)

-- ---- the pairs that a gateway has

module _ (k : Known) (P Q : Pair → Type 0) (more : (p : Pair) → P p → Q p) where
  targets-more : (by : Translation) → AllByRecursion P (targets by) → AllByRecursion Q (targets by)
  targets-more (Outward p) all = tt
  targets-more (Inward p) all = (more p all.0, tt)
  targets-more (Hairpin own other) all = (more other all.0, tt)

  onward-more : (packet : AtHand) (by : Translation) (exit : Side) (host : Ip) → IsOnward k P packet by exit host → IsOnward k Q packet by exit host
  onward-more packet by exit host a = record { goes = a.goes; target = targets-more by a.target; exit_is = a.exit_is; hop = a.hop }

  hop-more : (packet : AtHand) (exit : Side) (host : Ip) → IsNextHop k P packet exit host → IsNextHop k Q packet exit host
  hop-more packet exit host (inl a) = inl (a.0, onward-more packet a.0 exit host a.1)
  hop-more packet exit host (inr b) = inr b

  wait-more : (packet : AtHand) (w : WaitsFor) → IsItsWait k P packet w → IsItsWait k Q packet w
  wait-more packet (wait.Pair e) is = is
  wait-more packet (wait.Hop exit host) is = (hop-more packet exit host is.0, is.1)

  host-more : (packet : AtHand) (exit : Side) (host : Ip) (c : Cause) → IsHost k P packet exit host c → IsHost k Q packet exit host c
  host-more packet exit host Waits is = hop-more packet exit host is
  host-more packet exit host Sends (inl is) = inl (hop-more packet exit host is)
  host-more packet exit host Sends (inr told) = inr told
  host-more packet exit host Drops is = hop-more packet exit host is

  pub new-more : (ws : List HeldPacket) → AllByRecursion (IsNew k P) ws → AllByRecursion (IsNew k Q) ws
  new-more [] all = tt
  new-more (w ∷ ws) all = (record { since = all.0.since; asked = all.0.asked; wait = wait-more (at_hand w.side w.bytes) w.wait all.0.wait }, new-more ws all.1)

  -- what may be asked for after a part could be asked for before it
  pub due-more : (g g2 : Shown) → NearStays k.moment g g2 → ((side : Side) (host : Ip) → asks_again k.moment (wait.Hop side host) g2.kept ≡ true → asks_again k.moment (wait.Hop side host) g.kept ≡ true)
      → (qs : List Asking) → AllByRecursion (IsDue g2 k P) qs → AllByRecursion (IsDue g k Q) qs
  due-more g g2 near again [] all = tt
  due-more g g2 near again (a ∷ qs) all =
      (record { hop = host-more a.packet a.exit a.host a.cause all.0.hop; cause = at a.exit a.host a.cause all.0.cause }, due-more g g2 near again qs all.1)
    where
      at : (exit : Side) (host : Ip) (c : Cause) → IsCause g2 k exit host c → IsCause g k exit host c
      at exit host Waits is = is
      at exit host Sends is = near exit host.0 is
      at exit host Drops is = (is.0, again exit host is.1)

new-asked : (k : Known) (P : Pair → Type 0) (now : ℕ) → k.moment ≡ now → (ws : List HeldPacket) → AllByRecursion (IsNew k P) ws → AllByRecursion (λ (w : HeldPacket). w.asked ≡ now) ws
new-asked k P now is [] all = tt
new-asked k P now is (w ∷ ws) all = (all.0.asked ∙ is, new-asked k P now is ws all.1)

-- ---- one part after the other

keeps-hops : (g : HeldPacket → Bool) → TakesNone g → KeepsHops (λ w. not (g w))
keeps-hops g none w hop = ap not (none w hop)

waiting-then : (now : ℕ) (f g : HeldPacket → Bool) (qs bs : List Asking) (came came2 a b c : List HeldPacket) → TakesNone g → IsByWait g → AllByRecursion (λ (w : HeldPacket). w.asked ≡ now) came2
    → Waiting now f qs came a b → Waiting now g bs came2 b c → Waiting now (λ w. f w || g w) (qs ++ bs) (filter (λ w. not (g w)) came ++ came2) a c
waiting-then now f g qs bs came came2 a b c none by new x y =
    let stays = λ (w : HeldPacket). not (g w) in
    let old = filter (λ (w : HeldPacket). not (f w)) a in
    let left = filter stays came in
    let rest = filter (λ (w : HeldPacket). not (f w || g w)) a in
    record {
      hops_are = filter-append (λ (w : HeldPacket). not (is_for_pair w.wait)) left came2
          ∙ ap (λ (ws : List HeldPacket). ws ++ hops_of came2) (hops-stay g none came ∙ x.hops_are)
          ∙ ap (λ (ws : List HeldPacket). map (waiting_by now) (firsts qs) ++ ws) y.hops_are
          ∙ sym (firsts-join now qs bs);
      kept_are = y.kept_are
          ∙ ap (λ (ws : List HeldPacket). all_noted now bs (within_limit (filter stays ws ++ came2))) x.kept_are
          ∙ noted-then now qs bs stays old came came2 (keeps-hops g none) (λ w n. ap not (by w n)) new
          ∙ ap (λ (ws : List HeldPacket). all_noted now (qs ++ bs) (within_limit (ws ++ came2))) (filter-append stays old came ∙ ap (λ (ws : List HeldPacket). ws ++ left) (filter-left f g a))
          ∙ ap (λ (ws : List HeldPacket). all_noted now (qs ++ bs) (within_limit ws)) (append_assoc rest left came2);
    }

pub asks-then : (h h2 : List AtHand) (f g : HeldPacket → Bool) (a b c : GatewayAndOutput) → Asks h f a b → IsAsking h2 g b c → Asks (h ++ h2) (λ w. f w || g w) a c
asks-then h h2 f g a b c x y =
    let z = y.asks in
    let now = a.shown.moment in
    let mid : b.shown.moment ≡ now = ap (λ (k : Known). k.moment) x.known in
    let end : (known_of c.shown).moment ≡ now = ap (λ (k : Known). k.moment) (z.known ∙ x.known) in
    let old = filter (λ (w : HeldPacket). not (f w)) a.shown.kept in
    let stays = λ (w : HeldPacket). not (g w) in
    let left = filter stays x.came in
    let has = MayGoBy a.shown (x.notes ++ z.notes) in
    let then_has = has-then a.shown b.shown x.notes z.notes x.roots in
    let more = has-more a.shown x.notes z.notes in
    let new1 = subst (λ (k : Known). AllByRecursion (IsNew k (MayGoBy a.shown x.notes)) x.came) (sym z.known) x.new in
    let due1 = subst (λ (k : Known). AllByRecursion (IsDue a.shown k (MayGoBy a.shown x.notes)) x.askings) (sym z.known) x.due in
    let newest1 = new-asked (known_of b.shown) (MayGoBy a.shown x.notes) now mid x.came x.new in
    let newest2 = new-asked (known_of c.shown) (MayGoBy b.shown z.notes) now end z.came z.new in
    let waits2 = subst (λ (n : ℕ). Waiting n g z.askings z.came b.shown.kept c.shown.kept) mid z.waiting in
    let near2 = subst (λ (n : ℕ). NearStays n b.shown c.shown) mid z.near in
    let near_end = subst (λ (n : ℕ). NearStays n a.shown b.shown) (sym end) x.near in
    let again : (side : Side) (host : Ip) → asks_again now (wait.Hop side host) b.shown.kept ≡ true → asks_again now (wait.Hop side host) a.shown.kept ≡ true =
    λ side host t. asks-before now (wait.Hop side host) x.askings (λ w. not (f w)) a.shown.kept x.came newest1
    (subst (λ (ws : List HeldPacket). asks_again now (wait.Hop side host) ws ≡ true) x.waiting.kept_are t) in
    let again_end = subst (λ (n : ℕ). (side : Side) (host : Ip) → asks_again n (wait.Hop side host) b.shown.kept ≡ true → asks_again n (wait.Hop side host) a.shown.kept ≡ true) (sym end) again in
    let taken : packets_of (filter g b.shown.kept) ≡ packets_of (filter g (old ++ x.came)) =
    ap (λ (ws : List HeldPacket). packets_of (filter g ws)) x.waiting.kept_are ∙ noted-taken now x.askings g (old ++ x.came) y.hops y.waits in
    let hands = comes-then f g a.shown.kept x.came z.came h h2 (packets_asked x.askings ++ x.gone) (packets_asked z.askings ++ z.gone) x.of_hand
    (subst (λ (ps : List AtHand). IsPermutation (h2 ++ ps) (packets_of z.came ++ (packets_asked z.askings ++ z.gone))) taken z.of_hand) in
    record {
      frames = x.frames ++ z.frames;
      frames_are = z.frames_are ∙ ap (λ (fs : List Sent). fs ++ z.frames) x.frames_are ∙ append_assoc a.told.frames x.frames z.frames;
      notes = x.notes ++ z.notes;
      notes_are = z.notes_are ∙ ap (λ (ns : List Note). ns ++ z.notes) x.notes_are ∙ append_assoc a.told.notes x.notes z.notes;
      roots = λ p t. then_has p (z.roots p t);
      askings = x.askings ++ z.askings;
      due = due-append a.shown (known_of c.shown) has x.askings z.askings
          (due-more (known_of c.shown) (MayGoBy a.shown x.notes) has more a.shown a.shown (λ side host t. t) (λ side host t. t) x.askings due1)
          (due-more (known_of c.shown) (MayGoBy b.shown z.notes) has then_has a.shown b.shown near_end again_end z.askings z.due);
      others = filter-append (λ (f : Sent). is_other c.shown.networks f.side f.bytes) x.frames z.frames
          ∙ ap (λ (k : Known). other_frames k.networks x.frames ++ other_frames c.shown.networks z.frames) z.known
          ∙ ap (λ (fs : List Sent). fs ++ other_frames c.shown.networks z.frames) x.others
          ∙ ap (λ (fs : List Sent). requests a.shown x.askings ++ fs) (z.others ∙ requests-same a.shown b.shown x.nets z.askings)
          ∙ sym (map-append (request_of a.shown) x.askings z.askings);
      came = left ++ z.came;
      new = all-append (IsNew (known_of c.shown) has) left z.came
          (all-filter (IsNew (known_of c.shown) has) stays x.came (new-more (known_of c.shown) (MayGoBy a.shown x.notes) has more x.came new1))
          (new-more (known_of c.shown) (MayGoBy b.shown z.notes) has then_has z.came z.new);
      waiting = waiting-then now f g x.askings z.askings x.came z.came a.shown.kept b.shown.kept c.shown.kept y.hops y.waits newest2 x.waiting waits2;
      gone = x.gone ++ z.gone;
      of_hand = subst (λ (ps : List AtHand). Comes-of (h ++ h2) (filter (λ w. f w || g w) a.shown.kept) (left ++ z.came) (ps ++ (x.gone ++ z.gone))) (sym (packets-join x.askings z.askings))
          (IsPermutation-trans _ _ _ hands (IsPermutation-append_right (packets_of (left ++ z.came)) _ _ (shuffled (packets_asked x.askings) x.gone (packets_asked z.askings) z.gone)));
      known = z.known ∙ x.known;
      near = λ side host t. x.near side host (near2 side host t);
      nets = (z.nets.0 ∙ x.nets.0, z.nets.1 ∙ x.nets.1);
      wired = z.wired;
      bytes = z.bytes;
    }
  where
    due-append : (g : Shown) (k : Known) (P : Pair → Type 0) (qs bs : List Asking) → AllByRecursion (IsDue g k P) qs → AllByRecursion (IsDue g k P) bs → AllByRecursion (IsDue g k P) (qs ++ bs)
    due-append g k P [] bs x y = y
    due-append g k P (a ∷ qs) bs x y = (x.0, due-append g k P qs bs x.1 y)

pub asking-then : (h h2 : List AtHand) (f g : HeldPacket → Bool) (a b c : GatewayAndOutput) → Ask-on h f a b → Ask-on h2 g b c → Ask-on (h ++ h2) (λ w. f w || g w) a c
asking-then h h2 f g a b c x y = λ w.
    let one = x w in
    let two = y (asks-fit h f a b one.asks) in
    record {
      asks = asks-then h h2 f g a b c one.asks two;
      hops = λ p hop. both (f p) (g p) (one.hops p hop) (two.hops p hop);
      waits = λ p n. ap (λ t. t || g (record p { asked = n })) (one.waits p n) ∙ ap (λ t. f p || t) (two.waits p n);
    }
  where
    both : (b c : Bool) → b ≡ false → c ≡ false → (b || c) ≡ false
    both true c x y = x
    both false c x y = y

-- a part at which no wait is over is such a part
pub asks-by : (hand : List AtHand) (s s2 : GatewayAndOutput) (frames : List Sent) (notes : List Note) (askings : List Asking) (came : List HeldPacket) (gone : List AtHand)
    → s2.told.frames ≡ s.told.frames ++ frames → s2.told.notes ≡ s.told.notes ++ notes → ((p : Pair) → IsTranslated s2.shown.ledger.book.entries p → MayGoBy s.shown notes p)
    → AllByRecursion (IsDue s.shown (known_of s.shown) (MayGoBy s.shown notes)) askings → other_frames s.shown.networks frames ≡ requests s.shown askings → AllByRecursion (IsNew (known_of s.shown) (MayGoBy s.shown notes)) came
    → hops_of came ≡ map (waiting_by s.shown.moment) (firsts askings) → s2.shown.kept ≡ all_noted s.shown.moment askings (within_limit (s.shown.kept ++ came))
    → IsPermutation hand (packets_of came ++ (packets_asked askings ++ gone)) → known_of s2.shown ≡ known_of s.shown → NearStays s.shown.moment s.shown s2.shown → NetsStay s.shown s2.shown → IsSetUp s2.shown → KeepsBytes s2.shown → IsAsking hand nobody s s2
asks-by hand s s2 frames notes askings came gone frames_are notes_are roots due others new hops kept of_hand known near nets wired bytes =
    let none : packets_of (filter nobody s.shown.kept) ≡ [] = ap packets_of (filter-none s.shown.kept) in
    let end = packets_of came ++ (packets_asked askings ++ gone) in
    record {
      asks = record {
        frames = frames;
        frames_are = frames_are;
        notes = notes;
        notes_are = notes_are;
        roots = roots;
        askings = askings;
        due = subst (λ (k : Known). AllByRecursion (IsDue s.shown k (MayGoBy s.shown notes)) askings) (sym known) due;
        others = subst (λ (k : Known). other_frames k.networks frames ≡ requests s.shown askings) (sym known) others;
        came = came;
        new = subst (λ (k : Known). AllByRecursion (IsNew k (MayGoBy s.shown notes)) came) (sym known) new;
        waiting = record {
          hops_are = hops;
          kept_are = kept ∙ ap (λ (ws : List HeldPacket). all_noted s.shown.moment askings (within_limit (ws ++ came))) (sym (filter-all s.shown.kept));
        };
        gone = gone;
        of_hand = subst (λ (ps : List AtHand). IsPermutation (hand ++ ps) end) (sym none) (subst (λ (ps : List AtHand). IsPermutation ps end) (sym (append-nil hand)) of_hand);
        known = known;
        near = near;
        nets = nets;
        wired = wired;
        bytes = bytes;
      };
      hops = λ x hop. refl;
      waits = λ x n. refl;
    }

-- the packets that wait stay the same, within the limit
pub kept-here : (kept : List HeldPacket) → hop_count kept ≤ 64 → kept ≡ within_limit (kept ++ [])
kept-here kept few =
    let same : kept ++ [] ≡ kept = append-nil kept in
    let few2 : hop_count (kept ++ []) ≤ 64 = subst (λ (ws : List HeldPacket). hop_count ws ≤ 64) (sym same) few in
    sym (limit-same (kept ++ []) few2 ∙ same)

-- the interfaces are the same, but for their routers
abbrev pub SameStations : Shown → Shown → Type 0
SameStations g g2 = NetsStay g g2 × ((g2.inside.neighbours ≡ g.inside.neighbours) × (g2.outside.neighbours ≡ g.outside.neighbours))

same-nets : (g g2 : Shown) → SameStations g g2 → NetsStay g g2
same-nets g g2 same = same.0

pub same-near : (now : ℕ) (g g2 : Shown) → SameStations g g2 → NearStays now g g2
same-near now g g2 same Inside host t = subst (λ (n : Neighbours). asks_at host now n ≡ true) same.1.0 t
same-near now g g2 same Outside host t = subst (λ (n : Neighbours). asks_at host now n ≡ true) same.1.1 t

-- a part that sends no frame and leaves the packets that wait
pub record IsQuiet (s s2 : GatewayAndOutput) : Type 0 where
  pub frames : s2.told.frames ≡ s.told.frames
  pub notes : List Note
  pub notes_are : s2.told.notes ≡ s.told.notes ++ notes
  pub roots : (p : Pair) → IsTranslated s2.shown.ledger.book.entries p → MayGoBy s.shown notes p
  pub kept : s2.shown.kept ≡ s.shown.kept
  pub known : known_of s2.shown ≡ known_of s.shown
  pub stations : SameStations s.shown s2.shown
  pub wired : IsSetUp s.shown → IsSetUp s2.shown

-- a part that is quiet drops the packets at hand
pub quiet-asks : (hand : List AtHand) (s s2 : GatewayAndOutput) → IsQuiet s s2 → Ask-on hand nobody s s2
quiet-asks hand s s2 q = λ w.
    asks-by hand s s2 [] q.notes [] [] hand (q.frames ∙ sym (append-nil s.told.frames)) q.notes_are q.roots tt refl tt refl (q.kept ∙ kept-here s.shown.kept w.1.0)
    (IsPermutation-refl hand) q.known (same-near s.shown.moment s.shown s2.shown q.stations) (same-nets s.shown s2.shown q.stations) (q.wired w.0) (kept-bytes s.shown s2.shown q.kept w.1.1)

-- a part that sends no frame, notes nothing, and leaves the table and the packets that wait, is quiet
pub quiet-by : (s s2 : GatewayAndOutput) → s2.told.frames ≡ s.told.frames → s2.told.notes ≡ s.told.notes → s2.shown.ledger.book.entries ≡ s.shown.ledger.book.entries → s2.shown.kept ≡ s.shown.kept → known_of s2.shown ≡ known_of s.shown
    → SameStations s.shown s2.shown → (IsSetUp s.shown → IsSetUp s2.shown) → IsQuiet s s2
quiet-by s s2 frames notes entries kept known stations wired = record {
  frames = frames;
  notes = [];
  notes_are = notes ∙ sym (append-nil s.told.notes);
  roots = same-rooted s.shown.ledger.book.entries s2.shown.ledger.book.entries [] entries;
  kept = kept;
  known = known;
  stations = stations;
  wired = wired;
}

pub row-quiet : (s : GatewayAndOutput) (row : Transition) → RowRoots s.shown.ledger.book row → IsQuiet s (by_row s row)
row-quiet s row roots = record {
  frames = refl;
  notes = noted_by (id_of s.shown) s.shown.moment row.what;
  notes_are = refl;
  roots = roots (id_of s.shown) s.shown.moment;
  kept = refl;
  known = refl;
  stations = ((refl, refl), (refl, refl));
  wired = λ w. w;
}

pub nothing-quiet : (s : GatewayAndOutput) → IsQuiet s s
nothing-quiet s = quiet-by s s refl refl refl refl refl ((refl, refl), (refl, refl)) (λ w. w)

pub nothing-asks : (hand : List AtHand) (s : GatewayAndOutput) → Ask-on hand nobody s s
nothing-asks hand s = quiet-asks hand s s (nothing-quiet s)

-- a part stays quiet where ports are asked for behind it
pub asking-quiet : (s : GatewayAndOutput) → Keeps (IsQuiet s)
asking-quiet s m paired q = record {
  frames = q.frames;
  notes = q.notes;
  notes_are = append-nil m.told.notes ∙ q.notes_are;
  roots = q.roots;
  kept = q.kept;
  known = q.known;
  stations = q.stations;
  wired = q.wired;
}

pub wanted-quiet : (s : GatewayAndOutput) (e : Endpoint) → IsQuiet s (wanted_by s e)
wanted-quiet s e =
    let b = s.shown.ledger.book in
    let apart = is_apart s.shown in
    let full = is_full s.shown.link in
    row-behind (IsQuiet s) s (wish_of b apart full e).row (asking-quiet s) (row-quiet s (wish_of b apart full e).row (wish-roots b apart full e))

pub wanted-for-quiet : (s : GatewayAndOutput) (flow : Flow) (by : Translation) → IsQuiet s (wanted_for s flow by)
wanted-for-quiet s flow (Outward p) = wanted-quiet s (source_of flow)
wanted-for-quiet s flow (Inward p) = nothing-quiet s
wanted-for-quiet s flow (Hairpin own other) = wanted-quiet s (source_of flow)
