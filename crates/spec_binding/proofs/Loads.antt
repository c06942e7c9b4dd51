-- Each record at a gateway that isn't synced is an act of the machine.
use Rattle.std.proofs.Common.{◌≡◌, ℕ, zero, suc, ◌+◌, ◌-◌, ◌<◌, ◌≤◌, ◌==◌, Bool, true, false, cond, not, ◌&&◌, nat_le, nat_lt, is_none, is_some, Option, Some, None, inl, inr, List, [], ◌∷◌, ◌++◌, length, refl, sym, ap, ◌∙◌, arith}
use Rattle.std.proofs.lemmas.Bool.{and_from, and_parts, both_ways, cases_Bool, cases_eq, cond-true, le-leb, le-ltb, lt-leb, lt-ltb, ltb-false, ltb-true, not-true, eq-eqb}
use Rattle.std.proofs.lemmas.List.{map-append, append-nil}
use Rattle.addresses.specs.declared.transport.Port.{Port}
use Rattle.nat_types.proofs.Offered.{key-true}
use Rattle.nat_types.specs.Same.{same_key}
use Rattle.nat_types.specs.declared.notes.NoteKind.TheVariants as happens
use Rattle.nat_types.specs.declared.pairs.EntryState.{EntryState}
use Rattle.nat_types.specs.declared.pairs.EntryState.TheVariants as state
use Rattle.nat_types.specs.declared.pairs.Endpoint.{Endpoint}
use Rattle.nat_types.specs.declared.pairs.Key.{Key}
use Rattle.nat_types.specs.declared.pairs.Pair.{Pair}
use Rattle.nat_types.specs.declared.records.Record.{Record}
use Rattle.nat_types.specs.declared.records.Record.TheVariants as rec
use Rattle.slots.specs.declared.ranks.Rank.{Rank}
use Rattle.slots.specs.declared.ranks.Rank.TheVariants.{First, Second}
use Rattle.bindings.specs.declared.entries.Entry.{Entry}
use Rattle.bindings.specs.declared.entries.PortBounds.{PortBounds}
use Rattle.bindings.specs.Entries.{slot_of, entry_of, entry_on, entry_in, is_of_rank, is_taken, rank_of, HasDistinctKeys}
use Rattle.bindings.specs.Ports.{in_either}
use Rattle.bindings.proofs.Offered.{none_from_is_none, entry-serves, entry-slot, found-slot, ranked-serves, listed-all, listed-filter}
use Rattle.port_range.specs.Ports.{is_listed, is_within}
use Rattle.link.specs.Link.{Link}
use Rattle.resync.specs.Loading.{Load, all_in, is_beside, is_new, loaded_state, names_run, none_yet, with_pair, with_run}
use Rattle.spec_pair.specs.Acts.{LoadBegin, LoadOwner, LoadPut, LoadDone, LoadSkip, IsMisplaced}
use Rattle.spec_pair.specs.Box.{Letter}
use Rattle.spec_pair.specs.Mapped.{machine_record, slot_in}
use Rattle.spec_pair.specs.Ownership.{IsRisingRun, in_run}
use Rattle.spec_pair.specs.Talk as machine
use Rattle.spec_pair.specs.Talk.{MachineRecord, IsUnbound, IsUnboundOn}
use Rattle.spec_binding.specs.declared.setups.Stage.{Stage}
use Rattle.spec_binding.specs.declared.setups.Stage.TheVariants.{Unsynced, Paired, Lone}
use Rattle.spec_binding.specs.Books.{Book, IsBook, in_ranges, is_any, is_lone, is_synced, load_of, owns}
use Rattle.spec_binding.specs.Machine.{box_at, machine_records, machine_slot, promised_of, ranges_of, slots_of, Stands}
use Rattle.spec_binding.specs.Rows.{load_taken, load_what, unsynced_after, unsynced_what}
use Rattle.spec_binding.proofs.Members.{none-at, slot-free}
use Rattle.spec_binding.proofs.Parts.{act-step}
use Rattle.spec_binding.proofs.Slots.{held-state, slots-at, slots-none, slots-put}
use Rattle.spec_binding.proofs.Taking.{IsReading, Makes, is-unbound, reads, unranked}

-- where no pair of the table has the endpoint, no entry serves it
none-of : (c : Book) (e : Endpoint) → IsBook c → IsUnbound (slots_of c.entries) e → is_none (entry_of c.entries e) ≡ true
none-of c e is new = at (entry_of c.entries e) refl
  where
    at : (o : Option Entry) → entry_of c.entries e ≡ o → is_none o ≡ true
    at None h = refl
    at (Some x) h =
        let serving = entry-serves c.entries e x h in
        absurd (new x.pair.key (ap machine.held (slots-at c.entries x.pair.key x (entry-slot c.entries e x is.keys h)) ∙ held-state x.state x.pair.endpoint serving.0 ∙ ap Some serving.1))

-- a pair that is put is on a port of the ranges, and new
pub record IsFresh (l : Load) (p : Pair) : Type 0 where
  pub inside : in_either l.zero l.one p.key.port.0 ≡ true
  pub key : slot_of l.entries p.key ≡ None
  pub endpoint : entry_of l.entries p.endpoint ≡ None

pub is-fresh : (l : Load) (p : Pair) → is_new l p ≡ true → IsFresh l p
is-fresh l p g =
    let parts = and_parts (in_either l.zero l.one p.key.port.0) (is_none (slot_of l.entries p.key) && is_none (entry_of l.entries p.endpoint)) g in
    let more = and_parts (is_none (slot_of l.entries p.key)) (is_none (entry_of l.entries p.endpoint)) parts.1 in
    record { inside = parts.0; key = none_from_is_none (slot_of l.entries p.key) more.0; endpoint = none_from_is_none (entry_of l.entries p.endpoint) more.1 }

-- the rank of the pairs on a side: own ones, or Held ones
abbrev pub rank_on : Bool → Rank
rank_on true = First
rank_on false = Second

-- a slot holds an endpoint on a side exactly where its state has the side's rank
held-side : (own : Bool) (s : EntryState) (e x : Endpoint) → machine.held_on own (slot_in s e) ≡ Some x → (is_of_rank (rank_on own) s ≡ true) × (e ≡ x)
held-side true (state.Pending m) e x t = (refl, cc)
held-side true state.Doomed e x t = cc
held-side true state.Live e x t = (refl, cc)
held-side true (state.Closing m) e x t = (refl, cc)
held-side true state.Alone e x t = (refl, cc)
held-side true state.Held e x t = cc
held-side false (state.Pending m) e x t = cc
held-side false state.Doomed e x t = cc
held-side false state.Live e x t = cc
held-side false (state.Closing m) e x t = cc
held-side false state.Alone e x t = cc
held-side false state.Held e x t = (refl, cc)

side-held : (own : Bool) (s : EntryState) (e : Endpoint) → is_of_rank (rank_on own) s ≡ true → machine.held_on own (slot_in s e) ≡ Some e
side-held true (state.Pending m) e t = refl
side-held true state.Doomed e t = cc
side-held true state.Live e t = refl
side-held true (state.Closing m) e t = refl
side-held true state.Alone e t = refl
side-held true state.Held e t = cc
side-held false (state.Pending m) e t = cc
side-held false state.Doomed e t = cc
side-held false state.Live e t = cc
side-held false (state.Closing m) e t = cc
side-held false state.Alone e t = cc
side-held false state.Held e t = refl

-- an endpoint without a pair of the rank is new to that side of the machine's table
unbound-on : (own : Bool) (es : List Entry) (e : Endpoint) → entry_on (rank_on own) es e ≡ None → IsUnboundOn own (slots_of es) e
unbound-on own es e none q h = at (slot_of es q) refl h
  where
    at : (o : Option Entry) → slot_of es q ≡ o → machine.held_on own (machine_slot o) ≡ Some e → ⊥
    at None found h = cc
    at (Some x) found h = let parts = held-side own x.state x.pair.endpoint e h in unranked es (rank_on own) e q x none found parts.0 parts.1

-- and the other way round
none-on : (own : Bool) (es : List Entry) (e : Endpoint) → HasDistinctKeys es → IsUnboundOn own (slots_of es) e → is_some (entry_on (rank_on own) es e) ≡ false
none-on own es e keys new = at (entry_on (rank_on own) es e) refl
  where
    at : (o : Option Entry) → entry_on (rank_on own) es e ≡ o → is_some o ≡ false
    at None h = refl
    at (Some x) h =
        let serving = ranked-serves (rank_on own) es e x h in
        absurd (new x.pair.key (ap (machine.held_on own) (slots-at es x.pair.key x (found-slot _ es x keys h)) ∙ side-held own x.state x.pair.endpoint serving.0 ∙ ap Some serving.1))

-- a loaded pair is of the rank of its side
loaded-rank : (owned : List ℕ) (port : ℕ) (es : List Entry) (e : Endpoint) → is_taken (rank_of (loaded_state owned port)) es e ≡ is_some (entry_on (rank_on (is_listed port owned)) es e)
loaded-rank owned port es e = at (is_listed port owned)
  where
    at : (t : Bool) → is_taken (rank_of (let s : EntryState = cond t state.Live state.Held in s)) es e ≡ is_some (entry_on (rank_on t) es e)
    at true = refl
    at false = refl

none-some : (o : Option Entry) → is_some o ≡ false → o ≡ None
none-some None h = refl
none-some (Some x) h = cc

-- a pair that is told is on a port of the ranges, new in key, and its endpoint has no pair on its side
pub record IsApart (l : Load) (p : Pair) : Type 0 where
  pub inside : in_either l.zero l.one p.key.port.0 ≡ true
  pub key : slot_of l.entries p.key ≡ None
  pub endpoint : is_taken (rank_of (loaded_state l.owned p.key.port.0)) l.entries p.endpoint ≡ false

pub is-apart : (l : Load) (p : Pair) → is_beside l p ≡ true → IsApart l p
is-apart l p g =
    let taken = is_taken (rank_of (loaded_state l.owned p.key.port.0)) l.entries p.endpoint in
    let parts = and_parts (in_either l.zero l.one p.key.port.0) (is_none (slot_of l.entries p.key) && not taken) g in
    let more = and_parts (is_none (slot_of l.entries p.key)) (not taken) parts.1 in
    record { inside = parts.0; key = none_from_is_none (slot_of l.entries p.key) more.0; endpoint = not-true taken more.1 }

-- ---- an Owner in its place, or out of it

all-in-is : (z o : PortBounds) (first k p : ℕ) → all_in z o first k ≡ true → first ≤ p → p < first + k → in_either z o p ≡ true
all-in-is z o first zero p h low high = absurd (omega (arith, low, high))
all-in-is z o first (suc k) p h low high =
    let parts = and_parts (in_either z o first) (all_in z o (first + 1) k) h in
    elim (cases_eq p first) [
      | inl e ↦ ap (in_either z o) e ∙ parts.0
      | inr n ↦ all-in-is z o (first + 1) k p parts.1 (over p first low n) (omega (arith, high))
    ]
  where
    over : (a b : ℕ) → b ≤ a → (a ≡ b → ⊥) → b + 1 ≤ a
    over a b h n = omega (arith, h, n)

is-all-in : (z o : PortBounds) (first k : ℕ) → ((p : ℕ) → first ≤ p → p < first + k → in_either z o p ≡ true) → all_in z o first k ≡ true
is-all-in z o first zero h = refl
is-all-in z o first (suc k) h = and_from (in_either z o first) (all_in z o (first + 1) k) (h first (omega arith) (omega arith)) (is-all-in z o (first + 1) k (λ p low high. h p (omega (arith, low)) (omega (arith, high))))

pub run-is : (l : Load) (first last : ℕ) → names_run l first last ≡ true → IsRisingRun (λ p. in_either l.zero l.one p) l.named first last
run-is l first last h =
    let one = and_parts (nat_lt l.named first) (not (nat_lt last first) && all_in l.zero l.one first (last + 1 - first)) h in
    let two = and_parts (not (nat_lt last first)) (all_in l.zero l.one first (last + 1 - first)) one.1 in
    let le : first ≤ last = ltb-false last first (not-true (nat_lt last first) two.0) in
    (ltb-true l.named first one.0, le, λ p low high. all-in-is l.zero l.one first (last + 1 - first) p two.1 low (omega (arith, le, low, high)))

is-run : (l : Load) (first last : ℕ) → IsRisingRun (λ p. in_either l.zero l.one p) l.named first last → names_run l first last ≡ true
is-run l first last h =
    let le = h.1 in
    and_from (nat_lt l.named first) (not (nat_lt last first) && all_in l.zero l.one first (last + 1 - first)) (lt-ltb l.named first h.0)
    (and_from (not (nat_lt last first)) (all_in l.zero l.one first (last + 1 - first)) (ap not (le-ltb last first le))
    (is-all-in l.zero l.one first (last + 1 - first) (λ p low high. h.2 p low (omega (arith, le, low, high)))))

pub none-is : (es : List Entry) → none_yet es ≡ true → es ≡ []
none-is [] h = refl
none-is (x ∷ xs) h = absurd (both_ways false refl h)

is-none-yet : (es : List Entry) → ((k : Key) → slots_of es k ≡ machine.Free) → none_yet es ≡ true
is-none-yet [] h = refl
is-none-yet (x ∷ xs) h =
    let found : slot_of (x ∷ xs) x.pair.key ≡ Some x = cond-true (same_key x.pair.key x.pair.key) (Some x) (slot_of xs x.pair.key) (key-true x.pair.key x.pair.key refl) in
    absurd (slot-free x.state x.pair.endpoint (sym (slots-at (x ∷ xs) x.pair.key x found) ∙ h x.pair.key))

other-test : (a b : ℕ) → nat_le a b ≡ not (nat_lt b a)
other-test a b = elim (cases_Bool (nat_lt b a)) [
  | inl lt ↦ lt-leb a b (ltb-true b a lt) ∙ ap not (sym lt)
  | inr ge ↦ le-leb a b (ltb-false b a ge) ∙ ap not (sym ge)
]

-- both definitions of a port within a run agree
pub within-run : (first last p : ℕ) → is_within first last p ≡ in_run first last p
within-run first last p = ap (λ b. b && nat_le p last) (other-test first p) ∙ ap (λ b. not (nat_lt p first) && b) (other-test p last)

-- ---- the acts

pub lone-not : (s : Stage) → is_synced s ≡ false → is_lone s ≡ false
lone-not Unsynced h = refl
lone-not Paired h = cc
lone-not Lone h = cc

module _ (now : ℕ) (c : Book) (e : Link) (h : List Record) (n : ℕ) (letters : List Letter) (words : List ℕ) (unsynced : is_synced c.stage ≡ false) where
  sent-none : machine_records (h ++ []) ≡ machine_records h
  sent-none = map-append machine_record h [] ∙ append-nil (machine_records h)

  skip-load : (q : MachineRecord) → IsReading c e h n letters q → IsMisplaced (ranges_of c) (box_at c e h n) q → Makes now c e h n letters words c None None
  skip-load q g out =
      act-step (ranges_of c) c.id now (box_at c e h n) (box_at c e (h ++ []) (suc n)) (LoadSkip g.letter g.offset q) letters words []
      (unsynced, g.next, out) (reads now c e h n letters words q g, tt)
      (record { up = refl; boot = refl; synced = refl; lone = refl; peer = refl; table = λ k. refl; sent = sent-none; taken = refl; loading = refl; owned = λ p. refl; wants = refl; named = refl; promised = refl })
      refl (λ m. refl)

  begin-load : IsReading c e h n letters machine.Begin → Makes now c e h n letters words (unsynced_after c rec.Begin) None None
  begin-load g =
      act-step (ranges_of c) c.id now (box_at c e h n) (box_at (unsynced_after c rec.Begin) e (h ++ []) (suc n)) (LoadBegin g.letter g.offset) letters words []
      (unsynced, g.next) (reads now c e h n letters words machine.Begin g, tt)
      (record { up = refl; boot = refl; synced = refl; lone = refl; peer = refl; table = λ k. refl; sent = sent-none; taken = refl; loading = refl; owned = λ p. listed-all c.zero c.one p; wants = refl; named = refl; promised = refl })
      refl (λ m. refl)

  put-slot : (t : Bool) (x : Endpoint) → slot_in (let s : EntryState = cond t state.Live state.Held in s) x ≡ cond t (machine.Live x) (machine.Held x)
  put-slot true x = refl
  put-slot false x = refl

  put-load : (p : Pair) → c.begun ≡ true → IsFresh (load_of c) p → IsReading c e h n letters (machine.Put p.key p.endpoint) → Makes now c e h n letters words (load_taken c (rec.Put p) (Some (with_pair (load_of c) p))) None (Some (happens.Retaken p))
  put-load p begun f g =
      let c2 : Book = load_taken c (rec.Put p) (Some (with_pair (load_of c) p)) in
      act-step (ranges_of c) c.id now (box_at c e h n) (box_at c2 e (h ++ []) (suc n)) (LoadPut g.letter g.offset (record { pair = p; told = false })) letters words (machine.note c.id now (happens.Retaken p) ∷ [])
      (unsynced, begun, slots-none c.entries p.key f.key, is-unbound c.entries p.endpoint f.endpoint, g.next, f.inside) (reads now c e h n letters words (machine.Put p.key p.endpoint) g, tt)
      (record {
        up = refl;
        boot = refl;
        synced = refl;
        lone = refl;
        peer = refl;
        table = λ k. slots-put (entry_in (loaded_state c.owned p.key.port.0) p) c.entries f.key k ∙ ap (λ (s : machine.Slot). machine.set_at (slots_of c.entries) p.key s k) (put-slot (is_listed p.key.port.0 c.owned) p.endpoint);
        sent = sent-none;
        taken = refl;
        loading = refl;
        owned = λ p. refl;
        wants = refl;
        named = refl;
        promised = refl;
      })
      refl (λ m. refl)

  puts : IsBook c → (p : Pair) → IsReading c e h n letters (machine.Put p.key p.endpoint) → Makes now c e h n letters words (unsynced_after c (rec.Put p)) None (unsynced_what c (rec.Put p))
  puts is p g = at (c.begun && is_new (load_of c) p) refl
    where
      at : (t : Bool) → (c.begun && is_new (load_of c) p) ≡ t
          → (let o : Option Load = cond t (Some (with_pair (load_of c) p)) None in Makes now c e h n letters words (load_taken c (rec.Put p) o) None (load_what (rec.Put p) o))
      at true there = let parts = and_parts c.begun (is_new (load_of c) p) there in put-load p parts.0 (is-fresh (load_of c) p parts.1) g
      at false stale = skip-load (machine.Put p.key p.endpoint) g (λ begun inside free new.
          both_ways (c.begun && is_new (load_of c) p) stale
          (and_from c.begun (is_new (load_of c) p) begun
          (and_from (in_ranges c p.key.port.0) (is_none (slot_of c.entries p.key) && is_none (entry_of c.entries p.endpoint)) inside
          (and_from (is_none (slot_of c.entries p.key)) (is_none (entry_of c.entries p.endpoint)) (none-at c.entries p.key free) (none-of c p.endpoint is new)))))

  tell-load : (p : Pair) → c.begun ≡ true → IsApart (load_of c) p → IsReading c e h n letters (machine.Tell p.key p.endpoint) → Makes now c e h n letters words (load_taken c (rec.Tell p) (Some (with_pair (load_of c) p))) None (Some (happens.Retaken p))
  tell-load p begun f g =
      let c2 : Book = load_taken c (rec.Tell p) (Some (with_pair (load_of c) p)) in
      act-step (ranges_of c) c.id now (box_at c e h n) (box_at c2 e (h ++ []) (suc n)) (LoadPut g.letter g.offset (record { pair = p; told = true })) letters words (machine.note c.id now (happens.Retaken p) ∷ [])
      (unsynced, begun, slots-none c.entries p.key f.key, unbound-on (is_listed p.key.port.0 c.owned) c.entries p.endpoint (none-some _ (sym (loaded-rank c.owned p.key.port.0 c.entries p.endpoint) ∙ f.endpoint)), g.next, f.inside) (reads now c e h n letters words (machine.Tell p.key p.endpoint) g, tt)
      (record {
        up = refl;
        boot = refl;
        synced = refl;
        lone = refl;
        peer = refl;
        table = λ k. slots-put (entry_in (loaded_state c.owned p.key.port.0) p) c.entries f.key k ∙ ap (λ (s : machine.Slot). machine.set_at (slots_of c.entries) p.key s k) (put-slot (is_listed p.key.port.0 c.owned) p.endpoint);
        sent = sent-none;
        taken = refl;
        loading = refl;
        owned = λ p. refl;
        wants = refl;
        named = refl;
        promised = refl;
      })
      refl (λ m. refl)

  tells : IsBook c → (p : Pair) → IsReading c e h n letters (machine.Tell p.key p.endpoint) → Makes now c e h n letters words (unsynced_after c (rec.Tell p)) None (unsynced_what c (rec.Tell p))
  tells is p g = at (c.begun && is_beside (load_of c) p) refl
    where
      taken : Bool
      taken = is_taken (rank_of (loaded_state c.owned p.key.port.0)) c.entries p.endpoint

      at : (t : Bool) → (c.begun && is_beside (load_of c) p) ≡ t
          → (let o : Option Load = cond t (Some (with_pair (load_of c) p)) None in Makes now c e h n letters words (load_taken c (rec.Tell p) o) None (load_what (rec.Tell p) o))
      at true there = let parts = and_parts c.begun (is_beside (load_of c) p) there in tell-load p parts.0 (is-apart (load_of c) p parts.1) g
      at false stale = skip-load (machine.Tell p.key p.endpoint) g (λ begun inside free new.
          both_ways (c.begun && is_beside (load_of c) p) stale
          (and_from c.begun (is_beside (load_of c) p) begun
          (and_from (in_ranges c p.key.port.0) (is_none (slot_of c.entries p.key) && not taken) inside
          (and_from (is_none (slot_of c.entries p.key)) (not taken) (none-at c.entries p.key free)
          (ap not (loaded-rank c.owned p.key.port.0 c.entries p.endpoint ∙ none-on (is_listed p.key.port.0 c.owned) c.entries p.endpoint is.keys new))))))

  -- an unsynced gateway has no batch promised
  no-promise : IsBook c → Stands c e h → promised_of e ≡ None
  no-promise is stands = at c.coming (λ any. both_ways (is_synced c.stage) unsynced (ap is_synced (is.promised any))) stands.coming
    where
      at : (rs : List Record) → (is_any rs ≡ true → ⊥) → length rs ≡ e.promised → promised_of e ≡ None
      at [] bare count = cond-true (e.promised == 0) None (Some (e.acknowledged + length e.fed + e.promised - 1)) (eq-eqb e.promised 0 (sym count))
      at (r ∷ rs) bare count = absurd (bare refl)

  dones : IsBook c → Stands c e h → IsReading c e h n letters machine.Done → Makes now c e h n letters words (unsynced_after c rec.Done) None (unsynced_what c rec.Done)
  dones is stands g = at c.begun refl
    where
      c2 : Book
      c2 = load_taken c rec.Done (Some (record (load_of c) { begun = false }))

      at : (t : Bool) → c.begun ≡ t
          → (let o : Option Load = cond t (Some (record (load_of c) { begun = false })) None in Makes now c e h n letters words (load_taken c rec.Done o) None (load_what rec.Done o))
      at true begun =
          act-step (ranges_of c) c.id now (box_at c e h n) (box_at c2 e (h ++ []) (suc n)) (LoadDone g.letter g.offset) letters words (machine.note c.id now happens.Synced ∷ [])
          (unsynced, begun, g.next) (reads now c e h n letters words machine.Done g, tt)
          (record { up = refl; boot = refl; synced = refl; lone = refl; peer = refl; table = λ k. refl; sent = sent-none; taken = refl; loading = refl; owned = λ p. refl; wants = refl; named = refl; promised = no-promise is stands })
          refl (λ m. refl)
      at false idle = skip-load machine.Done g (λ begun. both_ways c.begun idle begun)

  cut-owned : (first last p : ℕ) → is_listed p (with_run (load_of c) first last).owned ≡ cond (in_run first last p) false (owns c p)
  cut-owned first last p = listed-filter (λ q. not (is_within first last q)) c.owned p ∙ ap (λ b. not b && owns c p) (within-run first last p) ∙ at (in_run first last p) (owns c p)
    where
      at : (a b : Bool) → (not a && b) ≡ cond a false b
      at true b = refl
      at false b = refl

  owners : (first last : Port) → IsReading c e h n letters (machine_record (rec.Owner first last)) → Makes now c e h n letters words (unsynced_after c (rec.Owner first last)) None (unsynced_what c (rec.Owner first last))
  owners first last g = at (c.begun && (none_yet c.entries && names_run (load_of c) first.0 last.0)) refl
    where
      c2 : Book
      c2 = load_taken c (rec.Owner first last) (Some (with_run (load_of c) first.0 last.0))

      at : (t : Bool) → (c.begun && (none_yet c.entries && names_run (load_of c) first.0 last.0)) ≡ t
          → (let o : Option Load = cond t (Some (with_run (load_of c) first.0 last.0)) None in Makes now c e h n letters words (load_taken c (rec.Owner first last) o) None (load_what (rec.Owner first last) o))
      at true there =
          let one = and_parts c.begun (none_yet c.entries && names_run (load_of c) first.0 last.0) there in
          let two = and_parts (none_yet c.entries) (names_run (load_of c) first.0 last.0) one.1 in
          act-step (ranges_of c) c.id now (box_at c e h n) (box_at c2 e (h ++ []) (suc n)) (LoadOwner g.letter g.offset first.0 last.0) letters words []
          (unsynced, one.0, (λ k. ap (λ (es : List Entry). slots_of es k) (none-is c.entries two.0)), run-is (load_of c) first.0 last.0 two.1, g.next) (reads now c e h n letters words (machine_record (rec.Owner first last)) g, tt)
          (record { up = refl; boot = refl; synced = refl; lone = refl; peer = refl; table = λ k. refl; sent = sent-none; taken = refl; loading = refl; owned = cut-owned first.0 last.0; wants = refl; named = refl; promised = refl })
          refl (λ m. refl)
      at false stale = skip-load (machine_record (rec.Owner first last)) g (λ begun empty run.
          both_ways (c.begun && (none_yet c.entries && names_run (load_of c) first.0 last.0)) stale
          (and_from c.begun (none_yet c.entries && names_run (load_of c) first.0 last.0) begun
          (and_from (none_yet c.entries) (names_run (load_of c) first.0 last.0) (is-none-yet c.entries empty) (is-run (load_of c) first.0 last.0 run))))

  pub load-steps : IsBook c → Stands c e h → (r : Record) → IsReading c e h n letters (machine_record r) → Makes now c e h n letters words (unsynced_after c r) None (unsynced_what c r)
  load-steps is stands (rec.Install p) g = skip-load _ g tt
  load-steps is stands (rec.Accept k) g = skip-load _ g tt
  load-steps is stands (rec.Refuse k) g = skip-load _ g tt
  load-steps is stands (rec.Ask k) g = skip-load _ g tt
  load-steps is stands (rec.Yes k) g = skip-load _ g tt
  load-steps is stands (rec.No k) g = skip-load _ g tt
  load-steps is stands rec.Begin g = begin-load g
  load-steps is stands (rec.Put p) g = puts is p g
  load-steps is stands rec.Done g = dones is stands g
  load-steps is stands rec.Want g = skip-load _ g tt
  load-steps is stands (rec.Grant given) g = skip-load _ g tt
  load-steps is stands (rec.Owner first last) g = owners first last g
  load-steps is stands (rec.Tell p) g = tells is p g
