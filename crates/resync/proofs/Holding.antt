-- What is loaded of a whole batch.
use Rattle.std.proofs.Common.{◌≡◌, ℕ, ◌≤◌, ◌==◌, Bool, true, false, cond, not, ◌&&◌, ◌||◌, Some, List, [], ◌∷◌, ◌++◌, map, take, drop, refl, sym, ap, ◌∙◌, arith, append_assoc, append-nil}
use Rattle.std.specs.List.{filter, AllByRecursion}
use Rattle.std.proofs.lemmas.Bool.{or_left, or_right, eq-eqb}
use Rattle.std.proofs.lemmas.List.{take-append-drop}
use Rattle.std.proofs.lemmas.List.Elements.{filter_agree}
use Rattle.nat_types.specs.declared.pairs.EntryState.{EntryState}
use Rattle.nat_types.specs.declared.pairs.EntryState.TheVariants.{Live, Held}
use Rattle.nat_types.specs.declared.pairs.Key.{Key}
use Rattle.nat_types.specs.declared.pairs.Pair.{Pair}
use Rattle.nat_types.specs.declared.records.Record.{Record}
use Rattle.nat_types.specs.declared.records.Record.TheVariants.{Done}
use Rattle.bindings.specs.declared.entries.Entry.{Entry}
use Rattle.bindings.specs.declared.entries.PortBounds.{PortBounds}
use Rattle.slots.specs.declared.ranks.Rank.TheVariants.{Second}
use Rattle.bindings.specs.Entries.{is_of_rank, slot_of, entry_in, pairs_in}
use Rattle.bindings.specs.Ports.{in_either}
use Rattle.bindings.specs.Runs.{runs_of, all_ports}
use Rattle.bindings.specs.Table.{Table, IsTable, AreInRanges}
use Rattle.bindings.proofs.Offered.{listed-filter, listed-all, slot-key}
use Rattle.port_range.specs.Ports.{is_listed, is_within, RiseAbove}
use Rattle.resync.specs.Batch.{is_settled, owners_of, puts_of, batch_of, HasNoDoomed, AreHeldElsewhere, CanBeSent}
use Rattle.resync.specs.Loading.{Load, begun, none_yet}
use Rattle.resync.specs.Whole.{Ended, drawn, undrawn, until_done, last_of, ports_left, entry_loaded, entries_loaded, load_of_table}
use Rattle.resync.proofs.Behind.{table-strict}
use Rattle.resync.proofs.Naming.{runs-load, within-one}
use Rattle.resync.proofs.Putting.{IsListed, entry_at, puts-load, are-apart, all-inside, none-before}
use Rattle.resync.proofs.Slotted.{all-slots}

-- ---- draws

pub draws-join : (sizes : List ℕ) (batch : List Record) → drawn sizes batch ++ undrawn sizes batch ≡ batch
draws-join [] batch = refl
draws-join (n ∷ sizes) batch =
    append_assoc (take n batch) (drawn sizes (drop n batch)) (undrawn sizes (drop n batch))
    ∙ ap (λ rs. take n batch ++ rs) (draws-join sizes (drop n batch)) ∙ take-append-drop n batch

draws-all : (sizes : List ℕ) (batch : List Record) → undrawn sizes batch ≡ [] → drawn sizes batch ≡ batch
draws-all sizes batch none = sym (append-nil (drawn sizes batch)) ∙ ap (λ rs. drawn sizes batch ++ rs) (sym none) ∙ draws-join sizes batch

-- ---- the Owners

filter-all : (xs : List ℕ) → filter (λ q. not false) xs ≡ xs
filter-all [] = refl
filter-all (x ∷ xs) = ap (λ zs. x ∷ zs) (filter-all xs)

abbrev after_owners : Load → List ℕ → Load
after_owners l owned = record l { named = last_of l.named owned; owned = filter (λ q. not (is_listed q owned)) l.owned }

owners-load : (l : Load) (owned : List ℕ) (tail : List Record) → l.begun ≡ true → none_yet l.entries ≡ true → RiseAbove l.named owned
    → ((q : ℕ) → is_listed q owned ≡ true → in_either l.zero l.one q ≡ true)
    → until_done l (owners_of (runs_of owned) ++ tail) ≡ until_done (after_owners l owned) tail
owners-load l [] tail begun none rises there =
    ap (λ (ports : List ℕ). let m : Load = record l { owned = ports } in until_done m tail) (sym (filter-all l.owned))
owners-load l (p ∷ ps) tail begun none rises there =
    runs-load l p p ps tail begun none rises.0 (omega arith) one rises.1 (λ q h. there q (or_right (p == q) (is_listed q ps) h))
    ∙ ap (λ (ports : List ℕ). let m : Load = record l { named = last_of p ps; owned = ports } in until_done m tail)
    (filter_agree (λ q. not (is_within p p q || is_listed q ps)) (λ q. not ((p == q) || is_listed q ps)) (λ q. ap (λ b. not (b || is_listed q ps)) (within-one p q)) l.owned)
  where
    one : (q : ℕ) → p ≤ q → q ≤ p → in_either l.zero l.one q ≡ true
    one q low high =
        let same : q ≡ p = omega arith in
        ap (in_either l.zero l.one) same ∙ there p (or_left (p == p) (is_listed p ps) (eq-eqb p p refl))

-- ---- the pairs

and-true : (b : Bool) → (b && true) ≡ b
and-true true = refl
and-true false = refl

pub left-ports : (z o : PortBounds) (owned : List ℕ) (q : ℕ) → is_listed q (ports_left z o owned) ≡ (not (is_listed q owned) && in_either z o q)
left-ports z o owned q = listed-filter (λ p. not (is_listed p owned)) (all_ports z o) q ∙ ap (λ b. not (is_listed q owned) && b) (listed-all z o q)

state-loaded : (z o : PortBounds) (owned : List ℕ) (p : Pair) → in_either z o p.key.port.0 ≡ true → entry_at (ports_left z o owned) p ≡ entry_loaded owned p
state-loaded z o owned p inside =
    ap (λ (b : Bool). entry_in (let s : EntryState = cond b Live Held in s) p) (left-ports z o owned p.key.port.0 ∙ ap (λ b. not (is_listed p.key.port.0 owned) && b) inside)
    ∙ ap (λ (s : EntryState). entry_in s p) (at (is_listed p.key.port.0 owned))
  where
    at : (b : Bool) → (let s : EntryState = cond (not b && true) Live Held in s) ≡ (let s : EntryState = cond b Held Live in s)
    at true = refl
    at false = refl

states-loaded : (z o : PortBounds) (owned : List ℕ) (ps : List Pair) → AllByRecursion (λ p. in_either z o p.key.port.0 ≡ true) ps → map (entry_at (ports_left z o owned)) ps ≡ map (entry_loaded owned) ps
states-loaded z o owned [] h = refl
states-loaded z o owned (p ∷ ps) h = ap (λ (e : Entry). e ∷ map (entry_at (ports_left z o owned)) ps) (state-loaded z o owned p h.0) ∙ ap (λ es. entry_loaded owned p ∷ es) (states-loaded z o owned ps h.1)

-- ---- the whole

abbrev whole_of : PortBounds → PortBounds → List ℕ → List Entry → Load
whole_of z o owned es = record { zero = z; one = o; begun = false; named = last_of 0 owned; entries = entries_loaded owned es; owned = ports_left z o owned }

joined : (a b c d : List Record) → (a ++ (b ++ c)) ++ d ≡ a ++ (b ++ (c ++ d))
joined a b c d = append_assoc a (b ++ c) d ∙ ap (λ rs. a ++ rs) (append_assoc b c d)

batch-loads : (t : Table) (l : Load) (later : List Record) → IsTable t → HasNoDoomed t.entries → AreHeldElsewhere t.owned t.entries → CanBeSent t
    → ((q : ℕ) → is_listed q t.owned ≡ true → in_either l.zero l.one q ≡ true)
    → ((k : Key) (x : Entry) → slot_of t.entries k ≡ Some x → in_either l.zero l.one k.port.0 ≡ true)
    → until_done l (batch_of t.owned t.entries ++ later) ≡ Some (record { load = whole_of l.zero l.one t.owned t.entries; behind = later })
batch-loads t l later is whole elsewhere sent owned within =
    ap (λ (rs : List Record). until_done (begun l) rs) (joined (owners_of (runs_of t.owned)) (puts_of t.entries) (Done ∷ []) later)
    ∙ owners-load (begun l) t.owned (puts_of t.entries ++ Done ∷ later) refl refl is.rising owned
    ∙ puts-load (after_owners (begun l) t.owned) (pairs_in is_settled t.entries) [] (pairs_in is_settled t.entries) later refl refl refl (none-before (ports_left l.zero l.one t.owned) (pairs_in is_settled t.entries))
    (are-apart l.zero l.one (ports_left l.zero l.one t.owned) 0 t.entries (table-strict t is sent) is.keys is.endpoints listed) inside
    ∙ ap (λ (es : List Entry). let m : Load = record { zero = l.zero; one = l.one; begun = false; named = last_of 0 t.owned; entries = es; owned = ports_left l.zero l.one t.owned } in Some (let e : Ended = record { load = m; behind = later } in e))
    (states-loaded l.zero l.one t.owned (pairs_in is_settled t.entries) inside)
  where
    held : (k : Key) (x : Entry) → slot_of t.entries k ≡ Some x → is_of_rank Second x.state ≡ is_listed k.port.0 (ports_left l.zero l.one t.owned)
    held k x h =
        elsewhere k x h
        ∙ sym (left-ports l.zero l.one t.owned k.port.0 ∙ ap (λ (b : Bool). not (is_listed k.port.0 t.owned) && b) (within k x h) ∙ and-true (not (is_listed k.port.0 t.owned)))

    one : (k : Key) (x : Entry) → slot_of t.entries k ≡ Some x → IsListed l.zero l.one (ports_left l.zero l.one t.owned) x
    one k x h = record {
      pair = whole k x h;
      inside = ap (λ (q : Key). in_either l.zero l.one q.port.0) (slot-key t.entries k x h) ∙ within k x h;
      held = held k x h ∙ ap (λ (q : Key). is_listed q.port.0 (ports_left l.zero l.one t.owned)) (sym (slot-key t.entries k x h));
    }

    listed : AllByRecursion (IsListed l.zero l.one (ports_left l.zero l.one t.owned)) t.entries
    listed = all-slots (IsListed l.zero l.one (ports_left l.zero l.one t.owned)) t.entries is.keys one

    inside : AllByRecursion (λ (p : Pair). in_either l.zero l.one p.key.port.0 ≡ true) (pairs_in is_settled t.entries)
    inside = all-inside l.zero l.one (ports_left l.zero l.one t.owned) t.entries listed

-- a batch drawn in any parts loads its table, at any load of the same two ranges
pub table-loads : (t : Table) → IsTable t → AreInRanges t → HasNoDoomed t.entries → AreHeldElsewhere t.owned t.entries → CanBeSent t → (l : Load) → l.zero ≡ t.zero → l.one ≡ t.one → (sizes : List ℕ) (later : List Record)
    → undrawn sizes (batch_of t.owned t.entries) ≡ []
    → until_done l (drawn sizes (batch_of t.owned t.entries) ++ later) ≡ Some (record { load = load_of_table t; behind = later })
table-loads t is within whole elsewhere sent l zero_same one_same sizes later none =
    ap (λ (rs : List Record). until_done l (rs ++ later)) (draws-all sizes (batch_of t.owned t.entries) none)
    ∙ batch-loads t l later is whole elsewhere sent (λ q h. here q ∙ is.owned q h) (λ k x h. here k.port.0 ∙ within k x h)
    ∙ ap (λ (z : PortBounds). Some (let e : Ended = record { load = whole_of z l.one t.owned t.entries; behind = later } in e)) zero_same
    ∙ ap (λ (o : PortBounds). Some (let e : Ended = record { load = whole_of t.zero o t.owned t.entries; behind = later } in e)) one_same
  where
    here : (q : ℕ) → in_either l.zero l.one q ≡ in_either t.zero t.one q
    here q = ap (λ (z : PortBounds). in_either z l.one q) zero_same ∙ ap (λ (o : PortBounds). in_either t.zero o q) one_same
