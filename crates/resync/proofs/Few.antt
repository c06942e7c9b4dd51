-- A batch is no longer than twice the keys of both ranges, and two more.
use Rattle.std.proofs.Common.{◌≡◌, ℕ, suc, ◌+◌, ◌*◌, ◌≤◌, ◌==◌, Bool, true, false, cond, Option, Some, None, inl, inr, List, [], ◌∷◌, ◌++◌, length, map, refl, sym, ap, subst, arith, length-append}
use Rattle.std.specs.List.{filter}
use Rattle.std.proofs.lemmas.Bool.{both_ways, or_left, or_right, eq-eqb}
use Rattle.std.proofs.lemmas.List.{length-map}
use Rattle.addresses.specs.declared.transport.Protocol.TheVariants.{Tcp}
use Rattle.nat_types.specs.declared.pairs.Key.{Key}
use Rattle.nat_types.specs.declared.pairs.Pair.{Pair}
use Rattle.nat_types.specs.declared.records.Record.TheVariants.{Done, Owner}
use Rattle.nat_types.proofs.Offered.{key-eq}
use Rattle.bindings.specs.declared.entries.Entry.{Entry}
use Rattle.bindings.specs.Entries.{has_key, slot_of, entry_in, pairs_in, HasDistinctKeys}
use Rattle.bindings.specs.Ports.{key_count}
use Rattle.bindings.specs.Runs.{run_of, runs_on, runs_of}
use Rattle.bindings.specs.Table.{Table, IsTable}
use Rattle.bindings.proofs.Offered.{find-some, any_entry, length-keep, not-below, few}
use Rattle.port_range.specs.Ports.{is_listed, RiseAbove}
use Rattle.resync.specs.Batch.{is_settled, owners_of, record_for, puts_of, batch_of}

-- ---- no more runs than ports

few-on : (first last : ℕ) (ps : List ℕ) → length (runs_on first last ps) ≤ suc (length ps)
few-on first last [] = omega arith
few-on first last (p ∷ ps) = at (p == suc last) (few-on first p ps) (few-on p p ps)
  where
    at : (b : Bool) → length (runs_on first p ps) ≤ suc (length ps) → length (runs_on p p ps) ≤ suc (length ps) → length (cond b (runs_on first p ps) (run_of first last ∷ runs_on p p ps)) ≤ suc (suc (length ps))
    at true longer next = omega arith
    at false longer next = omega arith

few-runs : (ps : List ℕ) → length (runs_of ps) ≤ length ps
few-runs [] = omega arith
few-runs (p ∷ ps) = few-on p p ps

-- ---- no more owned ports than keys

abbrev port_entry : ℕ → Entry
port_entry p =
    let pair : Pair = record { key = record { protocol = Tcp; port = record { 0 = p } }; endpoint = any_entry.pair.endpoint } in
    entry_in any_entry.state pair

slot-listed : (ps : List ℕ) (k : Key) (x : Entry) → slot_of (map port_entry ps) k ≡ Some x → is_listed k.port.0 ps ≡ true
slot-listed [] k x h = cc
slot-listed (p ∷ ps) k x h =
    elim (find-some (has_key k (port_entry p)) (port_entry p) (slot_of (map port_entry ps) k) x h) [
      | inl w ↦ or_left (p == k.port.0) (is_listed k.port.0 ps) (eq-eqb p k.port.0 (ap (λ (q : Key). q.port.0) (key-eq (port_entry p).pair.key k w.0)))
      | inr w ↦ or_right (p == k.port.0) (is_listed k.port.0 ps) (slot-listed ps k x w.1)
    ]

none-unless : (o : Option Entry) → ((x : Entry) → o ≡ Some x → ⊥) → o ≡ None
none-unless None h = refl
none-unless (Some x) h = absurd (h x refl)

port-keys : (low : ℕ) (ps : List ℕ) → RiseAbove low ps → HasDistinctKeys (map port_entry ps)
port-keys low [] r = tt
port-keys low (p ∷ ps) r = (
  none-unless (slot_of (map port_entry ps) (port_entry p).pair.key) (λ x h. both_ways (is_listed p ps) (not-below p ps p r.1 (omega arith)) (slot-listed ps (port_entry p).pair.key x h)),
  port-keys p ps r.1,
)

few-owned : (t : Table) → IsTable t → length t.owned ≤ key_count t.zero t.one
few-owned t is =
    subst (λ (n : ℕ). n ≤ key_count t.zero t.one) (length-map t.owned port_entry)
    (few t.zero t.one (map port_entry t.owned) (port-keys 0 t.owned is.rising) (λ k x h. is.owned k.port.0 (slot-listed t.owned k x h)))

-- a batch of the table's owned ports and of any entries that fit in the table has at most 2 * capacity + 2 records
pub few-of : (t : Table) (es : List Entry) → IsTable t → length es ≤ t.capacity → length (batch_of t.owned es) ≤ 2 * t.capacity + 2
few-of t es is within =
    let pairs : length (pairs_in is_settled es) ≡ length (filter (λ (e : Entry). is_settled e.state) es) = length-map (filter (λ (e : Entry). is_settled e.state) es) (λ (e : Entry). e.pair) in
    let kept : length (filter (λ (e : Entry). is_settled e.state) es) ≤ length es = length-keep (λ (e : Entry). is_settled e.state) es in
    let puts : length (puts_of es) ≡ length (pairs_in is_settled es) = length-map (pairs_in is_settled es) (record_for (pairs_in is_settled es)) in
    let owners : length (owners_of (runs_of t.owned)) ≡ length (runs_of t.owned) = length-map (runs_of t.owned) (λ run. Owner run.lowest run.highest) in
    let inner : length (puts_of es ++ Done ∷ []) ≡ length (puts_of es) + 1 = length-append (puts_of es) (Done ∷ []) in
    let outer : length (owners_of (runs_of t.owned) ++ (puts_of es ++ Done ∷ [])) ≡ length (owners_of (runs_of t.owned)) + length (puts_of es ++ Done ∷ []) = length-append (owners_of (runs_of t.owned)) (puts_of es ++ Done ∷ []) in
    sizes (length (batch_of t.owned es)) (length (owners_of (runs_of t.owned))) (length (runs_of t.owned)) (length t.owned) (length (puts_of es)) (length es) t.capacity
    (omega arith) owners (few-runs t.owned) (subst (λ (n : ℕ). length t.owned ≤ n) (sym is.room) (few-owned t is)) (omega arith) within
  where
    sizes : (batch owners runs ports puts entries room : ℕ) → batch ≡ owners + puts + 2 → owners ≡ runs → runs ≤ ports → ports ≤ room → puts ≤ entries → entries ≤ room → batch ≤ 2 * room + 2
    sizes batch owners runs ports puts entries room a b c d e f = omega arith

pub few-records : (t : Table) → IsTable t → length (batch_of t.owned t.entries) ≤ 2 * t.capacity + 2
few-records t is = few-of t t.entries is is.within
