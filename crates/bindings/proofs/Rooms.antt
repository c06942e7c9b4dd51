-- A table's entries are no more than the ports of both ranges for the three protocols, where they lie in the ranges.
use Rattle.std.proofs.Common.{◌≡◌, ℕ, suc, ◌+◌, ◌-◌, ◌*◌, ◌<◌, ◌≤◌, ◌==◌, Bool, true, false, cond, ◌||◌, nat_le, Some, None, List, [], ◌∷◌, length, refl, sym, ap, subst, ◌∙◌, arith}
use Rattle.std.specs.List.{list_any, AllByRecursion, IsDistinct}
use Rattle.std.proofs.lemmas.Map.Steps.{length-le_from_distinct_below}
use Rattle.std.proofs.lemmas.Bool.{and_parts, cond-true, cond-false, leb-true, eqb-true, false_from_ne_true}
use Rattle.addresses.specs.declared.transport.Protocol.{Protocol}
use Rattle.addresses.specs.declared.transport.Protocol.TheVariants.{Icmp, Tcp, Udp}
use Rattle.nat_types.specs.declared.pairs.Key.{Key}
use Rattle.nat_types.specs.declared.pairs.Pair.{Pair}
use Rattle.nat_types.specs.Same.{same_key}
use Rattle.nat_types.proofs.Offered.{key-true, key-false, key-self, key-eq}
use Rattle.bindings.specs.declared.entries.Entry.{Entry}
use Rattle.bindings.specs.declared.entries.PortBounds.{PortBounds}
use Rattle.bindings.specs.Entries.{slot_of, has_key, entry_in, HasDistinctKeys}
use Rattle.bindings.specs.Ports.{in_bounds, in_either, ports_in, key_count}
use Rattle.bindings.specs.Table.{Table, IsTable, AreInRanges}
use Rattle.bindings.proofs.Found.{find-none}
use Rattle.bindings.proofs.Places.{any_entry}

bounds : (b : PortBounds) (p : ℕ) → in_bounds b p ≡ true → (b.lowest.0 ≤ p) × (p ≤ b.highest.0)
bounds b p h =
    let parts = and_parts (nat_le b.lowest.0 p) (nat_le p b.highest.0) h in
    (leb-true b.lowest.0 p parts.0, leb-true p b.highest.0 parts.1)

place_by : PortBounds → PortBounds → ℕ → Bool → ℕ
place_by low high p true = p - low.lowest.0
place_by low high p false = ports_in low + (p - high.lowest.0)

bit : Protocol → ℕ
bit Icmp = 0
bit Tcp = 1
bit Udp = 2

index : PortBounds → PortBounds → Key → ℕ
index low high k = 3 * place_by low high k.port.0 (in_bounds low k.port.0) + bit k.protocol

place-below : (low high : PortBounds) (p : ℕ) (b : Bool) → in_bounds low p ≡ b → (b || in_bounds high p) ≡ true → place_by low high p b < ports_in low + ports_in high
unfolding place_by
place-below low high p true is h = let w = bounds low p is in omega arith
place-below low high p false is h = let w = bounds high p h in omega arith

place-inj : (low high : PortBounds) (p q : ℕ) (b d : Bool) → in_bounds low p ≡ b → in_bounds low q ≡ d → (b || in_bounds high p) ≡ true → (d || in_bounds high q) ≡ true → place_by low high p b ≡ place_by low high q d → p ≡ q
unfolding place_by
place-inj low high p q true true bp bq hp hq e = let w = bounds low p bp in let v = bounds low q bq in omega arith
place-inj low high p q true false bp bq hp hq e = let w = bounds low p bp in let v = bounds high q hq in absurd (omega arith)
place-inj low high p q false true bp bq hp hq e = let w = bounds high p hp in let v = bounds low q bq in absurd (omega arith)
place-inj low high p q false false bp bq hp hq e = let w = bounds high p hp in let v = bounds high q hq in omega arith

-- two keys with one number are one key
bit-inj : (x y : Protocol) (a b : ℕ) → 3 * a + bit x ≡ 3 * b + bit y → (a ≡ b) × (x ≡ y)
unfolding bit
bit-inj Icmp Icmp a b e = (omega arith, refl)
bit-inj Icmp Tcp a b e = absurd (omega arith)
bit-inj Icmp Udp a b e = absurd (omega arith)
bit-inj Tcp Icmp a b e = absurd (omega arith)
bit-inj Tcp Tcp a b e = (omega arith, refl)
bit-inj Tcp Udp a b e = absurd (omega arith)
bit-inj Udp Icmp a b e = absurd (omega arith)
bit-inj Udp Tcp a b e = absurd (omega arith)
bit-inj Udp Udp a b e = (omega arith, refl)

index-inj : (low high : PortBounds) (k q : Key) → in_either low high k.port.0 ≡ true → in_either low high q.port.0 ≡ true → index low high k ≡ index low high q → k ≡ q
unfolding index
index-inj low high k q hk hq e =
    let parts = bit-inj k.protocol q.protocol (place_by low high k.port.0 (in_bounds low k.port.0)) (place_by low high q.port.0 (in_bounds low q.port.0)) e in
    let port : k.port.0 ≡ q.port.0 = place-inj low high k.port.0 q.port.0 (in_bounds low k.port.0) (in_bounds low q.port.0) refl refl hk hq parts.0 in
    ap (λ (x : Protocol). let z : Key = record { protocol = x; port = k.port } in z) parts.1 ∙ ap (λ (y : ℕ). let z : Key = record { protocol = q.protocol; port = record { 0 = y } } in z) port

bit-low : (x : Protocol) → bit x ≤ 2
unfolding bit
bit-low Icmp = omega arith
bit-low Tcp = omega arith
bit-low Udp = omega arith

index-below : (low high : PortBounds) (k : Key) → in_either low high k.port.0 ≡ true → index low high k < key_count low high
unfolding index
index-below low high k h =
    let low = place-below low high k.port.0 (in_bounds low k.port.0) refl h in
    let b = bit-low k.protocol in
    omega arith

-- the entries all lie in the ranges
AllIn : PortBounds → PortBounds → List Entry → Type 0
AllIn low high [] = Unit {0}
AllIn low high (x ∷ xs) = (in_either low high x.pair.key.port.0 ≡ true) × AllIn low high xs

all-in : (low high : PortBounds) (es : List Entry) → HasDistinctKeys es → ((k : Key) (x : Entry) → slot_of es k ≡ Some x → in_either low high k.port.0 ≡ true) → AllIn low high es
unfolding AllIn
all-in low high [] d ports = tt
all-in low high (x ∷ xs) d ports = (
  ports x.pair.key x (cond-true (same_key x.pair.key x.pair.key) (Some x) (slot_of xs x.pair.key) (key-self x.pair.key)),
  all-in low high xs d.1 (λ k y found. ports k y (cond-false (same_key x.pair.key k) (Some x) (slot_of xs k) (key-false x.pair.key k (λ same. let clash : slot_of xs k ≡ None = ap (slot_of xs) (sym same) ∙ d.0 in cc)) ∙ found)),
)

indexes : PortBounds → PortBounds → List Entry → List ℕ
indexes low high [] = []
indexes low high (x ∷ xs) = index low high x.pair.key ∷ indexes low high xs

length-indexes : (low high : PortBounds) (es : List Entry) → length (indexes low high es) ≡ length es
unfolding indexes
length-indexes low high [] = refl
length-indexes low high (x ∷ xs) = ap suc (length-indexes low high xs)

others : (low high : PortBounds) (x : Entry) (xs : List Entry) → in_either low high x.pair.key.port.0 ≡ true → AllIn low high xs → slot_of xs x.pair.key ≡ None → AllByRecursion (λ y. (index low high x.pair.key == y) ≡ false) (indexes low high xs)
unfolding AllIn indexes
others low high x [] inside all free = tt
others low high x (y ∷ ys) inside all free =
    let parts = find-none (has_key x.pair.key) y ys free in (
      false_from_ne_true (index low high x.pair.key == index low high y.pair.key) (λ same.
          let one : x.pair.key ≡ y.pair.key = index-inj low high x.pair.key y.pair.key inside all.0 (eqb-true (index low high x.pair.key) (index low high y.pair.key) same) in
          let bad : same_key y.pair.key x.pair.key ≡ true = key-true y.pair.key x.pair.key (sym one) in cc),
      others low high x ys inside all.1 parts.1,
    )

distinct : (low high : PortBounds) (es : List Entry) → HasDistinctKeys es → AllIn low high es → IsDistinct (λ a b. a == b) (indexes low high es)
unfolding AllIn indexes IsDistinct
distinct low high [] d all = tt
distinct low high (x ∷ xs) d all = (others low high x xs all.0 all.1 d.0, distinct low high xs d.1 all.1)

all-below : (low high : PortBounds) (es : List Entry) → AllIn low high es → (q : ℕ) → list_any (λ y. q == y) (indexes low high es) ≡ true → q < key_count low high
unfolding AllIn indexes
all-below low high [] all q h = cc
all-below low high (x ∷ xs) all q h = at (q == index low high x.pair.key) refl h (λ more. all-below low high xs all.1 q more)
  where
    at : (b : Bool) → (q == index low high x.pair.key) ≡ b → (b || list_any (λ y. q == y) (indexes low high xs)) ≡ true → (list_any (λ y. q == y) (indexes low high xs) ≡ true → q < key_count low high) → q < key_count low high
    at true is h ih = let same : q ≡ index low high x.pair.key = eqb-true q (index low high x.pair.key) is in let low = index-below low high x.pair.key all.0 in omega arith
    at false is h ih = ih h

pub few : (low high : PortBounds) (es : List Entry) → HasDistinctKeys es → ((k : Key) (x : Entry) → slot_of es k ≡ Some x → in_either low high k.port.0 ≡ true) → length es ≤ key_count low high
few low high es d ports =
    let all = all-in low high es d ports in
    subst (λ (n : ℕ). n ≤ key_count low high) (length-indexes low high es) (length-le_from_distinct_below (indexes low high es) (key_count low high) (distinct low high es d all) (all-below low high es all))

-- the entry that is added for a key
added : Key → Entry
added key =
    let pair : Pair = record { key = key; endpoint = any_entry.pair.endpoint } in
    entry_in any_entry.state pair

one-more : (low high : PortBounds) (es : List Entry) (key : Key) → in_either low high key.port.0 ≡ true → ((k : Key) (x : Entry) → slot_of es k ≡ Some x → in_either low high k.port.0 ≡ true) → (k : Key) (x : Entry) → slot_of (added key ∷ es) k ≡ Some x → in_either low high k.port.0 ≡ true
unfolding added
one-more low high es key inside ports k x = at (same_key key k) refl
  where
    at : (b : Bool) → same_key key k ≡ b → cond b (Some (added key)) (slot_of es k) ≡ Some x → in_either low high k.port.0 ≡ true
    at true same h = ap (λ (q : Key). in_either low high q.port.0) (sym (key-eq key k same)) ∙ inside
    at false other h = ports k x h

-- a table whose entries are in the ranges has capacity for a key of the ranges without an entry
pub has-room : (t : Table) → IsTable t → AreInRanges t → (key : Key) → in_either t.zero t.one key.port.0 ≡ true → slot_of t.entries key ≡ None → length t.entries < t.capacity
unfolding added
has-room t is ports key inside free =
    let more = few t.zero t.one (added key ∷ t.entries) (free, is.keys) (one-more t.zero t.one t.entries key inside ports) in
    let room = is.room in
    omega arith
