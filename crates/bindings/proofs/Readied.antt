-- An index has no more slots than there are entries, since of each address both have as many.
use Rattle.std.proofs.Common.{◌≡◌, ℕ, suc, ◌+◌, ◌<◌, ◌≤◌, ◌==◌, inl, inr, Bool, true, false, cond, ◌&&◌, Option, Some, None, List, [], ◌∷◌, length, Result, Ok, Err, OnErr, refl, arith}
use Rattle.std.specs.List.{count_by}
use Rattle.std.specs.Option.{is_some}
use Rattle.std.proofs.lemmas.Bool.{eqb-true, eq-eqb}
use Rattle.std.proofs.lemmas.List.Sums.{sum_by-cons}
use Rattle.addresses.specs.declared.internet.Ip.{Ip}
use Rattle.nat_types.specs.declared.pairs.Endpoint.{Endpoint}
use Rattle.slots.specs.declared.numbers.SlotNumber.{SlotNumber}
use Rattle.slots.specs.declared.hashers.Hashers.{Hashers}
use Rattle.slots.specs.Rows.{Row}
use Rattle.slots.specs.declared.ranks.Places.{Places}
use Rattle.slots.specs.Ranks.{slot_count}
use Rattle.slots.specs.Endpoints.{EndpointIndex, slots_among, slots_at, slots_for}
use Rattle.slots.specs.Memory.{LacksEndpoints}
use Rattle.bindings.specs.declared.entries.Entry.{Entry}
use Rattle.bindings.specs.declared.store.Item.{Item}
use Rattle.bindings.specs.Entries.{is_pair, is_pair_of}
use Rattle.bindings.specs.Stores.{entries_of, IsIndexed}

-- how often a number is in a list
abbrev tally : ℕ → List ℕ → ℕ
tally a [] = 0
tally a (n ∷ ns) = cond (n == a) 1 0 + tally a ns

-- a list without the first item that is the number
abbrev out : ℕ → List ℕ → List ℕ
out a [] = []
out a (n ∷ ns) = cond (n == a) ns (n ∷ out a ns)

out-length : (a : ℕ) (ns : List ℕ) → 0 < tally a ns → length ns ≡ length (out a ns) + 1
out-length a [] h = absurd (omega (arith, h))
out-length a (n ∷ ns) h = by (n == a) h (out-length a ns)
  where
    by : (b : Bool) → 0 < cond b 1 0 + tally a ns → (0 < tally a ns → length ns ≡ length (out a ns) + 1) → suc (length ns) ≡ length (cond b ns (n ∷ out a ns)) + 1
    by true some rest = omega arith
    by false some rest = (let fewer = rest (omega (arith, some)) in omega (arith, fewer))

same-tally : (n a b : ℕ) → n ≡ a → cond (n == b) 1 0 ≤ cond (a == b) 1 0
same-tally n a b same = rw same (omega arith)

-- each number is in a list without one as often as before, but for the number itself
out-tally : (a b : ℕ) (ns : List ℕ) → tally b ns ≤ tally b (out a ns) + cond (a == b) 1 0
out-tally a b [] = omega arith
out-tally a b (n ∷ ns) = by (n == a) refl (out-tally a b ns)
  where
    by : (c : Bool) → (n == a) ≡ c → tally b ns ≤ tally b (out a ns) + cond (a == b) 1 0 → cond (n == b) 1 0 + tally b ns ≤ tally b (cond c ns (n ∷ out a ns)) + cond (a == b) 1 0
    by true is rest = (let same = same-tally n a b (eqb-true n a is) in omega (arith, same))
    by false is rest = omega (arith, rest)

first-counts : (b : Bool) (m n : ℕ) → b ≡ true → cond b 1 0 + m ≤ n → 0 < n
first-counts true m n is h = omega (arith, h)
first-counts false m n is h = absurd (let no : false ≡ true = is in cc)

-- a list that has no number more often than another is no longer
no-longer : (ms ns : List ℕ) → ((a : ℕ) → tally a ms ≤ tally a ns) → length ms ≤ length ns
no-longer [] ns most = omega arith
no-longer (m ∷ ms) ns most =
    let some = first-counts (m == m) (tally m ms) (tally m ns) (eq-eqb m m refl) (most m) in
    let long = out-length m ns some in
    let rest = no-longer ms (out m ns) (λ a. let all = most a in let fewer = out-tally m a ns in omega (arith, all, fewer)) in
    omega (arith, long, rest)

-- ---- addresses

-- the addresses of the slots of an index, one for each slot
abbrev once_if : Option SlotNumber → ℕ → List ℕ → List ℕ
once_if None n ns = ns
once_if (Some slot) n ns = n ∷ ns

abbrev addresses_in : List (Endpoint × Places) → List ℕ
addresses_in [] = []
addresses_in (e ∷ es) = once_if e.1.first e.0.address.0 (once_if e.1.second e.0.address.0 (addresses_in es))

-- the addresses of the pairs among the entries
abbrev addresses : List Entry → List ℕ
addresses [] = []
addresses (e ∷ es) = cond (is_pair e.state) (e.pair.endpoint.address.0 ∷ addresses es) (addresses es)

tally-once : (a : ℕ) (slot : Option SlotNumber) (n : ℕ) (ns : List ℕ) → tally a (once_if slot n ns) ≡ cond (n == a) (cond (is_some slot) 1 0) 0 + tally a ns
tally-once a None n ns = by (n == a)
  where
    by : (b : Bool) → tally a ns ≡ cond b 0 0 + tally a ns
    by true = omega arith
    by false = omega arith
tally-once a (Some slot) n ns = refl

both-once : (b : Bool) (m n : ℕ) → cond b m 0 + cond b n 0 ≡ (let k : ℕ = cond b (m + n) 0 in k)
both-once true m n = refl
both-once false m n = omega arith

tally-index : (a : Ip) (es : List (Endpoint × Places)) → tally a.0 (addresses_in es) ≡ slots_at a es
tally-index a [] = refl
tally-index a (e ∷ es) =
    let all = sum_by-cons (λ (d : Endpoint × Places). slots_for a d.0 d.1) e es in
    let one = tally-once a.0 e.1.first e.0.address.0 (once_if e.1.second e.0.address.0 (addresses_in es)) in
    let two = tally-once a.0 e.1.second e.0.address.0 (addresses_in es) in
    let both = both-once (e.0.address.0 == a.0) (cond (is_some e.1.first) 1 0) (cond (is_some e.1.second) 1 0) in
    let rest = tally-index a es in
    omega (arith, all, one, two, both, rest)

length-once : (slot : Option SlotNumber) (n : ℕ) (ns : List ℕ) → length (once_if slot n ns) ≡ cond (is_some slot) 1 0 + length ns
length-once None n ns = omega arith
length-once (Some slot) n ns = omega arith

length-index : (es : List (Endpoint × Places)) → length (addresses_in es) ≡ slots_among es
length-index [] = refl
length-index (e ∷ es) =
    let all = sum_by-cons (λ (d : Endpoint × Places). slot_count d.1) e es in
    let one = length-once e.1.first e.0.address.0 (once_if e.1.second e.0.address.0 (addresses_in es)) in
    let two = length-once e.1.second e.0.address.0 (addresses_in es) in
    let rest = length-index es in
    omega (arith, all, one, two, rest)

tally-pairs : (a : Ip) (es : List Entry) → tally a.0 (addresses es) ≡ count_by (is_pair_of a) es
tally-pairs a [] = refl
tally-pairs a (e ∷ es) = by (is_pair e.state) (count_by (is_pair_of a) (e ∷ es)) (tally-pairs a es) (sum_by-cons (λ (d : Entry). cond (is_pair_of a d) 1 0) e es)
  where
    by : (b : Bool) (all : ℕ) → tally a.0 (addresses es) ≡ count_by (is_pair_of a) es
        → all ≡ cond (b && e.pair.endpoint.address.0 == a.0) 1 0 + count_by (is_pair_of a) es
        → tally a.0 (cond b (e.pair.endpoint.address.0 ∷ addresses es) (addresses es)) ≡ all
    by true all rest is = omega (arith, is, rest)
    by false all rest is = omega (arith, is, rest)

few-pairs : (es : List Entry) → length (addresses es) ≤ length es
few-pairs [] = omega arith
few-pairs (e ∷ es) = by (is_pair e.state) (few-pairs es)
  where
    by : (b : Bool) → length (addresses es) ≤ length es → length (cond b (e.pair.endpoint.address.0 ∷ addresses es) (addresses es)) ≤ suc (length es)
    by true rest = omega (arith, rest)
    by false rest = omega (arith, rest)

few-indexed : (rows : List (Row Item)) (index : EndpointIndex Hashers) → IsIndexed rows index → slots_among index.entries ≤ length (entries_of rows)
few-indexed rows index is =
    let few = no-longer (addresses_in index.entries) (addresses (entries_of rows)) (λ n.
    let a : Ip = record { 0 = n } in
    let own = tally-index a index.entries in
    let same = is.counted a in
    let all = tally-pairs a (entries_of rows) in
    omega (arith, own, same, all)) in
    let long = length-index index.entries in
    let most = few-pairs (entries_of rows) in
    omega (arith, few, long, most)

-- ---- missing memory

-- what is missing beside the slots of the index is missing beside the entries
lacks-beside : (more held all : ℕ) → held ≤ all → LacksEndpoints more held → LacksEndpoints more all
lacks-beside more held all few (inl many) = inl (omega (arith, few, many))
lacks-beside more held all few (inr refused) = inr refused

pub lacks-more : (more : ℕ) (rows : List (Row Item)) (index : EndpointIndex Hashers) → IsIndexed rows index → LacksEndpoints more (slots_among index.entries) → LacksEndpoints more (length (entries_of rows))
lacks-more more rows index is = lacks-beside more (slots_among index.entries) (length (entries_of rows)) (few-indexed rows index is)

-- where a statement holds, it holds on Err
pub lacking : {T E P : Type 0} (r : Result T E) → P → OnErr r P
lacking (Ok x) lacks = tt
lacking (Err e) lacks = lacks
