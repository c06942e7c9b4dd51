-- Lists of entries by protocol (icmp first) and port, and their changes.
use Rattle.std.specs.Prelude.{◌≡◌, ℕ, ◌≤◌, zero, suc, Bool, true, ◌&&◌, cond, not, nat_lt, List, [], ◌∷◌, map, if◌then◌else◌, Option, Some, None, ◌+◌, ◌*◌}
use Rattle.std.specs.List.{filter, find}
use Rattle.addresses.specs.Transport.{protocol_number}
use Rattle.nat_types.specs.declared.pairs.EntryState.{EntryState}
use Rattle.nat_types.specs.declared.pairs.Key.{Key}
use Rattle.nat_types.specs.declared.pairs.Pair.{Pair}
use Rattle.slots.specs.declared.ranks.Rank.{Rank}
use Rattle.bindings.specs.declared.entries.Entry.{Entry}
use Rattle.bindings.specs.Entries.{is_of_rank, has_key, slot_of, entry_in, place_of}

-- how many entries are before a pair's place
abbrev pub place_in : Pair → List Entry → ℕ
place_in p [] = zero
place_in p (x ∷ xs) = (if nat_lt (place_of p) (place_of x.pair) then zero else suc (place_in p xs))

-- the entries with one more, at its place
abbrev pub put_in : Entry → List Entry → List Entry
put_in e [] = e ∷ []
put_in e (x ∷ xs) = (if nat_lt (place_of e.pair) (place_of x.pair) then e ∷ x ∷ xs else x ∷ put_in e xs)

-- the entries but that of the key
abbrev pub without : Key → List Entry → List Entry
without key es = filter (λ e. not (has_key key e)) es

-- the entries, that of the key in another state
abbrev pub with_state : Key → EntryState → List Entry → List Entry
with_state key state es = map (λ e. cond (has_key key e) (entry_in state e.pair) e) es

-- no entry is before this place, or before the entry in front of it
abbrev pub Rises : ℕ → List Entry → Type 0
Rises low [] = Unit {0}
Rises low (x ∷ xs) = (low ≤ place_of x.pair) × Rises (place_of x.pair) xs

-- each entry is at this place or later, and after the entry in front of it
abbrev pub RisesUp : ℕ → List Entry → Type 0
RisesUp low [] = Unit {0}
RisesUp low (x ∷ xs) = (low ≤ place_of x.pair) × RisesUp (suc (place_of x.pair)) xs

-- the entries are in order, by protocol (icmp first) and port
abbrev pub AreInOrder : List Entry → Type 0
AreInOrder es = Rises 0 es

-- No two keys have pairs of one rank that serve one endpoint.
abbrev pub IsOneToOne : List Entry → Type 0
IsOneToOne es =
    (k q : Key) (x y : Entry) (rank : Rank)
    → slot_of es k ≡ Some x → slot_of es q ≡ Some y → is_of_rank rank x.state ≡ true → is_of_rank rank y.state ≡ true
    → x.pair.endpoint ≡ y.pair.endpoint → k ≡ q

-- a key's place in the order by protocol (icmp first) and port
abbrev pub key_place : Key → ℕ
key_place key = 65536 * protocol_number key.protocol + key.port.0

-- an entry is after a key; each entry is where there is no key
abbrev pub stands_behind : Option Key → Entry → Bool
stands_behind None e = true
stands_behind (Some key) e = nat_lt (key_place key) (place_of e.pair)

-- the first entry after a key in the order, or the first of all where there is no key
abbrev pub after_key : Option Key → List Entry → Option Entry
after_key last es = find (stands_behind last) es

-- the first entry after a key in the order whose state passes
abbrev pub first_after : (EntryState → Bool) → Option Key → List Entry → Option Entry
first_after test last es = find (λ e. stands_behind last e && test e.state) es
