-- The slots of a table: by key, and by endpoint.
use Rattle.std.proofs.Common.{◌≡◌, ℕ, ◌<◌, Bool, true, false, cond, Option, Some, None, inl, inr, List, [], ◌∷◌, length, map, nat_lt, refl, ap, ◌∙◌, sym, nat_le}
use Rattle.std.specs.List.{find, filter}
use Rattle.std.specs.Option.{is_some, option_or}
use Rattle.std.proofs.lemmas.Bool.{cond-true, cond-false, both_ways, and_parts, and_from, false_from_ne_true, lt-leb, leb-false}
use Rattle.nat_types.specs.declared.pairs.Endpoint.{Endpoint}
use Rattle.nat_types.specs.declared.pairs.EntryState.{EntryState}
use Rattle.nat_types.specs.declared.pairs.Key.{Key}
use Rattle.nat_types.specs.Same.{same_key, same_endpoint}
use Rattle.nat_types.proofs.Offered.{key-eq, key-true, key-false, endpoint-eq, endpoint-true, endpoint-self}
use Rattle.bindings.specs.declared.entries.Entry.{Entry}
use Rattle.bindings.specs.declared.entries.TableFault.TheVariants.{Full, PortTaken, EndpointTaken}
use Rattle.slots.specs.declared.ranks.Rank.{Rank}
use Rattle.slots.specs.declared.ranks.Rank.TheVariants.{First, Second}
use Rattle.bindings.specs.Entries.{rank_of, is_of_rank, is_pair, is_taken, has_key, serves, slot_of, entry_on, entry_of, set_at, HasDistinctKeys, HasDistinctEndpoints, refusal_of, place_of}
use Rattle.bindings.specs.Lists.{put_in, IsOneToOne}
use Rattle.bindings.proofs.Found.{cond_none, none_from_is_some, find-none, find-some, find-passes}
use Rattle.bindings.proofs.Ranked.{rank-is, is-rank, rank-pair, neither}

pub swap_choices : {A : Type 0} (b c : Bool) (x y o : A) → (b ≡ true → c ≡ true → ⊥) → cond b x (cond c y o) ≡ cond c y (cond b x o)
swap_choices true true x y o h = absurd (h refl refl)
swap_choices true false x y o h = refl
swap_choices false true x y o h = refl
swap_choices false false x y o h = refl

-- where nothing is found in a list, nothing is found after an entry that fails the test is put in
pub find-put_none : (p : Entry → Bool) (e : Entry) (es : List Entry) → find p es ≡ None → p e ≡ false → find p (put_in e es) ≡ None
find-put_none p e [] h fails = cond-false (p e) (Some e) None fails
find-put_none p e (x ∷ xs) h fails = at (nat_lt (place_of e.pair) (place_of x.pair)) (find-put_none p e xs (find-none p x xs h).1 fails)
  where
    at : (b : Bool) → find p (put_in e xs) ≡ None → find p (cond b (e ∷ x ∷ xs) (x ∷ put_in e xs)) ≡ None
    at true ih = cond-false (p e) (Some e) (find p (x ∷ xs)) fails ∙ h
    at false ih = cond-false (p x) (Some x) (find p (put_in e xs)) (find-none p x xs h).0 ∙ ih

-- where nothing is found in a list, nothing is found after entries are left out
pub find-filter_none : (p q : Entry → Bool) (es : List Entry) → find p es ≡ None → find p (filter q es) ≡ None
find-filter_none p q [] h = refl
find-filter_none p q (x ∷ xs) h = at (q x) (find-filter_none p q xs (find-none p x xs h).1)
  where
    at : (b : Bool) → find p (filter q xs) ≡ None → find p (cond b (x ∷ filter q xs) (filter q xs)) ≡ None
    at true ih = cond-false (p x) (Some x) (find p (filter q xs)) (find-none p x xs h).0 ∙ ih
    at false ih = ih

-- the slots after one more entry, whose key had none
pub slot-put : (e : Entry) (es : List Entry) (q : Key) → slot_of es e.pair.key ≡ None → slot_of (put_in e es) q ≡ set_at (slot_of es) e.pair.key (Some e) q
slot-put e [] q h = refl
slot-put e (x ∷ xs) q h = at (nat_lt (place_of e.pair) (place_of x.pair)) (slot-put e xs q (find-none (has_key e.pair.key) x xs h).1)
  where
    parts : (has_key e.pair.key x ≡ false) × (slot_of xs e.pair.key ≡ None)
    parts = find-none (has_key e.pair.key) x xs h

    clash : same_key x.pair.key q ≡ true → same_key e.pair.key q ≡ true → ⊥
    clash a b = both_ways (same_key x.pair.key e.pair.key) parts.0 (key-true x.pair.key e.pair.key (key-eq x.pair.key q a ∙ sym (key-eq e.pair.key q b)))

    at : (b : Bool) → slot_of (put_in e xs) q ≡ set_at (slot_of xs) e.pair.key (Some e) q → slot_of (cond b (e ∷ x ∷ xs) (x ∷ put_in e xs)) q ≡ set_at (slot_of (x ∷ xs)) e.pair.key (Some e) q
    at true ih = refl
    at false ih =
        ap (cond (same_key x.pair.key q) (Some x)) ih
        ∙ swap_choices (same_key x.pair.key q) (same_key e.pair.key q) (Some x) (Some e) (slot_of xs q) clash

-- two keys that differ in one order of the test differ in the other
pub other_way : (a b : Key) → same_key a b ≡ false → same_key b a ≡ false
other_way a b fails = key-false b a (λ e. both_ways (same_key a b) fails (key-true a b (sym e)))

pub keys-put : (e : Entry) (es : List Entry) → HasDistinctKeys es → slot_of es e.pair.key ≡ None → HasDistinctKeys (put_in e es)
keys-put e [] d h = (refl, tt)
keys-put e (x ∷ xs) d h = at (nat_lt (place_of e.pair) (place_of x.pair)) (keys-put e xs d.1 (find-none (has_key e.pair.key) x xs h).1)
  where
    parts : (has_key e.pair.key x ≡ false) × (slot_of xs e.pair.key ≡ None)
    parts = find-none (has_key e.pair.key) x xs h

    at : (b : Bool) → HasDistinctKeys (put_in e xs) → HasDistinctKeys (cond b (e ∷ x ∷ xs) (x ∷ put_in e xs))
    at true ih = (h, d)
    at false ih = (find-put_none (has_key x.pair.key) e xs d.0 (other_way x.pair.key e.pair.key parts.0), ih)

pub keys-filter : (p : Entry → Bool) (es : List Entry) → HasDistinctKeys es → HasDistinctKeys (filter p es)
keys-filter p [] d = tt
keys-filter p (x ∷ xs) d = at (p x) (keys-filter p xs d.1)
  where
    at : (b : Bool) → HasDistinctKeys (filter p xs) → HasDistinctKeys (cond b (x ∷ filter p xs) (filter p xs))
    at true ih = (find-filter_none (has_key x.pair.key) p xs d.0, ih)
    at false ih = ih

pub none-map : (f : Entry → Entry) (es : List Entry) (q : Key) → ((x : Entry) → (f x).pair.key ≡ x.pair.key) → slot_of es q ≡ None → slot_of (map f es) q ≡ None
none-map f [] q same h = refl
none-map f (x ∷ xs) q same h =
    let parts = find-none (has_key q) x xs h in
    cond-false (has_key q (f x)) (Some (f x)) (slot_of (map f xs) q) (ap (λ (k : Key). same_key k q) (same x) ∙ parts.0) ∙ none-map f xs q same parts.1

pub keys-map : (f : Entry → Entry) (es : List Entry) → ((x : Entry) → (f x).pair.key ≡ x.pair.key) → HasDistinctKeys es → HasDistinctKeys (map f es)
keys-map f [] same d = tt
keys-map f (x ∷ xs) same d = (ap (slot_of (map f xs)) (same x) ∙ none-map f xs x.pair.key same d.0, keys-map f xs same d.1)

-- where a pair doesn't serve another one's endpoint in its rank, the other one doesn't serve its endpoint
serves_not : (rank : Rank) (x e : Entry) → is_of_rank rank x.state ≡ true → (is_of_rank rank e.state ≡ true → serves rank e.pair.endpoint x ≡ false) → serves rank x.pair.endpoint e ≡ false
serves_not rank x e live fails =
    false_from_ne_true (serves rank x.pair.endpoint e) (λ holds.
    let parts = and_parts (is_of_rank rank e.state) (same_endpoint e.pair.endpoint x.pair.endpoint) holds in
    let same : e.pair.endpoint ≡ x.pair.endpoint = endpoint-eq e.pair.endpoint x.pair.endpoint parts.1 in
    both_ways (serves rank e.pair.endpoint x) (fails parts.0)
    (and_from (is_of_rank rank x.state) (same_endpoint x.pair.endpoint e.pair.endpoint) live (endpoint-true x.pair.endpoint e.pair.endpoint (sym same))))

-- the endpoint of an entry has no pair of its rank
abbrev pub IsFree : List Entry → Entry → Type 0
IsFree es e = (rank : Rank) → is_of_rank rank e.state ≡ true → entry_on rank es e.pair.endpoint ≡ None

pub endpoints-put : (e : Entry) (es : List Entry) → HasDistinctEndpoints es → IsFree es e → HasDistinctEndpoints (put_in e es)
endpoints-put e [] d h = (λ rank live. refl, tt)
endpoints-put e (x ∷ xs) d h = at (nat_lt (place_of e.pair) (place_of x.pair)) (endpoints-put e xs d.1 (λ rank live. (find-none (serves rank e.pair.endpoint) x xs (h rank live)).1))
  where
    at : (b : Bool) → HasDistinctEndpoints (put_in e xs) → HasDistinctEndpoints (cond b (e ∷ x ∷ xs) (x ∷ put_in e xs))
    at true ih = (h, d)
    at false ih = (
      λ rank live. find-put_none (serves rank x.pair.endpoint) e xs (d.0 rank live) (serves_not rank x e live (λ pair. (find-none (serves rank e.pair.endpoint) x xs (h rank pair)).0)),
      ih,
    )

pub endpoints-filter : (p : Entry → Bool) (es : List Entry) → HasDistinctEndpoints es → HasDistinctEndpoints (filter p es)
endpoints-filter p [] d = tt
endpoints-filter p (x ∷ xs) d = at (p x) (endpoints-filter p xs d.1)
  where
    at : (b : Bool) → HasDistinctEndpoints (filter p xs) → HasDistinctEndpoints (cond b (x ∷ filter p xs) (filter p xs))
    at true ih = (λ rank live. find-filter_none (serves rank x.pair.endpoint) p xs (d.0 rank live), ih)
    at false ih = ih

-- ---- a new entry

free-taken : (es : List Entry) (s : EntryState) (x : Endpoint) → is_taken (rank_of s) es x ≡ false → (rank : Rank) → is_of_rank rank s ≡ true → entry_on rank es x ≡ None
free-taken es s x h rank live = none_from_is_some (entry_on rank es x) (sym (ap (λ o. is_taken o es x) (is-rank s rank live)) ∙ h)

taken-free : (es : List Entry) (s : EntryState) (x : Endpoint) → ((rank : Rank) → is_of_rank rank s ≡ true → entry_on rank es x ≡ None) → is_taken (rank_of s) es x ≡ false
taken-free es s x h = at (rank_of s) refl
  where
    at : (o : Option Rank) → rank_of s ≡ o → is_taken (rank_of s) es x ≡ false
    at None e = ap (λ o. is_taken o es x) e
    at (Some rank) e = ap (λ o. is_taken o es x) e ∙ ap is_some (h rank (rank-is s rank e))

-- the conditions under which no reason refuses an entry
pub record IsWelcome (capacity : ℕ) (es : List Entry) (e : Entry) : Type 0 where
  pub room : length es < capacity
  pub key : slot_of es e.pair.key ≡ None
  pub endpoint : IsFree es e

pub welcome : (capacity : ℕ) (es : List Entry) (e : Entry) → refusal_of capacity es e ≡ None → IsWelcome capacity es e
welcome capacity es e h =
    let one = cond_none (nat_le capacity (length es)) Full _ h in
    let two = cond_none (is_some (slot_of es e.pair.key)) PortTaken _ one.1 in
    let three = cond_none (is_taken (rank_of e.state) es e.pair.endpoint) EndpointTaken None two.1 in
    record {
      room = leb-false capacity (length es) one.0;
      key = none_from_is_some (slot_of es e.pair.key) two.0;
      endpoint = free-taken es e.state e.pair.endpoint three.0;
    }

-- no reason refuses an entry where there is capacity, a free key and an endpoint without a pair of that rank
pub refusal-free : (capacity : ℕ) (es : List Entry) (e : Entry) → length es < capacity → slot_of es e.pair.key ≡ None → ((rank : Rank) → is_of_rank rank e.state ≡ true → entry_on rank es e.pair.endpoint ≡ None) → refusal_of capacity es e ≡ None
refusal-free capacity es e room key endpoint =
    cond-false (nat_le capacity (length es)) (Some Full) _ (lt-leb capacity (length es) room)
    ∙ cond-false (is_some (slot_of es e.pair.key)) (Some PortTaken) _ (ap is_some key)
    ∙ cond-false (is_taken (rank_of e.state) es e.pair.endpoint) (Some EndpointTaken) None (taken-free es e.state e.pair.endpoint endpoint)

-- an endpoint without a pair has none of either rank
pub none-ranked : (es : List Entry) (x : Endpoint) → entry_of es x ≡ None → (rank : Rank) → entry_on rank es x ≡ None
none-ranked es x h First = (neither (entry_on First es x) (entry_on Second es x) h).0
none-ranked es x h Second = (neither (entry_on First es x) (entry_on Second es x) h).1

-- no reason refuses an entry where there is capacity, a free key and an endpoint without a pair
pub refusal-none : (capacity : ℕ) (es : List Entry) (e : Entry) → length es < capacity → slot_of es e.pair.key ≡ None → (is_pair e.state ≡ true → entry_of es e.pair.endpoint ≡ None) → refusal_of capacity es e ≡ None
refusal-none capacity es e room key endpoint =
    refusal-free capacity es e room key (λ rank live. none-ranked es e.pair.endpoint (endpoint (rank-pair e.state rank live)) rank)

-- ---- what is found

-- the entry of a key has the key
pub slot-key : (es : List Entry) (q : Key) (e : Entry) → slot_of es q ≡ Some e → e.pair.key ≡ q
slot-key es q e h = key-eq e.pair.key q (find-passes (has_key q) es e h)

-- the pair of a rank of an endpoint is of the rank and serves it
pub ranked-serves : (rank : Rank) (es : List Entry) (x : Endpoint) (e : Entry) → entry_on rank es x ≡ Some e → (is_of_rank rank e.state ≡ true) × (e.pair.endpoint ≡ x)
ranked-serves rank es x e h =
    let parts = and_parts (is_of_rank rank e.state) (same_endpoint e.pair.endpoint x) (find-passes (serves rank x) es e h) in
    (parts.0, endpoint-eq e.pair.endpoint x parts.1)

-- the pair of an endpoint is that of one rank
pub some-ranked : (es : List Entry) (x : Endpoint) (e : Entry) → entry_of es x ≡ Some e → (rank : Rank) × (entry_on rank es x ≡ Some e)
some-ranked es x e h = at (entry_on First es x) refl h
  where
    at : (o : Option Entry) → entry_on First es x ≡ o → option_or o (entry_on Second es x) ≡ Some e → (rank : Rank) × (entry_on rank es x ≡ Some e)
    at None f h = (Second, h)
    at (Some y) f h = (First, f ∙ h)

-- the entry of an endpoint is a pair that serves it
pub entry-serves : (es : List Entry) (x : Endpoint) (e : Entry) → entry_of es x ≡ Some e → (is_pair e.state ≡ true) × (e.pair.endpoint ≡ x)
entry-serves es x e h =
    let found = some-ranked es x e h in
    let parts = ranked-serves found.0 es x e found.1 in
    (rank-pair e.state found.0 parts.0, parts.1)

-- whatever is found is the entry of its key
pub found-slot : (p : Entry → Bool) (es : List Entry) (e : Entry) → HasDistinctKeys es → find p es ≡ Some e → slot_of es e.pair.key ≡ Some e
found-slot p [] e d h = cc
found-slot p (x ∷ xs) e d h =
    elim (find-some (p x) x (find p xs) e h) [
      | inl w ↦ cond-true (same_key x.pair.key e.pair.key) (Some x) (slot_of xs e.pair.key) (key-true x.pair.key e.pair.key (ap (λ (a : Entry). a.pair.key) w.1)) ∙ ap Some w.1
      | inr w ↦
          (let rest : slot_of xs e.pair.key ≡ Some e = found-slot p xs e d.1 w.1 in
          let differs : same_key x.pair.key e.pair.key ≡ false = key-false x.pair.key e.pair.key (λ same. let clash : slot_of xs e.pair.key ≡ None = ap (slot_of xs) (sym same) ∙ d.0 in cc) in
          cond-false (same_key x.pair.key e.pair.key) (Some x) (slot_of xs e.pair.key) differs ∙ rest)
    ]

-- the pair of an endpoint is the entry of its key
pub entry-slot : (es : List Entry) (x : Endpoint) (e : Entry) → HasDistinctKeys es → entry_of es x ≡ Some e → slot_of es e.pair.key ≡ Some e
entry-slot es x e d h = (let found = some-ranked es x e h in found-slot (serves found.0 x) es e d found.1)

-- a pair that is found is that of its rank and endpoint
pub found-entry : (rank : Rank) (p : Entry → Bool) (es : List Entry) (e : Entry) → HasDistinctEndpoints es → is_of_rank rank e.state ≡ true → find p es ≡ Some e → entry_on rank es e.pair.endpoint ≡ Some e
found-entry rank p [] e d live h = cc
found-entry rank p (x ∷ xs) e d live h =
    elim (find-some (p x) x (find p xs) e h) [
      | inl w ↦ cond-true (serves rank e.pair.endpoint x) (Some x) (entry_on rank xs e.pair.endpoint) (ap (serves rank e.pair.endpoint) w.1 ∙ and_from (is_of_rank rank e.state) (same_endpoint e.pair.endpoint e.pair.endpoint) live (endpoint-self e.pair.endpoint)) ∙ ap Some w.1
      | inr w ↦
          (let rest : entry_on rank xs e.pair.endpoint ≡ Some e = found-entry rank p xs e d.1 live w.1 in
          let differs : serves rank e.pair.endpoint x ≡ false = false_from_ne_true (serves rank e.pair.endpoint x) (λ holds.
          let parts = and_parts (is_of_rank rank x.state) (same_endpoint x.pair.endpoint e.pair.endpoint) holds in
          let clash : entry_on rank xs e.pair.endpoint ≡ None = ap (entry_on rank xs) (sym (endpoint-eq x.pair.endpoint e.pair.endpoint parts.1)) ∙ d.0 rank parts.0 in cc) in
          cond-false (serves rank e.pair.endpoint x) (Some x) (entry_on rank xs e.pair.endpoint) differs ∙ rest)
    ]

-- no two keys have pairs of one rank that serve one endpoint
pub one-to-one : (es : List Entry) → HasDistinctKeys es → HasDistinctEndpoints es → IsOneToOne es
one-to-one es keys ends k q x y rank hx hy px py same =
    let ex : entry_on rank es x.pair.endpoint ≡ Some x = found-entry rank (has_key k) es x ends px hx in
    let ey : entry_on rank es y.pair.endpoint ≡ Some y = found-entry rank (has_key q) es y ends py hy in
    let both : Some x ≡ Some y = sym ex ∙ ap (entry_on rank es) same ∙ ey in
    let one : x ≡ y = cc in
    sym (slot-key es k x hx) ∙ ap (λ (e : Entry). e.pair.key) one ∙ slot-key es q y hy
