-- The Puts and Tells of a batch are loaded, each in its place.
use Rattle.std.proofs.Common.{◌≡◌, ℕ, suc, ◌<◌, ◌≤◌, nat_lt, Bool, true, false, cond, not, ◌&&◌, is_none, is_some, Option, Some, None, List, [], ◌∷◌, ◌++◌, map, refl, sym, ap, ◌∙◌, arith, append_assoc}
use Rattle.std.specs.List.{filter, list_any, AllByRecursion}
use Rattle.std.specs.Option.{option_or}
use Rattle.std.proofs.lemmas.Bool.{cond-false, and_from, and_left, and_right, or_parts, both_ways, le-ltb, lt-ltb}
use Rattle.std.proofs.lemmas.List.{append-nil}
use Rattle.std.proofs.lemmas.List.Folds.{list_any-append}
use Rattle.nat_types.specs.declared.pairs.EntryState.{EntryState}
use Rattle.nat_types.specs.declared.pairs.EntryState.TheVariants.{Pending, Doomed, Live, Closing, Alone, Held}
use Rattle.nat_types.specs.declared.pairs.Endpoint.{Endpoint}
use Rattle.nat_types.specs.declared.pairs.Pair.{Pair}
use Rattle.nat_types.specs.declared.records.Record.{Record}
use Rattle.nat_types.specs.declared.records.Record.TheVariants.{Put, Done, Tell}
use Rattle.nat_types.specs.Same.{same_key, same_endpoint}
use Rattle.nat_types.proofs.Offered.{endpoint-eq, endpoint-true}
use Rattle.port_range.specs.Ports.{is_listed}
use Rattle.slots.specs.declared.ranks.Rank.{Rank}
use Rattle.slots.specs.declared.ranks.Rank.TheVariants.{First, Second}
use Rattle.bindings.specs.declared.entries.Entry.{Entry}
use Rattle.bindings.specs.declared.entries.PortBounds.{PortBounds}
use Rattle.bindings.specs.Entries.{is_pair, rank_of, has_rank, is_of_rank, has_key, serves, slot_of, entry_on, entry_of, is_taken, entry_in, place_of, pairs_in, HasDistinctKeys, HasDistinctEndpoints}
use Rattle.bindings.specs.Lists.{put_in}
use Rattle.bindings.specs.Ports.{in_either}
use Rattle.bindings.proofs.Offered.{find-none, other_way}
use Rattle.resync.specs.Batch.{is_settled, is_ahead, is_second, record_for}
use Rattle.resync.specs.Loading.{Load, loaded, loaded_state, is_new, is_beside, with_pair, where_}
use Rattle.resync.specs.Whole.{Ended, is_done, or_as_before, after_record, until_done}
use Rattle.resync.proofs.Behind.{IsStrict}

-- q comes before p in a batch, differs from it in key, and stands on a port of the other gateway where both are of one endpoint
pub record IsBefore (owned : List ℕ) (q p : Pair) : Type 0 where
  pub order : place_of q < place_of p
  pub key : same_key q.key p.key ≡ false
  pub owner : same_endpoint q.endpoint p.endpoint ≡ true → is_listed q.key.port.0 owned ≡ not (is_listed p.key.port.0 owned)

-- each pair is before all that follow it
abbrev pub AreApart : List ℕ → List Pair → Type 0
AreApart owned [] = Unit {0}
AreApart owned (p ∷ ps) = AllByRecursion (IsBefore owned p) ps × AreApart owned ps

abbrev pub entry_at : List ℕ → Pair → Entry
entry_at owned p = entry_in (loaded_state owned p.key.port.0) p

abbrev pub AreBefore : List ℕ → List Pair → Pair → Type 0
AreBefore owned before p = AllByRecursion (λ q. IsBefore owned q p) before

before-more : (owned : List ℕ) (before : List Pair) (q p : Pair) → AreBefore owned before p → IsBefore owned q p → AreBefore owned (before ++ q ∷ []) p
before-more owned [] q p h one = (one, tt)
before-more owned (x ∷ xs) q p h one = (h.0, before-more owned xs q p h.1 one)

all-more : (owned : List ℕ) (before ps : List Pair) (q : Pair) → AllByRecursion (AreBefore owned before) ps → AllByRecursion (IsBefore owned q) ps → AllByRecursion (AreBefore owned (before ++ q ∷ [])) ps
all-more owned before [] q h one = tt
all-more owned before (p ∷ ps) q h one = (before-more owned before q p h.0 one.0, all-more owned before ps q h.1 one.1)

no-slot : (owned : List ℕ) (before : List Pair) (p : Pair) → AreBefore owned before p → slot_of (map (entry_at owned) before) p.key ≡ None
no-slot owned [] p h = refl
no-slot owned (q ∷ qs) p h = let one = h.0 in
    cond-false (same_key q.key p.key) (Some (entry_at owned q)) (slot_of (map (entry_at owned) qs) p.key) one.key ∙ no-slot owned qs p h.1

put-last : (owned : List ℕ) (before : List Pair) (p : Pair) → AreBefore owned before p → put_in (entry_at owned p) (map (entry_at owned) before) ≡ map (entry_at owned) (before ++ p ∷ [])
put-last owned [] p h = refl
put-last owned (q ∷ qs) p h = let one = h.0 in let order = one.order in
    cond-false (nat_lt (place_of p) (place_of q)) (entry_at owned p ∷ entry_at owned q ∷ map (entry_at owned) qs) (entry_at owned q ∷ put_in (entry_at owned p) (map (entry_at owned) qs)) (le-ltb (place_of p) (place_of q) (omega (arith, order)))
    ∙ ap (λ zs. entry_at owned q ∷ zs) (put-last owned qs p h.1)

is-none : (o : Option Entry) → o ≡ None → is_none o ≡ true
is-none None h = refl
is-none (Some x) h = absurd cc

-- ---- a Put in its place

first-false : (a b : Bool) → b ≡ true → (a && b) ≡ false → a ≡ false
first-false true b is h = absurd (both_ways b h is)
first-false false b is h = refl

-- where no pair before p is of its endpoint, no entry serves that
none-same : (owned : List ℕ) (before : List Pair) (p : Pair) → AreBefore owned before p → list_any (is_ahead p) before ≡ false → AllByRecursion (λ q. same_endpoint q.endpoint p.endpoint ≡ false) before
none-same owned [] p h none = tt
none-same owned (q ∷ qs) p h none =
    let one = h.0 in
    let parts = or_parts (is_ahead p q) (list_any (is_ahead p) qs) none in
    (first-false (same_endpoint q.endpoint p.endpoint) (nat_lt (place_of q) (place_of p)) (lt-ltb (place_of q) (place_of p) one.order) parts.0, none-same owned qs p h.1 parts.1)

none-serves : (owned : List ℕ) (rank : Rank) (before : List Pair) (x : Endpoint) → AllByRecursion (λ q. same_endpoint q.endpoint x ≡ false) before → entry_on rank (map (entry_at owned) before) x ≡ None
none-serves owned rank [] x h = refl
none-serves owned rank (q ∷ qs) x h =
    cond-false (serves rank x (entry_at owned q)) (Some (entry_at owned q)) (entry_on rank (map (entry_at owned) qs) x)
    (and_right (is_of_rank rank (loaded_state owned q.key.port.0)) (same_endpoint q.endpoint x) h.0)
    ∙ none-serves owned rank qs x h.1

no-entry : (owned : List ℕ) (before : List Pair) (x : Endpoint) → AllByRecursion (λ q. same_endpoint q.endpoint x ≡ false) before → entry_of (map (entry_at owned) before) x ≡ None
no-entry owned before x h =
    ap (λ (o : Option Entry). option_or o (entry_on Second (map (entry_at owned) before) x)) (none-serves owned First before x h)
    ∙ ap (λ (o : Option Entry). option_or (let none : Option Entry = None in none) o) (none-serves owned Second before x h)

in-place : (l : Load) (b : Bool) (p : Pair) → b ≡ true → or_as_before l (where_ b (with_pair l p)) ≡ with_pair l p
in-place l true p h = refl
in-place l false p h = absurd cc

put-in-place : (l : Load) (before : List Pair) (p : Pair) → l.begun ≡ true → l.entries ≡ map (entry_at l.owned) before → AreBefore l.owned before p → list_any (is_ahead p) before ≡ false → in_either l.zero l.one p.key.port.0 ≡ true
    → after_record l (Put p) ≡ with_pair l p
put-in-place l before p begun entries h none inside =
    let key : slot_of l.entries p.key ≡ None = ap (λ es. slot_of es p.key) entries ∙ no-slot l.owned before p h in
    let endpoint : entry_of l.entries p.endpoint ≡ None = ap (λ es. entry_of es p.endpoint) entries ∙ no-entry l.owned before p.endpoint (none-same l.owned before p h none) in
    in-place l (l.begun && is_new l p) p
    (and_from l.begun (is_new l p) begun (and_from (in_either l.zero l.one p.key.port.0) (is_none (slot_of l.entries p.key) && is_none (entry_of l.entries p.endpoint)) inside
    (and_from (is_none (slot_of l.entries p.key)) (is_none (entry_of l.entries p.endpoint)) (is-none (slot_of l.entries p.key) key) (is-none (entry_of l.entries p.endpoint) endpoint))))

-- ---- a Tell in its place

abbrev rank_for : Bool → Rank
rank_for true = First
rank_for false = Second

abbrev state_for : Bool → EntryState
state_for b = cond b Live Held

other-rank : (a b : Bool) → b ≡ not a → is_of_rank (rank_for a) (state_for b) ≡ false
other-rank true true h = absurd cc
other-rank true false h = refl
other-rank false true h = refl
other-rank false false h = absurd cc

-- no pair before p that is of its endpoint is on a port of the same gateway
none-beside : (owned : List ℕ) (before : List Pair) (p : Pair) (a : Bool) → is_listed p.key.port.0 owned ≡ a → AreBefore owned before p → entry_on (rank_for a) (map (entry_at owned) before) p.endpoint ≡ None
none-beside owned [] p a is h = refl
none-beside owned (q ∷ qs) p a is h =
    cond-false (serves (rank_for a) p.endpoint (entry_at owned q)) (Some (entry_at owned q)) (entry_on (rank_for a) (map (entry_at owned) qs) p.endpoint)
    (not-serving (same_endpoint q.endpoint p.endpoint) refl)
    ∙ none-beside owned qs p a is h.1
  where
    one : IsBefore owned q p
    one = h.0

    not-serving : (b : Bool) → same_endpoint q.endpoint p.endpoint ≡ b → serves (rank_for a) p.endpoint (entry_at owned q) ≡ false
    not-serving true same =
        and_left (is_of_rank (rank_for a) (loaded_state owned q.key.port.0)) (same_endpoint q.endpoint p.endpoint)
        (other-rank a (is_listed q.key.port.0 owned) (one.owner same ∙ ap not is))
    not-serving false other = and_right (is_of_rank (rank_for a) (loaded_state owned q.key.port.0)) (same_endpoint q.endpoint p.endpoint) other

not-taken : (owned : List ℕ) (before : List Pair) (p : Pair) → AreBefore owned before p → is_taken (rank_of (loaded_state owned p.key.port.0)) (map (entry_at owned) before) p.endpoint ≡ false
not-taken owned before p h = at (is_listed p.key.port.0 owned) refl
  where
    at : (a : Bool) → is_listed p.key.port.0 owned ≡ a → is_taken (rank_of (state_for a)) (map (entry_at owned) before) p.endpoint ≡ false
    at true is = ap is_some (none-beside owned before p true is h)
    at false is = ap is_some (none-beside owned before p false is h)

tell-in-place : (l : Load) (before : List Pair) (p : Pair) → l.begun ≡ true → l.entries ≡ map (entry_at l.owned) before → AreBefore l.owned before p → in_either l.zero l.one p.key.port.0 ≡ true
    → after_record l (Tell p) ≡ with_pair l p
tell-in-place l before p begun entries h inside =
    let key : slot_of l.entries p.key ≡ None = ap (λ es. slot_of es p.key) entries ∙ no-slot l.owned before p h in
    let free : is_taken (rank_of (loaded_state l.owned p.key.port.0)) l.entries p.endpoint ≡ false =
    ap (λ es. is_taken (rank_of (loaded_state l.owned p.key.port.0)) es p.endpoint) entries ∙ not-taken l.owned before p h in
    in-place l (l.begun && is_beside l p) p
    (and_from l.begun (is_beside l p) begun (and_from (in_either l.zero l.one p.key.port.0) (is_none (slot_of l.entries p.key) && not (is_taken (rank_of (loaded_state l.owned p.key.port.0)) l.entries p.endpoint)) inside
    (and_from (is_none (slot_of l.entries p.key)) (not (is_taken (rank_of (loaded_state l.owned p.key.port.0)) l.entries p.endpoint)) (is-none (slot_of l.entries p.key) key) (ap not free))))

-- ---- the record of a pair, and Done

said-in-place : (l : Load) (all before ps : List Pair) (p : Pair) → all ≡ before ++ p ∷ ps → l.begun ≡ true → l.entries ≡ map (entry_at l.owned) before → AreBefore l.owned before p → in_either l.zero l.one p.key.port.0 ≡ true
    → after_record l (record_for all p) ≡ with_pair l p
said-in-place l all before ps p whole begun entries h inside = at (is_second all p) refl
  where
    ahead : list_any (is_ahead p) all ≡ false → list_any (is_ahead p) before ≡ false
    ahead none = (or_parts (list_any (is_ahead p) before) (list_any (is_ahead p) (p ∷ ps)) (sym (list_any-append (is_ahead p) before (p ∷ ps)) ∙ ap (list_any (is_ahead p)) (sym whole) ∙ none)).0

    at : (b : Bool) → is_second all p ≡ b → after_record l (cond b (Tell p) (Put p)) ≡ with_pair l p
    at true is = tell-in-place l before p begun entries h inside
    at false is = put-in-place l before p begun entries h (ahead is) inside

not-done : (all : List Pair) (p : Pair) → is_done (record_for all p) ≡ false
not-done all p = at (is_second all p)
  where
    at : (b : Bool) → is_done (cond b (Tell p) (Put p)) ≡ false
    at true = refl
    at false = refl

one-taken : (l : Load) (r : Record) (tail : List Record) → is_done r ≡ false → until_done l (r ∷ tail) ≡ until_done (after_record l r) tail
one-taken l r tail h =
    cond-false (is_done r && is_some (loaded l r)) (Some (let e : Ended = record { load = after_record l r; behind = tail } in e)) (until_done (after_record l r) tail)
    (and_left (is_done r) (is_some (loaded l r)) h)

done-in-place : (l : Load) (tail : List Record) → l.begun ≡ true → until_done l (Done ∷ tail) ≡ Some (record { load = record l { begun = false }; behind = tail })
done-in-place l tail begun = at l.begun begun
  where
    at : (b : Bool) → b ≡ true
        → cond {A = Option Ended} (is_some (where_ b (record l { begun = false }))) (Some (record { load = or_as_before l (where_ b (record l { begun = false })); behind = tail })) (until_done (or_as_before l (where_ b (record l { begun = false }))) tail) ≡ Some (record { load = record l { begun = false }; behind = tail })
    at true h = refl
    at false h = cc

put-more : (l : Load) (before : List Pair) (p : Pair) → l.entries ≡ map (entry_at l.owned) before → AreBefore l.owned before p → put_in (entry_at l.owned p) l.entries ≡ map (entry_at l.owned) (before ++ p ∷ [])
put-more l before p entries h = ap (put_in (entry_at l.owned p)) entries ∙ put-last l.owned before p h

-- the records of all pairs but those before, and then Done, are loaded
pub puts-load : (l : Load) (all before ps : List Pair) (tail : List Record) → all ≡ before ++ ps → l.begun ≡ true → l.entries ≡ map (entry_at l.owned) before
    → AllByRecursion (AreBefore l.owned before) ps → AreApart l.owned ps → AllByRecursion (λ p. in_either l.zero l.one p.key.port.0 ≡ true) ps
    → until_done l (map (record_for all) ps ++ Done ∷ tail) ≡ Some (record { load = record l { begun = false; entries = map (entry_at l.owned) all }; behind = tail })
puts-load l all before [] tail whole begun entries h apart inside =
    done-in-place l tail begun
    ∙ ap (λ (es : List Entry). let m : Load = record l { begun = false; entries = es } in Some (let e : Ended = record { load = m; behind = tail } in e)) (entries ∙ ap (map (entry_at l.owned)) (sym (append-nil before) ∙ sym whole))
puts-load l all before (p ∷ ps) tail whole begun entries h apart inside =
    one-taken l (record_for all p) (map (record_for all) ps ++ Done ∷ tail) (not-done all p)
    ∙ ap (λ (m : Load). until_done m (map (record_for all) ps ++ Done ∷ tail)) (said-in-place l all before ps p whole begun entries h.0 inside.0)
    ∙ puts-load (with_pair l p) all (before ++ p ∷ []) ps tail (whole ∙ sym (append_assoc before (p ∷ []) ps)) begun (put-more l before p entries h.0) (all-more l.owned before ps p h.1 apart.0) apart.1 inside.1

-- ---- the batch of a table

-- an entry is a pair, on a port of the ranges, and Held exactly on a port that the receiver is to own
pub record IsListed (z o : PortBounds) (owned : List ℕ) (e : Entry) : Type 0 where
  pub pair : is_pair e.state ≡ true
  pub inside : in_either z o e.pair.key.port.0 ≡ true
  pub held : is_of_rank Second e.state ≡ is_listed e.pair.key.port.0 owned

ranked : (s : EntryState) → is_pair s ≡ is_some (rank_of s)
ranked (Pending m) = refl
ranked Doomed = refl
ranked Live = refl
ranked (Closing m) = refl
ranked Alone = refl
ranked Held = refl

ranks-differ : (a b : Option Rank) → is_some a ≡ true → is_some b ≡ true → ((rank : Rank) → has_rank a rank ≡ true → has_rank b rank ≡ false) → has_rank a Second ≡ not (has_rank b Second)
ranks-differ None b h k apart = absurd cc
ranks-differ (Some First) None h k apart = absurd cc
ranks-differ (Some First) (Some First) h k apart = let no = apart First refl in absurd cc
ranks-differ (Some First) (Some Second) h k apart = refl
ranks-differ (Some Second) None h k apart = absurd cc
ranks-differ (Some Second) (Some First) h k apart = refl
ranks-differ (Some Second) (Some Second) h k apart = let no = apart Second refl in absurd cc

-- of two pairs of one endpoint one is on a port that the receiver is to own
owners-differ : (z o : PortBounds) (owned : List ℕ) (x y : Entry) → IsListed z o owned x → IsListed z o owned y
    → ((rank : Rank) → is_of_rank rank x.state ≡ true → serves rank x.pair.endpoint y ≡ false)
    → same_endpoint x.pair.endpoint y.pair.endpoint ≡ true → is_listed x.pair.key.port.0 owned ≡ not (is_listed y.pair.key.port.0 owned)
owners-differ z o owned x y lx ly apart same =
    sym lx.held
    ∙ ranks-differ (rank_of x.state) (rank_of y.state) (sym (ranked x.state) ∙ lx.pair) (sym (ranked y.state) ∙ ly.pair)
    (λ rank h. first-false (is_of_rank rank y.state) (same_endpoint y.pair.endpoint x.pair.endpoint) back (apart rank h))
    ∙ ap not ly.held
  where
    back : same_endpoint y.pair.endpoint x.pair.endpoint ≡ true
    back = endpoint-true y.pair.endpoint x.pair.endpoint (sym (endpoint-eq x.pair.endpoint y.pair.endpoint same))

-- a table's entry is before all that follow it
first-before : (z o : PortBounds) (owned : List ℕ) (x : Entry) (low : ℕ) (es : List Entry) → IsListed z o owned x → place_of x.pair < low → IsStrict low es → slot_of es x.pair.key ≡ None
    → ((rank : Rank) → is_of_rank rank x.state ≡ true → entry_on rank es x.pair.endpoint ≡ None) → AllByRecursion (IsListed z o owned) es
    → AllByRecursion (IsBefore owned x.pair) (pairs_in is_settled es)
first-before z o owned x low [] lx less strict key ends listed = tt
first-before z o owned x low (y ∷ ys) lx less strict key ends listed =
    at (is_settled y.state) (first-before z o owned x (suc (place_of y.pair)) ys lx (omega (arith, less, up)) strict.1 keys.1 (λ rank h. (apart rank h).1) listed.1)
  where
    up : low ≤ place_of y.pair
    up = strict.0

    keys : (has_key x.pair.key y ≡ false) × (slot_of ys x.pair.key ≡ None)
    keys = find-none (has_key x.pair.key) y ys key

    apart : (rank : Rank) → is_of_rank rank x.state ≡ true → (serves rank x.pair.endpoint y ≡ false) × (entry_on rank ys x.pair.endpoint ≡ None)
    apart rank h = find-none (serves rank x.pair.endpoint) y ys (ends rank h)

    one : IsBefore owned x.pair y.pair
    one = record {
      order = omega (arith, less, up);
      key = other_way y.pair.key x.pair.key keys.0;
      owner = owners-differ z o owned x y lx listed.0 (λ rank h. (apart rank h).0);
    }

    at : (b : Bool) → AllByRecursion (IsBefore owned x.pair) (pairs_in is_settled ys) → AllByRecursion (IsBefore owned x.pair) (map (λ (e : Entry). e.pair) (cond b (y ∷ filter (λ (e : Entry). is_settled e.state) ys) (filter (λ (e : Entry). is_settled e.state) ys)))
    at true ih = (one, ih)
    at false ih = ih

pub are-apart : (z o : PortBounds) (owned : List ℕ) (low : ℕ) (es : List Entry) → IsStrict low es → HasDistinctKeys es → HasDistinctEndpoints es → AllByRecursion (IsListed z o owned) es → AreApart owned (pairs_in is_settled es)
are-apart z o owned low [] strict keys endpoints listed = tt
are-apart z o owned low (x ∷ xs) strict keys endpoints listed = at (is_settled x.state) (are-apart z o owned (suc (place_of x.pair)) xs strict.1 keys.1 endpoints.1 listed.1)
  where
    one : AllByRecursion (IsBefore owned x.pair) (pairs_in is_settled xs)
    one = first-before z o owned x (suc (place_of x.pair)) xs listed.0 (omega arith) strict.1 keys.0 endpoints.0 listed.1

    at : (b : Bool) → AreApart owned (pairs_in is_settled xs) → AreApart owned (map (λ (e : Entry). e.pair) (cond b (x ∷ filter (λ (e : Entry). is_settled e.state) xs) (filter (λ (e : Entry). is_settled e.state) xs)))
    at true ih = (one, ih)
    at false ih = ih

pub all-inside : (z o : PortBounds) (owned : List ℕ) (es : List Entry) → AllByRecursion (IsListed z o owned) es → AllByRecursion (λ p. in_either z o p.key.port.0 ≡ true) (pairs_in is_settled es)
all-inside z o owned [] h = tt
all-inside z o owned (x ∷ xs) h = at (is_settled x.state) (all-inside z o owned xs h.1)
  where
    at : (b : Bool) → AllByRecursion (λ (p : Pair). in_either z o p.key.port.0 ≡ true) (pairs_in is_settled xs) → AllByRecursion (λ (p : Pair). in_either z o p.key.port.0 ≡ true) (map (λ (e : Entry). e.pair) (cond b (x ∷ filter (λ (e : Entry). is_settled e.state) xs) (filter (λ (e : Entry). is_settled e.state) xs)))
    at true ih = let l : IsListed z o owned x = h.0 in (l.inside, ih)
    at false ih = ih

pub none-before : (owned : List ℕ) (ps : List Pair) → AllByRecursion (AreBefore owned []) ps
none-before owned [] = tt
none-before owned (p ∷ ps) = (tt, none-before owned ps)
