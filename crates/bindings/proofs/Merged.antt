-- The idle entries of a watch are those among the keys that came due, in the same order.
use Rattle.std.proofs.Common.{◌≡◌, ℕ, suc, Bool, true, false, cond, ◌&&◌, Option, Some, None, List, [], ◌∷◌, refl, ap, subst, sym, ◌∙◌, arith}
use Rattle.std.specs.List.{filter}
use Rattle.std.specs.Option.{option_map}
use Rattle.std.proofs.lemmas.Bool.{and_parts, le-leb, leb-true}
use Rattle.nat_types.specs.declared.pairs.EntryState.{EntryState}
use Rattle.nat_types.specs.declared.pairs.EntryState.TheVariants.{Pending, Doomed, Live, Closing, Alone, Held}
use Rattle.nat_types.specs.declared.pairs.Key.{Key}
use Rattle.nat_types.specs.Same.{same_key}
use Rattle.nat_types.proofs.Offered.{key-eq}
use Rattle.activity.specs.Lives.{Activity, looks_idle}
use Rattle.activity.specs.Dues.{due_moment}
use Rattle.activity.proofs.Offered.{idle-from}
use Rattle.timers.specs.Due.{is_due}
use Rattle.slots.specs.Dues.{AreDue}
use Rattle.slots.specs.Rows.{Row}
use Rattle.slots.specs.Rows as slots
use Rattle.bindings.specs.declared.entries.Entry.{Entry}
use Rattle.bindings.specs.declared.store.Item.{Item}
use Rattle.bindings.specs.declared.watches.Watch.{Watch}
use Rattle.bindings.specs.declared.watches.Watch.TheVariants.{OnlyAlone, Own, HeldToo}
use Rattle.bindings.specs.Entries.{is_alone, is_alone_by, slot_of}
use Rattle.bindings.specs.Lists.{key_place}
use Rattle.bindings.specs.Lives.{life_in, may_go, is_idle_row, idle_keys_in, rests_by}
use Rattle.bindings.specs.Stores.{entries_of, lives_of, AreKeyed}
use Rattle.bindings.specs.Dues.{AreTimed, AreListed, key_times, is_watched, is_watched_by, is_idle_key, idle_among, watched_keys}
use Rattle.bindings.proofs.Kept.{slot-is, life-is, below-none}
use Rattle.bindings.proofs.Timed.{row-key}
use Rattle.bindings.proofs.Listed.{times-first, times-other, filter-times, Climbs, Rising, climbs-filter, rising-filter, rising-lower, one-order}

-- an item under a key is idle, and its entry's state passes
abbrev rests_here : (EntryState → Bool) → ℕ → Key → Option Item → Bool
rests_here go now key None = false
rests_here go now key (Some i) = go i.entry.state && looks_idle key.protocol i.life now

abbrev row_test : (EntryState → Bool) → ℕ → List (Row Item) → Key → Bool
row_test go now rows key = rests_here go now key (slots.item_of rows key)

test-is : (watch : Watch) (now : ℕ) (rows : List (Row Item)) (key : Key) → AreKeyed rows → is_idle_key watch now (entries_of rows) (lives_of rows) key ≡ row_test (is_watched watch) now rows key
test-is watch now rows key k =
    ap (λ (o : Option Entry). is_watched_by watch o && rests_by key now (life_in (entries_of rows) (lives_of rows) key)) (slot-is rows key k)
    ∙ ap (λ (o : Option Activity). is_watched_by watch (option_map (λ (i : Item). i.entry) (slots.item_of rows key)) && rests_by key now o) (life-is rows key k)
    ∙ at (slots.item_of rows key)
  where
    at : (o : Option Item) → (is_watched_by watch (option_map (λ (i : Item). i.entry) o) && rests_by key now (option_map (λ (i : Item). i.life) o)) ≡ rests_here (is_watched watch) now key o
    at None = refl
    at (Some i) = refl

-- ---- the keys of the idle entries

item-first : (key : Key) (x : Row Item) (rows : List (Row Item)) → same_key x.key key ≡ true → slots.item_of (x ∷ rows) key ≡ Some x.item
item-first key x rows e = ap (λ b. option_map (λ (r : Row Item). r.item) (cond b (Some x) (slots.row_of rows key))) e

item-next : (key : Key) (x : Row Item) (rows : List (Row Item)) → same_key x.key key ≡ false → slots.item_of (x ∷ rows) key ≡ slots.item_of rows key
item-next key x rows e = ap (λ b. option_map (λ (r : Row Item). r.item) (cond b (Some x) (slots.row_of rows key))) e

abbrev one_if : Bool → ℕ
one_if b = cond b 1 0

abbrev where_so : Bool → ℕ → ℕ
where_so b n = cond b n 0

-- each key of an idle entry is listed once
idle-times : (lone : Bool) (now low : ℕ) (key : Key) (rows : List (Row Item)) → slots.Rises low rows → AreKeyed rows
    → key_times key (idle_keys_in lone now (entries_of rows) (lives_of rows)) ≡ one_if (row_test (may_go lone) now rows key)
idle-times lone now low key [] rises keyed = refl
idle-times lone now low key (r ∷ rows) rises keyed =
    at (is_idle_row lone now r.item.entry r.item.life) (same_key r.key key) refl refl (idle-times lone now (suc (key_place r.key)) key rows rises.1 keyed.1)
  where
    K : List Key
    K = idle_keys_in lone now (entries_of rows) (lives_of rows)

    own : same_key r.item.entry.pair.key key ≡ same_key r.key key
    own = ap (λ (k : Key). same_key k key) (sym keyed.0)

    test : same_key r.key key ≡ true → row_test (may_go lone) now (r ∷ rows) key ≡ is_idle_row lone now r.item.entry r.item.life
    test f =
        ap (rests_here (may_go lone) now key) (item-first key r rows f)
        ∙ ap (λ (q : Key). may_go lone r.item.entry.state && looks_idle q.protocol r.item.life now) (sym (key-eq r.key key f) ∙ keyed.0)

    zero : same_key r.key key ≡ true → key_times key K ≡ one_if (row_test (may_go lone) now rows key) → key_times key K ≡ 0
    zero f ih =
        let place = ap key_place (key-eq r.key key f) in
        let none = below-none (suc (key_place r.key)) rows key rises.1 (omega (arith, place)) in
        ih ∙ ap (λ (o : Option (Row Item)). one_if (rests_here (may_go lone) now key (option_map (λ (x : Row Item). x.item) o))) none

    at : (b s : Bool) → is_idle_row lone now r.item.entry r.item.life ≡ b → same_key r.key key ≡ s → key_times key K ≡ one_if (row_test (may_go lone) now rows key)
        → key_times key (cond b (r.item.entry.pair.key ∷ K) K) ≡ one_if (row_test (may_go lone) now (r ∷ rows) key)
    at true true e f ih = times-first key r.item.entry.pair.key K (own ∙ f) ∙ ap suc (zero f ih) ∙ sym (ap one_if (test f ∙ e))
    at false true e f ih = zero f ih ∙ sym (ap one_if (test f ∙ e))
    at true false e f ih = times-other key r.item.entry.pair.key K (own ∙ f) ∙ ih ∙ sym (ap (λ o. one_if (rests_here (may_go lone) now key o)) (item-next key r rows f))
    at false false e f ih = ih ∙ sym (ap (λ o. one_if (rests_here (may_go lone) now key o)) (item-next key r rows f))

-- the keys of the idle entries are in order
idle-rising : (lone : Bool) (now low : ℕ) (rows : List (Row Item)) → slots.Rises low rows → AreKeyed rows → Rising low (idle_keys_in lone now (entries_of rows) (lives_of rows))
idle-rising lone now low [] rises keyed = tt
idle-rising lone now low (r ∷ rows) rises keyed = at (is_idle_row lone now r.item.entry r.item.life) (idle-rising lone now (suc (key_place r.key)) rows rises.1 keyed.1)
  where
    K : List Key
    K = idle_keys_in lone now (entries_of rows) (lives_of rows)

    place : key_place r.key ≡ key_place r.item.entry.pair.key
    place = ap key_place keyed.0

    at : (b : Bool) → Rising (suc (key_place r.key)) K → Rising low (cond b (r.item.entry.pair.key ∷ K) K)
    at true ih = ((let l = rises.0 in omega (arith, l, place)), subst (λ n. Rising (suc n) K) place ih)
    at false ih = rising-lower low (suc (key_place r.key)) K (let l = rises.0 in omega (arith, l)) ih

-- each key of an idle Alone entry is listed once among those of idle entries that are Alone
alone-times : (now : ℕ) (key : Key) (rows : List (Row Item)) → slots.Rises 0 rows → AreKeyed rows
    → key_times key (watched_keys OnlyAlone now (entries_of rows) (lives_of rows)) ≡ one_if (row_test is_alone now rows key)
alone-times now key rows rises keyed =
    filter-times (λ (q : Key). is_alone_by (slot_of (entries_of rows) q)) key (idle_keys_in false now (entries_of rows) (lives_of rows))
    ∙ ap (where_so (is_alone_by (slot_of (entries_of rows) key))) (idle-times false now 0 key rows rises keyed)
    ∙ ap (λ (o : Option Entry). where_so (is_alone_by o) (one_if (row_test (may_go false) now rows key))) (slot-is rows key keyed)
    ∙ at (slots.item_of rows key)
  where
    state : (s : EntryState) (rests : Bool) → where_so (is_alone s) (one_if (may_go false s && rests)) ≡ one_if (is_alone s && rests)
    state (Pending marked) rests = refl
    state Doomed rests = refl
    state Live rests = refl
    state (Closing marked) rests = refl
    state Alone rests = refl
    state Held rests = refl

    at : (o : Option Item) → where_so (is_alone_by (option_map (λ (i : Item). i.entry) o)) (one_if (rests_here (may_go false) now key o)) ≡ one_if (rests_here is_alone now key o)
    at None = refl
    at (Some i) = state i.entry.state (looks_idle key.protocol i.life now)

-- ---- among the keys that came due

-- the key of an idle entry of the watch came due
once : (watch : Watch) (now : ℕ) (moments : List (Option ℕ)) (found : List ℕ) (keys : List Key) (rows : List (Row Item)) (key : Key) → AreTimed watch moments rows → AreDue now moments found → AreListed rows found keys
    → row_test (is_watched watch) now rows key ≡ true → key_times key keys ≡ 1
once watch now moments found keys rows key timed due listed e = by (slots.row_of rows key) refl
  where
    by : (o : Option (Row Item)) → slots.row_of rows key ≡ o → key_times key keys ≡ 1
    by None h = (let none = sym (ap (λ (o : Option (Row Item)). rests_here (is_watched watch) now key (option_map (λ (x : Row Item). x.item) o)) h) ∙ e in absurd (cc))
    by (Some r) h =
        let is : rests_here (is_watched watch) now key (Some r.item) ≡ true = sym (ap (λ (o : Option (Row Item)). rests_here (is_watched watch) now key (option_map (λ (x : Row Item). x.item) o)) h) ∙ e in
        let parts = and_parts (is_watched watch r.item.entry.state) (looks_idle key.protocol r.item.life now) is in
        let w = timed key r h parts.0 in
        let late = leb-true (due_moment key.protocol r.item.life) now (sym (idle-from key.protocol r.item.life now) ∙ parts.1) in
        let own = ap (λ (k : Key). due_moment k.protocol r.item.life) (row-key rows key r h) in
        let early = w.2 in
        let has-come : is_due now (Some w.0) ≡ true = le-leb w.0 now (omega (arith, late, early, own)) in
        listed key r.number (ap (option_map (λ (x : Row Item). x.number)) h) ∙ due r.number.0 ∙ ap (λ (o : Option ℕ). cond {A = ℕ} (is_due now o) 1 0) w.1 ∙ ap one_if has-come

-- keys in order, of which each is that of an idle entry of the watch, are those among the keys that came due
those-among : (watch : Watch) (now : ℕ) (moments : List (Option ℕ)) (found : List ℕ) (keys : List Key) (rows : List (Row Item)) (all : List Key) → AreKeyed rows → AreTimed watch moments rows → AreDue now moments found
    → AreListed rows found keys → Climbs 0 keys → Rising 0 all → ((key : Key) → key_times key all ≡ one_if (row_test (is_watched watch) now rows key)) → all ≡ idle_among watch now (entries_of rows) (lives_of rows) keys
those-among watch now moments found keys rows all keyed timed due listed climbs rising each =
    one-order 0 (filter T keys) all (climbs-filter 0 T keys climbs) rising (λ key.
    filter-times T key keys ∙ ap (λ b. cond b (key_times key keys) 0) (test-is watch now rows key keyed) ∙ at key (row_test (is_watched watch) now rows key) refl ∙ sym (each key))
  where
    T : Key → Bool
    T = is_idle_key watch now (entries_of rows) (lives_of rows)

    at : (key : Key) (b : Bool) → row_test (is_watched watch) now rows key ≡ b → cond b (key_times key keys) 0 ≡ one_if b
    at key true e = once watch now moments found keys rows key timed due listed e
    at key false e = refl

-- the keys of all idle entries of the watch are those of the keys that came due whose entries are idle
pub idle-among : (watch : Watch) (now : ℕ) (moments : List (Option ℕ)) (found : List ℕ) (keys : List Key) (rows : List (Row Item)) → slots.Rises 0 rows → AreKeyed rows → AreTimed watch moments rows
    → AreDue now moments found → AreListed rows found keys → Climbs 0 keys → watched_keys watch now (entries_of rows) (lives_of rows) ≡ idle_among watch now (entries_of rows) (lives_of rows) keys
idle-among OnlyAlone now moments found keys rows rises keyed timed due listed climbs =
    those-among OnlyAlone now moments found keys rows (watched_keys OnlyAlone now (entries_of rows) (lives_of rows)) keyed timed due listed climbs
    (rising-filter 0 (λ (q : Key). is_alone_by (slot_of (entries_of rows) q)) (idle_keys_in false now (entries_of rows) (lives_of rows)) (idle-rising false now 0 rows rises keyed))
    (λ key. alone-times now key rows rises keyed)
idle-among Own now moments found keys rows rises keyed timed due listed climbs =
    those-among Own now moments found keys rows (idle_keys_in false now (entries_of rows) (lives_of rows)) keyed timed due listed climbs (idle-rising false now 0 rows rises keyed)
    (λ key. idle-times false now 0 key rows rises keyed)
idle-among HeldToo now moments found keys rows rises keyed timed due listed climbs =
    those-among HeldToo now moments found keys rows (idle_keys_in true now (entries_of rows) (lives_of rows)) keyed timed due listed climbs (idle-rising true now 0 rows rises keyed)
    (λ key. idle-times true now 0 key rows rises keyed)
