-- A store after each of its calls.
use Rattle.std.proofs.Common.{◌≡◌, ℕ, ◌+◌, true, false, not, cond, ◌&&◌, Option, Some, None, List, [], refl, sym, ap, ◌∙◌, arith}
use Rattle.std.specs.List.{find}
use Rattle.std.specs.Option.{option_map, option_or}
use Rattle.addresses.specs.declared.internet.Ip.{Ip}
use Rattle.nat_types.specs.declared.pairs.Endpoint.{Endpoint}
use Rattle.nat_types.specs.declared.pairs.Key.{Key}
use Rattle.nat_types.specs.declared.pairs.EntryState.{EntryState}
use Rattle.nat_types.specs.Same.{same_endpoint}
use Rattle.activity.specs.Lives.{Activity}
use Rattle.slots.specs.declared.numbers.SlotNumber.{SlotNumber}
use Rattle.slots.specs.declared.hashers.Hashers.{Hashers}
use Rattle.slots.specs.Rows.{Row, PortSlots}
use Rattle.slots.specs.Rows as slots
use Rattle.slots.specs.declared.ranks.Rank.{Rank}
use Rattle.slots.specs.declared.ranks.Rank.TheVariants.{First, Second}
use Rattle.slots.specs.Ranks.{slot_in}
use Rattle.slots.specs.Endpoints.{EndpointIndex, look_up, slots_at, slot_on, count_in}
use Rattle.slots.specs.Endpoints.{slot_of as index_slot_of}
use Rattle.bindings.specs.declared.entries.Entry.{Entry}
use Rattle.bindings.specs.declared.store.Item.{Item}
use Rattle.bindings.specs.Entries.{is_of_rank, is_pair, pairs_of, serves, slot_of, entry_on, entry_of, entry_in, HasDistinctEndpoints}
use Rattle.bindings.specs.Lists.{without, with_state, after_key}
use Rattle.bindings.specs.Lives.{life_in, lives_with}
use Rattle.bindings.specs.Stores.{Store, entries_of, lives_of, one_of, AreKeyed, IsIndexed}
use Rattle.bindings.proofs.Kept.{slot-is, life-is, entry-is, after-is, own-row, rises-up, keyed-put, entries-put, number-put, keyed-without, entries-without, rows-without_none}
use Rattle.bindings.proofs.Changes.{keyed-with, entries-turned, entries-same, lives-same, lives-changed, lives-nowhere, number-with, number-same, number-without}
use Rattle.bindings.proofs.Counts.{lost_by, count-put, count-without, count-turned}
use Rattle.bindings.proofs.Ranked.{pair-rank, rank-pair, stays-ranked, leaves-same, neither}
use Rattle.bindings.proofs.Slots.{IsFree, slot-key}
use Rattle.bindings.proofs.Walks.{rises-distinct}

-- what callers see of slots and an index
abbrev pub seen : PortSlots Item → EndpointIndex Hashers → List Key → Store
seen slots index found = record { entries = entries_of slots.rows; lives = lives_of slots.rows; room = slots.room; spare = index.spare; hashers = index.hasher; found = found }

-- the entry of a key's item is the key's
pub held-by : (rows : List (Row Item)) (key : Key) (i : Item) → AreKeyed rows → slots.item_of rows key ≡ Some i → slot_of (entries_of rows) key ≡ Some i.entry
held-by rows key i k h = slot-is rows key k ∙ ap (option_map (λ (z : Item). z.entry)) h

-- the entry of a key's item has the key
pub item-key : (rows : List (Row Item)) (key : Key) (i : Item) → AreKeyed rows → slots.item_of rows key ≡ Some i → i.entry.pair.key ≡ key
item-key rows key i k h = slot-key (entries_of rows) key i.entry (held-by rows key i k h)

cancelled : (m n p q k : ℕ) → m ≡ n + k → m ≡ p → p ≡ q + k → n ≡ q
cancelled m n p q k h g f = omega (arith, h, g, f)

-- a store after a key's life was changed, or after a key without one changed nothing
pub changed-life : (old new : PortSlots Item) (index : EndpointIndex Hashers) (found : List Key) (key : Key) (g : Activity → Activity) → IsIndexed old.rows index → slots.Rises 0 old.rows
    → ((i : Item) → slots.item_of old.rows key ≡ Some i → new ≡ record old { rows = slots.with_item key (record i { life = g i.life }) old.rows }) → (slots.item_of old.rows key ≡ None → new ≡ old)
    → IsIndexed new.rows index × (seen new index found ≡ record (seen old index found) { lives = lives_with g key (entries_of old.rows) (lives_of old.rows) }) × (entries_of new.rows ≡ entries_of old.rows)
changed-life old new index found key g k r some none = by (slots.item_of old.rows key) refl
  where
    by : (o : Option Item) → slots.item_of old.rows key ≡ o → IsIndexed new.rows index × (seen new index found ≡ record (seen old index found) { lives = lives_with g key (entries_of old.rows) (lives_of old.rows) }) × (entries_of new.rows ≡ entries_of old.rows)
    by None e =
        let same = none e in (
          rw same k,
          rw same (ap (λ ls. (let s : Store = record { entries = entries_of old.rows; lives = ls; room = old.room; spare = index.spare; hashers = index.hasher; found = found } in s)) (lives-nowhere key g old.rows k.keyed e)),
          ap (λ (s : PortSlots Item). entries_of s.rows) same,
        )
    by (Some i) e =
        let t : Item = record i { life = g i.life } in
        let rows = ap (λ (s : PortSlots Item). s.rows) (some i e) in
        let room = ap (λ (s : PortSlots Item). s.room) (some i e) in (
          rw rows (record {
            keyed = keyed-with 0 key t i old.rows k.keyed r e refl;
            indexed = λ rank x. k.indexed rank x ∙ sym (number-same rank 0 key t i old.rows x r e refl);
            counted = λ a. k.counted a ∙ ap (pairs_of a) (sym (entries-same 0 key t i old.rows r e refl));
          }),
          rw (rows, room, entries-same 0 key t i old.rows r e refl, lives-changed 0 key g t i old.rows k.keyed r e refl) refl,
          ap entries_of rows ∙ entries-same 0 key t i old.rows r e refl,
        )

-- an index without endpoints is that of no rows
pub none-indexed : (index : EndpointIndex Hashers) → ((rank : Rank) (x : Endpoint) → slot_on index rank x ≡ None) → ((a : Ip) → count_in index a ≡ 0) → IsIndexed [] index
none-indexed index none counts = record { keyed = tt; indexed = none; counted = counts }

-- an index that has only more capacity is still that of the rows
pub readied : (rows : List (Row Item)) (index index2 : EndpointIndex Hashers) → IsIndexed rows index → index2.entries ≡ index.entries → IsIndexed rows index2
readied rows index index2 k same = record {
  keyed = k.keyed;
  indexed = λ rank x. ap (λ es. slot_in rank (look_up es x)) same ∙ k.indexed rank x;
  counted = λ a. ap (slots_at a) same ∙ k.counted a;
}

-- the index is that of the rows after an entry was added
pub added : (old : PortSlots Item) (index index2 : EndpointIndex Hashers) (r : Row Item) → IsIndexed old.rows index → r.key ≡ r.item.entry.pair.key → IsFree (entries_of old.rows) r.item.entry
    → ((rank : Rank) (x : Endpoint) → slot_on index2 rank x ≡ cond (serves rank x r.item.entry) (Some r.number) (slot_on index rank x)) → ((a : Ip) → count_in index2 a ≡ count_in index a + one_of a r.item.entry) → IsIndexed (slots.put_in r old.rows) index2
added old index index2 r k key free listed counts = record {
  keyed = keyed-put r old.rows k.keyed key;
  indexed = λ rank x. listed rank x ∙ ap (cond (serves rank x r.item.entry) (Some r.number)) (k.indexed rank x) ∙ sym (number-put rank r old.rows x (free rank));
  counted = λ a. counts a ∙ ap (λ n. n + one_of a r.item.entry) (k.counted a) ∙ sym (count-put a r.item.entry (entries_of old.rows)) ∙ ap (pairs_of a) (sym (entries-put r old.rows k.keyed key));
}

-- the index is that of the rows after a key's row was removed
pub removed : (rows : List (Row Item)) (index index2 : EndpointIndex Hashers) (key : Key) (i : Item) → IsIndexed rows index → slots.Rises 0 rows → slots.item_of rows key ≡ Some i → (is_pair i.entry.state ≡ true → HasDistinctEndpoints (entries_of rows))
    → ((rank : Rank) (x : Endpoint) → slot_on index2 rank x ≡ cond (serves rank x i.entry) None (slot_on index rank x)) → ((a : Ip) → count_in index a ≡ count_in index2 a + one_of a i.entry) → IsIndexed (slots.without key rows) index2
removed rows index index2 key i k r e d unlisted counts = record {
  keyed = keyed-without key rows k.keyed;
  indexed = λ rank x. unlisted rank x ∙ ap (cond (serves rank x i.entry) None) (k.indexed rank x) ∙ sym (number-without rank 0 key rows i x r e (λ live. d (rank-pair i.entry.state rank live)));
  counted = λ a.
      cancelled (count_in index a) (count_in index2 a) (pairs_of a (entries_of rows)) (pairs_of a (without key (entries_of rows))) (one_of a i.entry) (counts a) (k.counted a)
      (count-without a key (entries_of rows) i.entry (rises-distinct 0 (entries_of rows) (rises-up 0 rows k.keyed r)) (held-by rows key i k.keyed e))
      ∙ ap (pairs_of a) (sym (entries-without key rows k.keyed));
}

-- no row is removed where the key has none
pub none-removed : (rows : List (Row Item)) (key : Key) → slots.item_of rows key ≡ None → slots.without key rows ≡ rows
none-removed rows key h = rows-without_none key rows (by (slots.row_of rows key) h)
  where
    by : (o : Option (Row Item)) → option_map (λ (r : Row Item). r.item) o ≡ None → o ≡ None
    by None h = refl
    by (Some r) h = cc

-- the entry of a key is that of an item
pub item-found : (rows : List (Row Item)) (key : Key) (e : Entry) → AreKeyed rows → slot_of (entries_of rows) key ≡ Some e → (i : Item) × (slots.item_of rows key ≡ Some i) × (i.entry ≡ e)
item-found rows key e k h = by (slots.item_of rows key) refl
  where
    by : (o : Option Item) → slots.item_of rows key ≡ o → (i : Item) × (slots.item_of rows key ≡ Some i) × (i.entry ≡ e)
    by None f = (let none = slot-is rows key k ∙ ap (option_map (λ (i : Item). i.entry)) f in absurd (cc))
    by (Some i) f = (let some = slot-is rows key k ∙ ap (option_map (λ (j : Item). j.entry)) f in (i, f, cc))

pub item-absent : (rows : List (Row Item)) (key : Key) → AreKeyed rows → slot_of (entries_of rows) key ≡ None → slots.item_of rows key ≡ None
item-absent rows key k h = by (slots.item_of rows key) refl
  where
    by : (o : Option Item) → slots.item_of rows key ≡ o → slots.item_of rows key ≡ None
    by None f = f
    by (Some i) f = (let some = slot-is rows key k ∙ ap (option_map (λ (j : Item). j.entry)) f in absurd (cc))

-- the store is right after the state of a key's entry was changed
pub turned : (old new : PortSlots Item) (index index2 : EndpointIndex Hashers) (key : Key) (s : EntryState) (e : Entry) → IsIndexed old.rows index → slots.Rises 0 old.rows → slot_of (entries_of old.rows) key ≡ Some e
    → ((rank : Rank) → is_of_rank rank s ≡ true → is_of_rank rank e.state ≡ true) → (is_pair e.state ≡ true → is_pair s ≡ false → HasDistinctEndpoints (entries_of old.rows))
    → ((i : Item) → slots.item_of old.rows key ≡ Some i → new ≡ record old { rows = slots.with_item key (record i { entry = entry_in s e.pair }) old.rows })
    → ((rank : Rank) (x : Endpoint) → slot_on index2 rank x ≡ cond (serves rank x e && not (is_pair s)) None (slot_on index rank x))
    → ((a : Ip) → count_in index a ≡ count_in index2 a + lost_by a e s)
    → IsIndexed new.rows index2 × (entries_of new.rows ≡ with_state key s (entries_of old.rows)) × (lives_of new.rows ≡ lives_of old.rows) × (new.room ≡ old.room)
turned old new index index2 key s e k r h back d some unlisted counts =
    let found = item-found old.rows key e k.keyed h in
    let i = found.0 in
    let t : Item = record i { entry = entry_in s e.pair } in
    let rows = ap (λ (p : PortSlots Item). p.rows) (some i found.1) in
    let room = ap (λ (p : PortSlots Item). p.room) (some i found.1) in
    let turns : t.entry ≡ entry_in s i.entry.pair = ap (λ (z : Entry). entry_in s z.pair) (sym found.2) in
    let one : t.entry.pair.key ≡ i.entry.pair.key = ap (λ (z : Entry). z.pair.key) (sym found.2) in
    let two : t.entry.pair.endpoint ≡ i.entry.pair.endpoint = ap (λ (z : Entry). z.pair.endpoint) (sym found.2) in
    let was = λ (rank : Rank). ap (λ (z : Entry). is_of_rank rank z.state) found.2 in
    let pair : is_pair s ≡ true → is_pair e.state ≡ true = λ live. (let ranked = pair-rank s live in rank-pair e.state ranked.0 (back ranked.0 ranked.1)) in
    let leaves = λ (rank : Rank) (p : is_of_rank rank e.state ≡ true) (q : is_of_rank rank s ≡ false). d (rank-pair e.state rank p) (stays-ranked e.state s rank p back ∙ q) in (
      rw rows (record {
        keyed = keyed-with 0 key t i old.rows k.keyed r found.1 one;
        indexed = λ rank x. unlisted rank x
            ∙ ap (λ b. cond b None (slot_on index rank x)) (leaves-same e.state s rank (same_endpoint e.pair.endpoint x) back)
            ∙ ap (λ (z : Entry). cond (serves rank x z && not (is_of_rank rank s)) None (slot_on index rank x)) (sym found.2)
            ∙ ap (cond (serves rank x i.entry && not (is_of_rank rank s)) None) (k.indexed rank x)
            ∙ sym (number-with rank 0 key t i old.rows x r found.1 two (λ p. was rank ∙ back rank p) (λ p q. leaves rank (sym (was rank) ∙ p) q));
        counted = λ a.
            cancelled (count_in index a) (count_in index2 a) (pairs_of a (entries_of old.rows)) (pairs_of a (with_state key s (entries_of old.rows))) (lost_by a e s) (counts a) (k.counted a)
            (count-turned a key s (entries_of old.rows) e (rises-distinct 0 (entries_of old.rows) (rises-up 0 old.rows k.keyed r)) h pair)
            ∙ ap (pairs_of a) (sym (entries-turned 0 key s t i old.rows k.keyed r found.1 turns));
      }),
      rw rows (entries-turned 0 key s t i old.rows k.keyed r found.1 turns),
      rw rows (lives-same 0 key t i old.rows r found.1 refl),
      room,
    )

-- a row in a slot, under its own key
pub record StandsIn (rows : List (Row Item)) (n : SlotNumber) (r : Row Item) : Type 0 where
  pub number : slots.number_of rows r.key ≡ Some n
  pub item : slots.item_of rows r.key ≡ Some r.item

-- the slot of an endpoint of a rank has the pair of that rank that serves it
pub served-on : (rank : Rank) (old : PortSlots Item) (index : EndpointIndex Hashers) (x : Endpoint) → IsIndexed old.rows index → slots.Rises 0 old.rows → (n : SlotNumber) → slot_on index rank x ≡ Some n
    → (r : Row Item) × StandsIn old.rows n r × (entry_on rank (entries_of old.rows) x ≡ Some r.item.entry)
served-on rank old index x k rises n h = by (find (λ (r : Row Item). serves rank x r.item.entry) old.rows) refl
  where
    by : (o : Option (Row Item)) → find (λ (r : Row Item). serves rank x r.item.entry) old.rows ≡ o → (r : Row Item) × StandsIn old.rows n r × (entry_on rank (entries_of old.rows) x ≡ Some r.item.entry)
    by None e = (let none = k.indexed rank x ∙ ap (option_map (λ (r : Row Item). r.number)) e in absurd (cc))
    by (Some r) e =
        let own = own-row 0 (λ (z : Row Item). serves rank x z.item.entry) old.rows r rises e in
        let number = sym (k.indexed rank x ∙ ap (option_map (λ (z : Row Item). z.number)) e) ∙ h in (
          r,
          record { number = ap (option_map (λ (z : Row Item). z.number)) own.0 ∙ number; item = ap (option_map (λ (z : Row Item). z.item)) own.0 },
          entry-is rank old.rows x ∙ ap (option_map (λ (z : Row Item). z.item.entry)) e,
        )

pub unserved-on : (rank : Rank) (old : PortSlots Item) (index : EndpointIndex Hashers) (x : Endpoint) → IsIndexed old.rows index → slot_on index rank x ≡ None → entry_on rank (entries_of old.rows) x ≡ None
unserved-on rank old index x k h = entry-is rank old.rows x ∙ by (find (λ (r : Row Item). serves rank x r.item.entry) old.rows) (sym (k.indexed rank x) ∙ h)
  where
    by : (o : Option (Row Item)) → option_map (λ (r : Row Item). r.number) o ≡ None → option_map (λ (r : Row Item). r.item.entry) o ≡ None
    by None h = refl
    by (Some r) h = cc

-- the slot of an endpoint has its pair
pub served : (old : PortSlots Item) (index : EndpointIndex Hashers) (x : Endpoint) → IsIndexed old.rows index → slots.Rises 0 old.rows → (n : SlotNumber) → index_slot_of index x ≡ Some n
    → (r : Row Item) × StandsIn old.rows n r × (entry_of (entries_of old.rows) x ≡ Some r.item.entry)
served old index x k rises n h = by (slot_on index First x) refl
  where
    by : (o : Option SlotNumber) → slot_on index First x ≡ o → (r : Row Item) × StandsIn old.rows n r × (entry_of (entries_of old.rows) x ≡ Some r.item.entry)
    by None e =
        let second : slot_on index Second x ≡ Some n = sym (ap (λ o. option_or o (slot_on index Second x)) e) ∙ h in
        let row = served-on Second old index x k rises n second in
        (row.0, row.1, ap (λ o. option_or o (entry_on Second (entries_of old.rows) x)) (unserved-on First old index x k e) ∙ row.2)
    by (Some m) e =
        let first : slot_on index First x ≡ Some n = e ∙ sym (ap (λ o. option_or o (slot_on index Second x)) e) ∙ h in
        let row = served-on First old index x k rises n first in
        (row.0, row.1, ap (λ o. option_or o (entry_on Second (entries_of old.rows) x)) row.2)

pub unserved : (old : PortSlots Item) (index : EndpointIndex Hashers) (x : Endpoint) → IsIndexed old.rows index → index_slot_of index x ≡ None → entry_of (entries_of old.rows) x ≡ None
unserved old index x k h =
    let none = neither (slot_on index First x) (slot_on index Second x) h in
    ap (λ o. option_or o (entry_on Second (entries_of old.rows) x)) (unserved-on First old index x k none.0) ∙ unserved-on Second old index x k none.1

-- the first row after a key is found by its key
pub next-row : (old : PortSlots Item) (last : Option Key) (key : Key) → AreKeyed old.rows → slots.Rises 0 old.rows → Some key ≡ option_map (λ (r : Row Item). r.key) (find (slots.stands_behind last) old.rows)
    → (i : Item) × (slots.item_of old.rows key ≡ Some i) × (after_key last (entries_of old.rows) ≡ Some i.entry)
next-row old last key k rises h = by (find (slots.stands_behind last) old.rows) refl
  where
    by : (o : Option (Row Item)) → find (slots.stands_behind last) old.rows ≡ o → (i : Item) × (slots.item_of old.rows key ≡ Some i) × (after_key last (entries_of old.rows) ≡ Some i.entry)
    by None e = (let none = h ∙ ap (option_map (λ (r : Row Item). r.key)) e in absurd (cc))
    by (Some r) e =
        let some = h ∙ ap (option_map (λ (z : Row Item). z.key)) e in
        let same : key ≡ r.key = cc in
        let own = own-row 0 (slots.stands_behind last) old.rows r rises e in (
          r.item,
          ap (slots.item_of old.rows) same ∙ ap (option_map (λ (z : Row Item). z.item)) own.0,
          after-is old.rows last k ∙ ap (option_map (λ (z : Row Item). z.item.entry)) e,
        )

pub no-next_row : (old : PortSlots Item) (last : Option Key) → AreKeyed old.rows → None ≡ option_map (λ (r : Row Item). r.key) (find (slots.stands_behind last) old.rows) → after_key last (entries_of old.rows) ≡ None
no-next_row old last k h = after-is old.rows last k ∙ by (find (slots.stands_behind last) old.rows) (sym h)
  where
    by : (o : Option (Row Item)) → option_map (λ (r : Row Item). r.key) o ≡ None → option_map (λ (r : Row Item). r.item.entry) o ≡ None
    by None h = refl
    by (Some r) h = cc

pub row-absent : (rows : List (Row Item)) (key : Key) → AreKeyed rows → slot_of (entries_of rows) key ≡ None → slots.row_of rows key ≡ None
row-absent rows key k h = by (slots.row_of rows key) (item-absent rows key k h)
  where
    by : (o : Option (Row Item)) → option_map (λ (r : Row Item). r.item) o ≡ None → o ≡ None
    by None h = refl
    by (Some r) h = cc

-- the rows after one was put in, with the item and the key given by equations
pub put-rows : (old new : PortSlots Item) (key key2 : Key) (n : SlotNumber) (item item2 : Item) → new ≡ record old { rows = slots.put_in (record { key = key; number = n; item = item }) old.rows } → key ≡ key2 → item ≡ item2
    → new.rows ≡ slots.put_in (record { key = key2; number = n; item = item2 }) old.rows
put-rows old new key key2 n item item2 h e f =
    ap (λ (s : PortSlots Item). s.rows) h
    ∙ ap (λ (k : Key). slots.put_in (record { key = k; number = n; item = item }) old.rows) e
    ∙ ap (λ (i : Item). slots.put_in (record { key = key2; number = n; item = i }) old.rows) f

-- the life of a key is that of an item
pub item-of_life : (rows : List (Row Item)) (key : Key) (l : Activity) → AreKeyed rows → life_in (entries_of rows) (lives_of rows) key ≡ Some l → (i : Item) × (slots.item_of rows key ≡ Some i) × (i.life ≡ l)
item-of_life rows key l k h = by (slots.item_of rows key) refl
  where
    by : (o : Option Item) → slots.item_of rows key ≡ o → (i : Item) × (slots.item_of rows key ≡ Some i) × (i.life ≡ l)
    by None f = (let none = life-is rows key k ∙ ap (option_map (λ (i : Item). i.life)) f in absurd (cc))
    by (Some i) f = (let some = life-is rows key k ∙ ap (option_map (λ (j : Item). j.life)) f in (i, f, cc))
