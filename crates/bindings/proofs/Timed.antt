-- Each entry of the watch is still looked at in time after a change of the rows, the moments or the watch.
use Rattle.std.proofs.Common.{◌≡◌, ℕ, ◌≤◌, Bool, true, false, not, ◌||◌, cond, nat_lt, nat_le, Option, Some, None, List, [], ◌∷◌, map, refl, ap, sym, ◌∙◌, arith}
use Rattle.std.specs.Option.{option_map}
use Rattle.std.proofs.Math.ListN.{get_or-map}
use Rattle.std.proofs.lemmas.Bool.{cond-false, both_ways, leb-true}
use Rattle.nat_types.specs.declared.pairs.EntryState.{EntryState}
use Rattle.nat_types.specs.declared.pairs.EntryState.TheVariants.{Pending, Doomed, Live, Closing, Alone, Held}
use Rattle.nat_types.specs.declared.pairs.Key.{Key}
use Rattle.nat_types.specs.Same.{same_key}
use Rattle.nat_types.proofs.Offered.{key-eq, key-true}
use Rattle.timers.specs.Due.{is_due, cleared}
use Rattle.activity.specs.Dues.{due_moment}
use Rattle.slots.specs.Dues.{AreDue, moment_of}
use Rattle.slots.specs.declared.numbers.SlotNumber.{SlotNumber}
use Rattle.slots.specs.Rows.{Row}
use Rattle.slots.specs.Rows as slots
use Rattle.bindings.specs.declared.entries.Entry.{Entry}
use Rattle.bindings.specs.declared.store.Item.{Item}
use Rattle.bindings.specs.declared.watches.Watch.{Watch}
use Rattle.bindings.specs.declared.watches.Watch.TheVariants.{OnlyAlone, Own, HeldToo}
use Rattle.bindings.specs.Entries.{is_alone}
use Rattle.bindings.specs.Lives.{may_go, is_among}
use Rattle.bindings.specs.Stores.{entries_of, AreKeyed}
use Rattle.bindings.specs.Dues.{covers, is_watched, IsTimed, IsTimedAt, AreTimed, AreTimedBut, KeepsDues, AreListed}
use Rattle.bindings.proofs.Found.{find-passes}
use Rattle.bindings.proofs.Listed.{none-listed}

-- ---- the row of a key

pub row-key : (rows : List (Row Item)) (key : Key) (r : Row Item) → slots.row_of rows key ≡ Some r → r.key ≡ key
row-key rows key r h = key-eq r.key key (find-passes (slots.has_key key) rows r h)

differs : (key q : Key) → same_key key q ≡ false → q ≡ key → ⊥
differs key q e same = both_ways (same_key key q) e (key-true key q (sym same))

row-put : (r : Row Item) (rows : List (Row Item)) (q : Key) → same_key r.key q ≡ false → slots.row_of (slots.put_in r rows) q ≡ slots.row_of rows q
row-put r [] q e = cond-false (same_key r.key q) (Some r) None e
row-put r (x ∷ rows) q e = by (nat_lt (slots.key_place r.key) (slots.key_place x.key)) (row-put r rows q e)
  where
    by : (b : Bool) → slots.row_of (slots.put_in r rows) q ≡ slots.row_of rows q → slots.row_of (cond b (r ∷ x ∷ rows) (x ∷ slots.put_in r rows)) q ≡ slots.row_of (x ∷ rows) q
    by true ih = cond-false (same_key r.key q) (Some r) (slots.row_of (x ∷ rows) q) e
    by false ih = ap (cond (same_key x.key q) (Some x)) ih

other-row : (key q : Key) (x : Row Item) → same_key key q ≡ false → same_key x.key key ≡ true → same_key x.key q ≡ false
other-row key q x e f = ap (λ (k : Key). same_key k q) (key-eq x.key key f) ∙ e

row-with : (key : Key) (t : Item) (rows : List (Row Item)) (q : Key) → same_key key q ≡ false → slots.row_of (slots.with_item key t rows) q ≡ slots.row_of rows q
row-with key t [] q e = refl
row-with key t (x ∷ rows) q e = by (same_key x.key key) refl (row-with key t rows q e)
  where
    by : (b : Bool) → same_key x.key key ≡ b → slots.row_of (slots.with_item key t rows) q ≡ slots.row_of rows q → slots.row_of (cond b (record x { item = t }) x ∷ slots.with_item key t rows) q ≡ slots.row_of (x ∷ rows) q
    by true f ih =
        let other = other-row key q x e f in
        cond-false (same_key x.key q) (Some (record x { item = t })) (slots.row_of (slots.with_item key t rows) q) other ∙ ih ∙ sym (cond-false (same_key x.key q) (Some x) (slots.row_of rows q) other)
    by false f ih = ap (cond (same_key x.key q) (Some x)) ih

row-without : (key : Key) (rows : List (Row Item)) (q : Key) → same_key key q ≡ false → slots.row_of (slots.without key rows) q ≡ slots.row_of rows q
row-without key [] q e = refl
row-without key (x ∷ rows) q e = by (same_key x.key key) refl (row-without key rows q e)
  where
    by : (b : Bool) → same_key x.key key ≡ b → slots.row_of (slots.without key rows) q ≡ slots.row_of rows q → slots.row_of (cond (not b) (x ∷ slots.without key rows) (slots.without key rows)) q ≡ slots.row_of (x ∷ rows) q
    by true f ih = ih ∙ sym (cond-false (same_key x.key q) (Some x) (slots.row_of rows q) (other-row key q x e f))
    by false f ih = ap (cond (same_key x.key q) (Some x)) ih

none-without : (key : Key) (rows : List (Row Item)) → slots.row_of (slots.without key rows) key ≡ None
none-without key [] = refl
none-without key (x ∷ rows) = by (same_key x.key key) refl (none-without key rows)
  where
    by : (b : Bool) → same_key x.key key ≡ b → slots.row_of (slots.without key rows) key ≡ None → slots.row_of (cond (not b) (x ∷ slots.without key rows) (slots.without key rows)) key ≡ None
    by true f ih = ih
    by false f ih = cond-false (same_key x.key key) (Some x) (slots.row_of (slots.without key rows) key) f ∙ ih

-- ---- one key

-- a key whose slot has a moment not after its entry is idle is looked at in time
pub timed-by : (watch : Watch) (rows : List (Row Item)) (key : Key) (n : SlotNumber) (i : Item) (moments : List (Option ℕ)) (m : ℕ) → slots.number_of rows key ≡ Some n → slots.item_of rows key ≡ Some i
    → moment_of moments n ≡ Some m → m ≤ due_moment key.protocol i.life → IsTimedAt watch moments rows key
timed-by watch rows key n i moments m has holds is early r h go =
    let some : Some r.number ≡ Some n = sym (ap (option_map (λ (x : Row Item). x.number)) h) ∙ has in
    let thing : Some r.item ≡ Some i = sym (ap (option_map (λ (x : Row Item). x.item)) h) ∙ holds in
    let number : r.number ≡ n = cc in
    let item : r.item ≡ i = cc in
    let own = ap (λ (k : Key). due_moment k.protocol r.item.life) (row-key rows key r h) in
    let same = ap (λ (x : Item). due_moment key.protocol x.life) item in
    (m, ap (moment_of moments) number ∙ is, omega (arith, early, own, same))

-- a slot that is due has a moment
pub due-by : (now : ℕ) (o : Option ℕ) → is_due now o ≡ true → (m : ℕ) × (o ≡ Some m) × (m ≤ now)
due-by now None h = absurd (cc)
due-by now (Some m) h = (m, refl, leb-true m now h)

-- ---- one key's row changes

-- where the rows of the other keys stay and this key is looked at in time, all are
kept-timed : (watch : Watch) (key : Key) (old new : List (Option ℕ)) (rows rows2 : List (Row Item)) → ((q : Key) → same_key key q ≡ false → slots.row_of rows2 q ≡ slots.row_of rows q)
    → KeepsDues rows2 key old new → IsTimedAt watch new rows2 key → AreTimed watch old rows → AreTimed watch new rows2
kept-timed watch key old new rows rows2 others keeps set timed q r h go = by (same_key key q) refl
  where
    by : (b : Bool) → same_key key q ≡ b → IsTimed new r
    by true e = set r (ap (slots.row_of rows2) (key-eq key q e) ∙ h) go
    by false e =
        let w = timed q r (sym (others q e) ∙ h) go in
        (w.0, keeps q r.number (ap (option_map (λ (x : Row Item). x.number)) h) (differs key q e) ∙ w.1, w.2)

pub added-timed : (watch : Watch) (old new : List (Option ℕ)) (r : Row Item) (rows : List (Row Item)) → KeepsDues (slots.put_in r rows) r.key old new → IsTimedAt watch new (slots.put_in r rows) r.key
    → AreTimed watch old rows → AreTimed watch new (slots.put_in r rows)
added-timed watch old new r rows = kept-timed watch r.key old new rows (slots.put_in r rows) (row-put r rows)

-- all keys are looked at in time after this key's item was changed, or where it has none
pub changed-timed : (watch : Watch) (key : Key) (change : Item → Item) (old new : List (Option ℕ)) (rows rows2 : List (Row Item))
    → ((i : Item) → slots.item_of rows key ≡ Some i → rows2 ≡ slots.with_item key (change i) rows) → (slots.item_of rows key ≡ None → rows2 ≡ rows)
    → KeepsDues rows2 key old new → IsTimedAt watch new rows2 key → AreTimed watch old rows → AreTimed watch new rows2
changed-timed watch key change old new rows rows2 some none = kept-timed watch key old new rows rows2 (λ q e. by q e (slots.item_of rows key) refl)
  where
    by : (q : Key) → same_key key q ≡ false → (o : Option Item) → slots.item_of rows key ≡ o → slots.row_of rows2 q ≡ slots.row_of rows q
    by q e None f = ap (λ rs. slots.row_of rs q) (none f)
    by q e (Some i) f = ap (λ rs. slots.row_of rs q) (some i f) ∙ row-with key (change i) rows q e

pub without-timed : (watch : Watch) (key : Key) (moments : List (Option ℕ)) (rows : List (Row Item)) → AreTimed watch moments rows → AreTimed watch moments (slots.without key rows)
without-timed watch key moments rows timed q r h go = by (same_key key q) refl
  where
    by : (b : Bool) → same_key key q ≡ b → IsTimed moments r
    by true e = (let none = sym (ap (slots.row_of (slots.without key rows)) (key-eq key q e)) ∙ none-without key rows in absurd (cc))
    by false e = timed q r (sym (row-without key rows q e) ∙ h) go

pub none-timed : (watch : Watch) (moments : List (Option ℕ)) → AreTimed watch moments []
none-timed watch moments key r h go = absurd (cc)

-- ---- all that came due

-- a listed key that is set again is looked at in time
pub timed-again : (watch : Watch) (key : Key) (keys : List Key) (old new : List (Option ℕ)) (rows : List (Row Item)) → KeepsDues rows key old new → IsTimedAt watch new rows key
    → AreTimedBut watch (key ∷ keys) old rows → AreTimedBut watch keys new rows
timed-again watch key keys old new rows keeps set but q none r h go = by (same_key key q) refl
  where
    by : (b : Bool) → same_key key q ≡ b → IsTimed new r
    by true e = set r (ap (slots.row_of rows) (key-eq key q e) ∙ h) go
    by false e =
        let w = but q (ap (λ b. b || is_among q keys) e ∙ none) r h go in
        (w.0, keeps q r.number (ap (option_map (λ (x : Row Item). x.number)) h) (differs key q e) ∙ w.1, w.2)

-- where no listed key is left, all keys are looked at in time
pub timed-all : (watch : Watch) (moments : List (Option ℕ)) (rows : List (Row Item)) → AreTimedBut watch [] moments rows → AreTimed watch moments rows
timed-all watch moments rows but key = but key refl

-- after the due moments are unset, each key that isn't listed is looked at in time
pub timed-but : (watch : Watch) (now : ℕ) (moments : List (Option ℕ)) (found : List ℕ) (keys : List Key) (rows : List (Row Item)) → AreDue now moments found → AreListed rows found keys
    → AreTimed watch moments rows → AreTimedBut watch keys (map (cleared now) moments) rows
timed-but watch now moments found keys rows due listed timed key none r h go =
    let w = timed key r h go in
    let moment = get_or-map (cleared now) moments r.number.0 None ∙ ap (cleared now) w.1 in
    by w.0 w.1 moment w.2 (nat_le w.0 now) refl
  where
    by : (m : ℕ) → moment_of moments r.number ≡ Some m → moment_of (map (cleared now) moments) r.number ≡ cleared now (Some m)
        → m ≤ due_moment r.key.protocol r.item.life → (b : Bool) → nat_le m now ≡ b → IsTimed (map (cleared now) moments) r
    by m is moment early true e =
        let once = due r.number.0 ∙ ap (λ (o : Option ℕ). cond {A = ℕ} (is_due now o) 1 0) is ∙ ap (λ b. (let n : ℕ = cond b 1 0 in n)) e in
        let never = sym (listed key r.number (ap (option_map (λ (x : Row Item). x.number)) h)) ∙ none-listed key keys none in
        absurd (omega (arith, once, never))
    by m is moment early false e = (m, moment ∙ cond-false (nat_le m now) None (Some m) e, early)

-- ---- another watch

-- an Alone entry may be released, and an entry that may be released otherwise may be where the gateway is lone
alone-goes : (s : EntryState) → is_alone s ≡ true → may_go false s ≡ true
alone-goes (Pending marked) h = h
alone-goes Doomed h = h
alone-goes Live h = absurd (cc)
alone-goes (Closing marked) h = h
alone-goes Alone h = h
alone-goes Held h = h

more-go : (s : EntryState) → may_go false s ≡ true → may_go true s ≡ true
more-go (Pending marked) h = h
more-go Doomed h = h
more-go Live h = h
more-go (Closing marked) h = h
more-go Alone h = h
more-go Held h = absurd (cc)

covered : (was watch : Watch) (s : EntryState) → covers was watch ≡ true → is_watched watch s ≡ true → is_watched was s ≡ true
covered HeldToo OnlyAlone s h seen = more-go s (alone-goes s seen)
covered HeldToo Own s h seen = more-go s seen
covered HeldToo HeldToo s h seen = seen
covered Own OnlyAlone s h seen = alone-goes s seen
covered Own Own s h seen = seen
covered Own HeldToo s h seen = absurd (cc)
covered OnlyAlone OnlyAlone s h seen = seen
covered OnlyAlone Own s h seen = absurd (cc)
covered OnlyAlone HeldToo s h seen = absurd (cc)

-- where a watch looks at no more entries than the one before it, all are looked at in time as before
pub timed-as : (was watch : Watch) (moments : List (Option ℕ)) (rows : List (Row Item)) → covers was watch ≡ true → AreTimed was moments rows → AreTimed watch moments rows
timed-as was watch moments rows h timed = λ key r is seen. timed key r is (covered was watch r.item.entry.state h seen)

-- ---- all entries

-- the keys of entries
abbrev pub keys_of : List Entry → List Key
keys_of es = map (λ e. e.pair.key) es

all-among : (rows : List (Row Item)) (key : Key) (r : Row Item) → AreKeyed rows → slots.row_of rows key ≡ Some r → is_among key (keys_of (entries_of rows)) ≡ true
all-among [] key r keyed h = absurd (cc)
all-among (x ∷ rows) key r keyed h = by (same_key x.key key) refl (all-among rows key r keyed.1)
  where
    rest : Bool
    rest = is_among key (keys_of (entries_of rows))

    own : (same_key x.item.entry.pair.key key || rest) ≡ (same_key x.key key || rest)
    own = ap (λ (k : Key). same_key k key || rest) (sym keyed.0)

    by : (b : Bool) → same_key x.key key ≡ b → (slots.row_of rows key ≡ Some r → rest ≡ true) → (same_key x.item.entry.pair.key key || rest) ≡ true
    by true e ih = own ∙ ap (λ b. b || rest) e
    by false e ih = own ∙ ap (λ b. b || rest) e ∙ ih (sym (cond-false (same_key x.key key) (Some x) (slots.row_of rows key) e) ∙ h)

-- with the keys of all entries listed, each other key is looked at in time
pub timed-none : (watch : Watch) (moments : List (Option ℕ)) (rows : List (Row Item)) → AreKeyed rows → AreTimedBut watch (keys_of (entries_of rows)) moments rows
timed-none watch moments rows keyed key none r h go =
    absurd (both_ways (is_among key (keys_of (entries_of rows))) none (all-among rows key r keyed h))
