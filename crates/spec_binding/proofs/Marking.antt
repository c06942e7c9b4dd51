-- After a tick at which a gateway is apart, each pair of its table translates.
use Rattle.std.proofs.Common.{◌≡◌, ℕ, Bool, true, false, cond, Option, Some, None, inl, inr, List, [], ◌∷◌, map, refl, sym, ap, ◌∙◌}
use Rattle.std.specs.List.{filter}
use Rattle.std.proofs.lemmas.Bool.{both_ways, cases_Bool, cond-true, cond-false, false_from_ne_true, or_cases, or_left, or_right}
use Rattle.nat_types.specs.Same.{same_key}
use Rattle.nat_types.proofs.Offered.{key-eq}
use Rattle.nat_types.specs.declared.pairs.EntryState.{EntryState}
use Rattle.nat_types.specs.declared.pairs.EntryState.TheVariants as state
use Rattle.nat_types.specs.declared.pairs.Endpoint.{Endpoint}
use Rattle.nat_types.specs.declared.pairs.Key.{Key}
use Rattle.bindings.specs.declared.entries.Entry.{Entry}
use Rattle.bindings.specs.Entries.{entry_in, entry_of, has_key, is_pair, slot_of, translates, waits}
use Rattle.bindings.specs.Lists.{with_state}
use Rattle.bindings.specs.Lives.{is_among}
use Rattle.bindings.proofs.Offered.{entry-slot, find-some, slot-key, slot-with_state}
use Rattle.link.specs.Link.{Link}
use Rattle.spec_binding.specs.declared.changes.Transition.{Transition}
use Rattle.spec_binding.specs.Books.{Book, IsBook, is_paired}
use Rattle.spec_binding.specs.Ledgers.{Ledger, go_on_all, keys_in, ledger_after, sought_keys}
use Rattle.spec_binding.specs.Rows.{alone_row, answered, changed, is_full, marked_row, quiet, sought_row}
use Rattle.spec_binding.specs.Waits.{is_pending, is_waiting, waits_by}
use Rattle.spec_binding.proofs.Keeping.{alone-row-keeps}
use Rattle.spec_binding.proofs.Leaving.{change-leaves}
use Rattle.spec_binding.proofs.Wishing.{at-key}

-- each entry that waits has one of these keys
abbrev AreSought : List Entry → List Key → Type 0
AreSought es keys = (q : Key) (y : Entry) → slot_of es q ≡ Some y → waits y.state ≡ true → is_among q keys ≡ true

all-sought : (es : List Entry) → AreSought es (keys_in waits es)
all-sought [] q y h w = absurd (cc)
all-sought (x ∷ xs) q y h w =
    elim (find-some (has_key q x) x (slot_of xs q) y h) [
      | inl here ↦ first (waits x.state) (ap (λ (z : Entry). waits z.state) here.1 ∙ w) here.0
      | inr more ↦ rest (waits x.state) (all-sought xs q y more.1 w)
    ]
  where
    first : (b : Bool) → b ≡ true → has_key q x ≡ true → is_among q (map (λ (z : Entry). z.pair.key) (cond b (x ∷ filter (λ z. waits z.state) xs) (filter (λ z. waits z.state) xs))) ≡ true
    first true t here = or_left (same_key x.pair.key q) (is_among q (keys_in waits xs)) here
    first false t here = cc

    rest : (b : Bool) → is_among q (keys_in waits xs) ≡ true → is_among q (map (λ (z : Entry). z.pair.key) (cond b (x ∷ filter (λ z. waits z.state) xs) (filter (λ z. waits z.state) xs))) ≡ true
    rest true among = or_right (same_key x.pair.key q) (is_among q (keys_in waits xs)) among
    rest false among = among

-- where the entry at the key of the row is turned into a state that doesn't wait, the other keys are left
turned-sought : (es : List Entry) (x : Entry) (s : EntryState) (k : Key) (ks : List Key) → x.pair.key ≡ k → slot_of es x.pair.key ≡ Some x → waits s ≡ false → AreSought es (k ∷ ks) → AreSought (with_state x.pair.key s es) ks
turned-sought es x s k ks at found still all q y h w =
    elim (cases_Bool (same_key x.pair.key q)) [
      | inl here ↦
          (let both : Some (entry_in s x.pair) ≡ Some y = sym (slot-with_state x.pair.key s es x q found ∙ cond-true (same_key x.pair.key q) (Some (entry_in s x.pair)) (slot_of es q) here) ∙ h in
          let one : entry_in s x.pair ≡ y = cc in
          absurd (both_ways (waits s) still (ap (λ (z : Entry). waits z.state) one ∙ w)))
      | inr other ↦
          (let old : slot_of es q ≡ Some y = sym (slot-with_state x.pair.key s es x q found ∙ cond-false (same_key x.pair.key q) (Some (entry_in s x.pair)) (slot_of es q) other) ∙ h in
          elim (or_cases (same_key k q) (is_among q ks) (all q y old w)) [
            | inl same ↦ absurd (both_ways (same_key x.pair.key q) other (ap (λ (z : Key). same_key z q) at ∙ same))
            | inr more ↦ more
          ])
    ]

-- where the key has no entry that waits, the other keys are left too
kept-sought : (es : List Entry) (k : Key) (ks : List Key) → ((y : Entry) → slot_of es k ≡ Some y → waits y.state ≡ false) → AreSought es (k ∷ ks) → AreSought es ks
kept-sought es k ks still all q y h w =
    elim (or_cases (same_key k q) (is_among q ks) (all q y h w)) [
      | inl same ↦ absurd (both_ways (waits y.state) (still y (ap (slot_of es) (key-eq k q same) ∙ h)) w)
      | inr more ↦ more
    ]

marked-sought : (b : Book) (x : Entry) (s : EntryState) (k : Key) (ks : List Key) → x.state ≡ s → x.pair.key ≡ k → slot_of b.entries x.pair.key ≡ Some x → AreSought b.entries (k ∷ ks) → AreSought (changed (marked_row x.pair s).change b).entries ks
marked-sought b x s k ks is at found all = by s is
  where
    rests : waits x.state ≡ false → AreSought b.entries ks
    rests still = kept-sought b.entries k ks (λ y h. let both : Some x ≡ Some y = sym found ∙ ap (slot_of b.entries) at ∙ h in let one : x ≡ y = cc in ap (λ (z : Entry). waits z.state) (sym one) ∙ still) all

    by : (s : EntryState) → x.state ≡ s → AreSought (changed (marked_row x.pair s).change b).entries ks
    by (state.Pending true) is = rests (ap waits is)
    by (state.Pending false) is = turned-sought b.entries x (state.Pending true) k ks at found refl all
    by state.Doomed is = rests (ap waits is)
    by state.Live is = rests (ap waits is)
    by (state.Closing true) is = rests (ap waits is)
    by (state.Closing false) is = turned-sought b.entries x (state.Closing true) k ks at found refl all
    by state.Alone is = rests (ap waits is)
    by state.Held is = rests (ap waits is)

row-sought : (b : Book) (full : Bool) (k : Key) (ks : List Key) → is_paired b.stage ≡ true → AreSought b.entries (k ∷ ks) → AreSought (changed (alone_row b true full k).change b).entries ks
row-sought b full k ks paired all = at (is_paired b.stage) paired (slot_of b.entries k) refl
  where
    at : (t : Bool) → t ≡ true → (o : Option Entry) → slot_of b.entries k ≡ o → AreSought (changed (let r : Transition = cond t (sought_row true full o) quiet in r).change b).entries ks
    at false h o there = cc
    at true h None there = kept-sought b.entries k ks (λ y found. let clash : None ≡ Some y = sym there ∙ found in absurd (cc)) all
    at true h (Some x) there = marked-sought b x x.state k ks refl (slot-key b.entries k x there) (at-key b.entries k x there) all

-- once all are marked, none waits
none-waits : (now : ℕ) (keys : List Key) (l : Ledger) (e : Link) → is_paired l.book.stage ≡ true → AreSought l.book.entries keys → (k : Key) (x : Entry) → slot_of (go_on_all true now keys l e).ledger.book.entries k ≡ Some x → waits x.state ≡ false
none-waits now [] l e paired all k x found = false_from_ne_true (waits x.state) (λ w. let no = all k x found w in cc)
none-waits now (k2 ∷ ks) l e paired all k x found =
    let row = alone_row l.book true (is_full e) k2 in
    none-waits now ks (ledger_after now row.change l) (answered e row.answer) (ap is_paired (change-leaves l.book row.change).stage ∙ paired) (row-sought l.book (is_full e) k2 ks paired all) k x found

serving-state : (s : EntryState) → is_pair s ≡ true → waits s ≡ false → translates s ≡ true
serving-state (state.Pending true) p w = refl
serving-state (state.Pending false) p w = cc
serving-state state.Doomed p w = cc
serving-state state.Live p w = refl
serving-state (state.Closing true) p w = refl
serving-state (state.Closing false) p w = cc
serving-state state.Alone p w = refl
serving-state state.Held p w = refl

unpending : (s : EntryState) → waits s ≡ false → is_pending s ≡ false
unpending (state.Pending true) w = refl
unpending (state.Pending false) w = cc
unpending state.Doomed w = refl
unpending state.Live w = refl
unpending (state.Closing m) w = refl
unpending state.Alone w = refl
unpending state.Held w = refl

pub all-translate : (now : ℕ) (l : Ledger) (e : Link) (k : Key) (x : Entry) → IsBook l.book → is_paired l.book.stage ≡ true → slot_of (go_on_all true now (sought_keys true l.book.entries) l e).ledger.book.entries k ≡ Some x → is_pair x.state ≡ true → translates x.state ≡ true
all-translate now l e k x is paired found pair = serving-state x.state pair (none-waits now (sought_keys true l.book.entries) l e paired (all-sought l.book.entries) k x found)

gone-keeps : (apart : Bool) (now : ℕ) (keys : List Key) (l : Ledger) (e : Link) → IsBook l.book → IsBook (go_on_all apart now keys l e).ledger.book
gone-keeps apart now [] l e is = is
gone-keeps apart now (k ∷ ks) l e is =
    let row = alone_row l.book apart (is_full e) k in
    gone-keeps apart now ks (ledger_after now row.change l) (answered e row.answer) (alone-row-keeps l.book apart (is_full e) k is)

pub none-waiting : (now : ℕ) (l : Ledger) (e : Link) (x : Endpoint) → IsBook l.book → is_paired l.book.stage ≡ true → is_waiting (go_on_all true now (sought_keys true l.book.entries) l e).ledger.book x ≡ false
none-waiting now l e x is paired = at (entry_of after.entries x) refl
  where
    after : Book
    after = (go_on_all true now (sought_keys true l.book.entries) l e).ledger.book

    at : (o : Option Entry) → entry_of after.entries x ≡ o → waits_by o ≡ false
    at None h = refl
    at (Some y) h =
        let there = entry-slot after.entries x y (gone-keeps true now (sought_keys true l.book.entries) l e is).keys h in
        unpending y.state (none-waits now (sought_keys true l.book.entries) l e paired (all-sought l.book.entries) y.pair.key y there)
