-- How many entries pass a test, after each change.
use Rattle.std.proofs.Common.{◌≡◌, ℕ, ◌+◌, ◌-◌, ◌<◌, ◌≤◌, Bool, true, false, not, cond, ◌&&◌, nat_lt, Option, Some, None, List, [], ◌∷◌, length, refl, sym, ap, ◌∙◌, arith}
use Rattle.std.specs.Prelude.{IsSome, ◌==◌}
use Rattle.std.specs.List.{find, count_by}
use Rattle.std.specs.Option.{option_map, is_some}
use Rattle.std.proofs.lemmas.Bool.{and_from}
use Rattle.std.proofs.lemmas.List.{length-map}
use Rattle.std.proofs.lemmas.List.Sums.{sum_by-cons, count_by-le-length}
use Rattle.addresses.specs.declared.internet.Ip.{Ip}
use Rattle.nat_types.specs.declared.pairs.EntryState.{EntryState}
use Rattle.nat_types.specs.declared.pairs.Key.{Key}
use Rattle.nat_types.specs.Same.{same_endpoint}
use Rattle.nat_types.proofs.Offered.{endpoint-self}
use Rattle.slots.specs.declared.ranks.Rank.{Rank}
use Rattle.slots.specs.Rows.{Row}
use Rattle.bindings.specs.declared.entries.Entry.{Entry}
use Rattle.bindings.specs.declared.store.Item.{Item}
use Rattle.bindings.specs.declared.tallies.Sought.{Sought}
use Rattle.bindings.specs.declared.tallies.Sought.TheVariants.{ToMark, ToTell}
use Rattle.bindings.specs.declared.tallies.Tally.{Tally}
use Rattle.bindings.specs.Entries.{is_of_rank, is_pair, is_pair_of, is_alone, is_sought, waits, pairs_of, state_count, has_key, serves, slot_of, entry_on, entry_in, place_of, HasDistinctKeys}
use Rattle.bindings.specs.Lists.{put_in, without, with_state}
use Rattle.bindings.specs.Stores.{entries_of, number_for, one_of, one_if, tally_of, IsTally}
use Rattle.bindings.proofs.Places.{rest-none, without-none, turn-none}
use Rattle.bindings.proofs.Kept.{entry-is}
use Rattle.bindings.proofs.Changes.{found-none}

front : (m n k : ℕ) → m ≡ k + n → m ≡ n + k
front m n k h = omega (arith, h)

swapped : (m x e n k : ℕ) → m ≡ x + n → n ≡ k + e → m ≡ (x + k) + e
swapped m x e n k h g = omega (arith, h, g)

-- ---- any test

module _ (p : Entry → Bool) where
  abbrev pub one_by : Entry → ℕ
  one_by e = cond (p e) 1 0

  -- the count of a list is that of its first entry and that of the rest
  count-first : (e : Entry) (es : List Entry) → count_by p (e ∷ es) ≡ one_by e + count_by p es
  count-first e es = sum_by-cons (λ x. cond (p x) 1 0) e es

  pub put-count : (e : Entry) (es : List Entry) → count_by p (put_in e es) ≡ count_by p es + one_by e
  put-count e [] = front _ 0 (one_by e) (count-first e [])
  put-count e (x ∷ xs) = by (nat_lt (place_of e.pair) (place_of x.pair)) (put-count e xs)
    where
      by : (b : Bool) → count_by p (put_in e xs) ≡ count_by p xs + one_by e → count_by p (cond b (e ∷ x ∷ xs) (x ∷ put_in e xs)) ≡ count_by p (x ∷ xs) + one_by e
      by true ih = front _ (count_by p (x ∷ xs)) (one_by e) (count-first e (x ∷ xs))
      by false ih =
          swapped _ (one_by x) (one_by e) (count_by p (put_in e xs)) (count_by p xs) (count-first x (put_in e xs)) ih
          ∙ ap (λ n. n + one_by e) (sym (count-first x xs))

  -- the count after an entry was removed
  pub without-count : (key : Key) (es : List Entry) (e : Entry) → HasDistinctKeys es → slot_of es key ≡ Some e → count_by p es ≡ count_by p (without key es) + one_by e
  without-count key [] e keys h = absurd (cc)
  without-count key (x ∷ xs) e keys h = by (has_key key x) refl h (without-count key xs e keys.1)
    where
      by : (b : Bool) → has_key key x ≡ b → cond b (Some x) (slot_of xs key) ≡ Some e → (slot_of xs key ≡ Some e → count_by p xs ≡ count_by p (without key xs) + one_by e)
          → count_by p (x ∷ xs) ≡ count_by p (cond (not b) (x ∷ without key xs) (without key xs)) + one_by e
      by true here h ih =
          let same : x ≡ e = cc in
          front _ (count_by p xs) (one_by x) (count-first x xs)
          ∙ ap (λ (zs : List Entry). count_by p zs + one_by x) (sym (without-none key xs (rest-none key x xs here keys.0)))
          ∙ ap (λ (y : Entry). count_by p (without key xs) + one_by y) same
      by false here h ih =
          swapped _ (one_by x) (one_by e) (count_by p xs) (count_by p (without key xs)) (count-first x xs) (ih h)
          ∙ ap (λ n. n + one_by e) (sym (count-first x (without key xs)))

  -- the count after the state of an entry was changed
  pub turned-count : (key : Key) (s : EntryState) (es : List Entry) (e : Entry) → HasDistinctKeys es → slot_of es key ≡ Some e → count_by p es + one_by (entry_in s e.pair) ≡ count_by p (with_state key s es) + one_by e
  turned-count key s [] e keys h = absurd (cc)
  turned-count key s (x ∷ xs) e keys h = by (has_key key x) refl h (turned-count key s xs e keys.1)
    where
      by : (b : Bool) → has_key key x ≡ b → cond b (Some x) (slot_of xs key) ≡ Some e → (slot_of xs key ≡ Some e → count_by p xs + one_by (entry_in s e.pair) ≡ count_by p (with_state key s xs) + one_by e)
          → count_by p (x ∷ xs) + one_by (entry_in s e.pair) ≡ count_by p (cond b (entry_in s x.pair) x ∷ with_state key s xs) + one_by e
      by true here h ih =
          let same : x ≡ e = cc in
          let old = count-first x xs in
          let new = count-first (entry_in s x.pair) (with_state key s xs) in
          let quiet = ap (count_by p) (turn-none key s xs (rest-none key x xs here keys.0)) in
          let one = ap one_by same in
          let two = ap (λ (y : Entry). one_by (entry_in s y.pair)) same in
          omega (arith, old, new, quiet, one, two)
      by false here h ih =
          let old = count-first x xs in
          let new = count-first x (with_state key s xs) in
          let rest = ih h in
          omega (arith, old, new, rest)

-- ---- the pairs of an inside address

pub count-put : (a : Ip) (e : Entry) (es : List Entry) → pairs_of a (put_in e es) ≡ pairs_of a es + one_of a e
count-put a e es = put-count (is_pair_of a) e es

-- the count goes down by one where a pair's entry is removed
pub count-without : (a : Ip) (key : Key) (es : List Entry) (e : Entry) → HasDistinctKeys es → slot_of es key ≡ Some e → pairs_of a es ≡ pairs_of a (without key es) + one_of a e
count-without a key es e keys h = without-count (is_pair_of a) key es e keys h

-- by how much the count goes down where the state of an entry is changed
abbrev pub lost_by : Ip → Entry → EntryState → ℕ
lost_by a e s = cond (is_pair_of a e && not (is_pair s)) 1 0

turned-one : (b p q : Bool) → (q ≡ true → p ≡ true) → (let n : ℕ = cond (p && b) 1 0 in n) ≡ cond (q && b) 1 0 + cond ((p && b) && not q) 1 0
turned-one true true true back = omega arith
turned-one false true true back = omega arith
turned-one true true false back = omega arith
turned-one false true false back = omega arith
turned-one b false true back = (let p = back refl in absurd (cc))
turned-one b false false back = omega arith

pub count-turned : (a : Ip) (key : Key) (s : EntryState) (es : List Entry) (e : Entry) → HasDistinctKeys es → slot_of es key ≡ Some e → (is_pair s ≡ true → is_pair e.state ≡ true) → pairs_of a es ≡ pairs_of a (with_state key s es) + lost_by a e s
count-turned a key s es e keys h back =
    let all = turned-count (is_pair_of a) key s es e keys h in
    let one = turned-one (e.pair.endpoint.address.0 == a.0) (is_pair e.state) (is_pair s) back in
    omega (arith, all, one)

-- ---- the entries that a tick looks for

-- no more entries pass than there are
pub few-states : (test : EntryState → Bool) (es : List Entry) → state_count test es ≤ length es
few-states test es = count_by-le-length (λ e. test e.state) es

-- both counts are small where there are few rows
pub record AreSmall (t : Tally) : Type 0 where
  pub waiting : t.waiting < 4294967295
  pub alone : t.alone < 4294967295

pub tally-few : (rows : List (Row Item)) (t : Tally) → IsTally (entries_of rows) t → length rows ≤ 2147483647 → AreSmall t
tally-few rows t is few =
    let long = length-map rows (λ (r : Row Item). r.item.entry) in
    let waiting = few-states waits (entries_of rows) in
    let alone = few-states is_alone (entries_of rows) in
    let a = is.waiting in
    let b = is.alone in
    record { waiting = omega (arith, long, waiting, few, a); alone = omega (arith, long, alone, few, b) }

pub tally-put : (e : Entry) (es : List Entry) (t u : Tally) → IsTally es t → u.waiting ≡ t.waiting + one_if waits e.state → u.alone ≡ t.alone + one_if is_alone e.state → IsTally (put_in e es) u
tally-put e es t u is waiting alone = record {
  waiting = waiting ∙ ap (λ n. n + one_if waits e.state) is.waiting ∙ sym (put-count (λ (x : Entry). waits x.state) e es);
  alone = alone ∙ ap (λ n. n + one_if is_alone e.state) is.alone ∙ sym (put-count (λ (x : Entry). is_alone x.state) e es);
}

less : (m n k u : ℕ) → m ≡ n + k → u ≡ m - k → u ≡ n
less m n k u h g = omega (arith, h, g)

pub tally-without : (key : Key) (es : List Entry) (e : Entry) (t u : Tally) → HasDistinctKeys es → slot_of es key ≡ Some e → IsTally es t → u.waiting ≡ t.waiting - one_if waits e.state → u.alone ≡ t.alone - one_if is_alone e.state → IsTally (without key es) u
tally-without key es e t u keys h is waiting alone = record {
  waiting = less _ _ (one_if waits e.state) _ (is.waiting ∙ without-count (λ (x : Entry). waits x.state) key es e keys h) waiting;
  alone = less _ _ (one_if is_alone e.state) _ (is.alone ∙ without-count (λ (x : Entry). is_alone x.state) key es e keys h) alone;
}

-- the entry of a key counts where it passes
counted-one : (p : Entry → Bool) (key : Key) (es : List Entry) (e : Entry) → HasDistinctKeys es → slot_of es key ≡ Some e → one_by p e ≤ count_by p es
counted-one p key es e keys h = (let all = without-count p key es e keys h in omega (arith, all))

moved : (m n a b u v : ℕ) → m + b ≡ n + a → a ≤ m → u ≡ m - a → v ≡ u + b → v ≡ n
moved m n a b u v h few g f = omega (arith, h, few, g, f)

-- the tally after the state of an entry was changed: t before, u without that entry, and v with it in the new state
pub tally-turned : (key : Key) (s : EntryState) (es : List Entry) (e : Entry) (t u v : Tally) → HasDistinctKeys es → slot_of es key ≡ Some e → IsTally es t
    → u.waiting ≡ t.waiting - one_if waits e.state → u.alone ≡ t.alone - one_if is_alone e.state → v.waiting ≡ u.waiting + one_if waits s → v.alone ≡ u.alone + one_if is_alone s → IsTally (with_state key s es) v
tally-turned key s es e t u v keys h is out gone back also = record {
  waiting =
      moved (state_count waits es) _ (one_if waits e.state) (one_if waits s) u.waiting v.waiting (turned-count (λ (x : Entry). waits x.state) key s es e keys h)
      (counted-one (λ (x : Entry). waits x.state) key es e keys h) (out ∙ ap (λ n. n - one_if waits e.state) is.waiting) back;
  alone =
      moved (state_count is_alone es) _ (one_if is_alone e.state) (one_if is_alone s) u.alone v.alone (turned-count (λ (x : Entry). is_alone x.state) key s es e keys h)
      (counted-one (λ (x : Entry). is_alone x.state) key es e keys h) (gone ∙ ap (λ n. n - one_if is_alone e.state) is.alone) also;
}

-- the count of those that are sought is that of the entries
pub tally-is : (sought : Sought) (es : List Entry) (t : Tally) → IsTally es t → tally_of sought t ≡ state_count (is_sought sought) es
tally-is ToMark es t is = is.waiting
tally-is ToTell es t is = is.alone

-- ---- slots of pairs

-- the endpoint of an entry that is a pair of a rank has a slot of that rank
pub numbered : (rank : Rank) (rows : List (Row Item)) (key : Key) (e : Entry) → slot_of (entries_of rows) key ≡ Some e → is_of_rank rank e.state ≡ true → IsSome (number_for rows rank e.pair.endpoint)
numbered rank rows key e h pair = by (find (λ (r : Row Item). serves rank e.pair.endpoint r.item.entry) rows) (sym (entry-is rank rows e.pair.endpoint))
  where
    serving : serves rank e.pair.endpoint e ≡ true
    serving = and_from (is_of_rank rank e.state) (same_endpoint e.pair.endpoint e.pair.endpoint) pair (endpoint-self e.pair.endpoint)

    by : (o : Option (Row Item)) → option_map (λ (r : Row Item). r.item.entry) o ≡ entry_on rank (entries_of rows) e.pair.endpoint → is_some (option_map (λ (r : Row Item). r.number) o) ≡ true
    by None f = absurd (found-none (has_key key) (serves rank e.pair.endpoint) (entries_of rows) e h serving (sym f))
    by (Some r) f = refl
