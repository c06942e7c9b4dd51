-- The settled pairs after a key, in the order of a table.
use Rattle.std.proofs.Common.{◌≡◌, ℕ, suc, ◌+◌, ◌*◌, ◌<◌, ◌≤◌, ◌==◌, Bool, true, false, cond, ◌&&◌, Option, Some, None, inl, inr, List, [], ◌∷◌, map, refl, sym, ap, ◌∙◌, subst, arith}
use Rattle.std.specs.List.{filter, AllByRecursion}
use Rattle.std.proofs.lemmas.Bool.{both_ways, cond-true, cond-false, eq-eqb, ltb-true, lt-ltb, le-ltb}
use Rattle.addresses.specs.declared.transport.Protocol.{Protocol}
use Rattle.addresses.specs.declared.transport.Protocol.TheVariants.{Icmp, Tcp, Udp}
use Rattle.addresses.specs.Transport.{same_protocol, protocol_number}
use Rattle.nat_types.specs.declared.pairs.Key.{Key}
use Rattle.nat_types.specs.declared.pairs.Pair.{Pair}
use Rattle.nat_types.specs.Same.{same_key}
use Rattle.bindings.specs.declared.entries.Entry.{Entry}
use Rattle.bindings.specs.Entries.{has_key, slot_of, place_of, pairs_in, HasDistinctKeys}
use Rattle.bindings.specs.Lists.{Rises, key_place, stands_behind, after_key}
use Rattle.bindings.specs.Table.{Table, IsTable}
use Rattle.bindings.proofs.Offered.{find-none, find-some, find-passes, found-slot}
use Rattle.link.specs.Grammar.{IsWellFormedPair}
use Rattle.resync.specs.Batch.{is_settled, CanBeSent}
use Rattle.resync.specs.Cursor.{is_behind, pairs_behind, place_after}
use Rattle.resync.proofs.Slotted.{all-slots}

-- entries in strict order: each is after the one before it, and the first is not below this place
abbrev pub IsStrict : ℕ → List Entry → Type 0
IsStrict low [] = Unit {0}
IsStrict low (x ∷ xs) = (low ≤ place_of x.pair) × IsStrict (suc (place_of x.pair)) xs

abbrev pub IsSmall : Entry → Type 0
IsSmall e = e.pair.key.port.0 < 65536

-- two keys at one place are equal
same-place : (a b : Key) → a.port.0 < 65536 → b.port.0 < 65536 → key_place a ≡ key_place b → same_key b a ≡ true
unfolding same_key
same-place a b small other same = at a.protocol b.protocol same
  where
    at : (p q : Protocol) → 65536 * protocol_number p + a.port.0 ≡ 65536 * protocol_number q + b.port.0 → (same_protocol q p && (b.port.0 == a.port.0)) ≡ true
    at Icmp Icmp h = eq-eqb b.port.0 a.port.0 (omega arith)
    at Icmp Tcp h = absurd (omega arith)
    at Icmp Udp h = absurd (omega arith)
    at Tcp Icmp h = absurd (omega arith)
    at Tcp Tcp h = eq-eqb b.port.0 a.port.0 (omega arith)
    at Tcp Udp h = absurd (omega arith)
    at Udp Icmp h = absurd (omega arith)
    at Udp Tcp h = absurd (omega arith)
    at Udp Udp h = eq-eqb b.port.0 a.port.0 (omega arith)

pub strict : (low : ℕ) (es : List Entry) → Rises low es → HasDistinctKeys es → AllByRecursion IsSmall es → IsStrict low es
strict low [] rises keys small = tt
strict low (x ∷ []) rises keys small = (rises.0, tt)
strict low (x ∷ y ∷ ys) rises keys small =
    let rest : IsStrict (place_of x.pair) (y ∷ ys) = strict (place_of x.pair) (y ∷ ys) rises.1 keys.1 small.1 in
    let apart : (place_of x.pair ≡ place_of y.pair → ⊥) = differ in
    let from : place_of x.pair ≤ place_of y.pair = rest.0 in
    (rises.0, (omega (arith, apart), rest.1))
  where
    differ : place_of x.pair ≡ place_of y.pair → ⊥
    differ same =
        both_ways (has_key x.pair.key y) (find-none (has_key x.pair.key) y ys keys.0).0 (same-place x.pair.key y.pair.key small.0 small.1.0 same)

pub table-strict : (t : Table) → IsTable t → CanBeSent t → IsStrict 0 t.entries
table-strict t is sent = strict 0 t.entries is.order is.keys (all-slots IsSmall t.entries is.keys (λ k x h. small k x h))
  where
    small : (k : Key) (x : Entry) → slot_of t.entries k ≡ Some x → x.pair.key.port.0 < 65536
    small k x h = let p : IsWellFormedPair x.pair = sent.pairs k x h in p.key.1

pub found-sent : (t : Table) (last : Option Key) (e : Entry) → IsTable t → CanBeSent t → after_key last t.entries ≡ Some e → IsWellFormedPair e.pair
found-sent t last e is sent h = sent.pairs e.pair.key e (found-slot (stands_behind last) t.entries e is.keys h)

-- ---- what is after a key

same-test : (last : Option Key) (x : Entry) → stands_behind last x ≡ is_behind last x.pair
same-test None x = refl
same-test (Some k) x = refl

-- the pairs after a key, of a list that begins with a settled entry after it, one that isn't after it, or one that isn't settled
kept : (last : Option Key) (x : Entry) (xs : List Entry) → is_behind last x.pair ≡ true → pairs_behind last (x ∷ xs) ≡ cond (is_settled x.state) (x.pair ∷ pairs_behind last xs) (pairs_behind last xs)
kept last x xs behind = at (is_settled x.state)
  where
    at : (b : Bool) → filter (is_behind last) (map (λ (e : Entry). e.pair) (cond b (x ∷ filter (λ (e : Entry). is_settled e.state) xs) (filter (λ (e : Entry). is_settled e.state) xs))) ≡ cond b (x.pair ∷ pairs_behind last xs) (pairs_behind last xs)
    at true = cond-true (is_behind last x.pair) (x.pair ∷ pairs_behind last xs) (pairs_behind last xs) behind
    at false = refl

left : (last : Option Key) (x : Entry) (xs : List Entry) → is_behind last x.pair ≡ false → pairs_behind last (x ∷ xs) ≡ pairs_behind last xs
left last x xs before = at (is_settled x.state)
  where
    at : (b : Bool) → filter (is_behind last) (map (λ (e : Entry). e.pair) (cond b (x ∷ filter (λ (e : Entry). is_settled e.state) xs) (filter (λ (e : Entry). is_settled e.state) xs))) ≡ pairs_behind last xs
    at true = cond-false (is_behind last x.pair) (x.pair ∷ pairs_behind last xs) (pairs_behind last xs) before
    at false = refl

-- where each entry is after the key, none is left out
all-behind : (last : Option Key) (low : ℕ) (es : List Entry) → IsStrict low es → ((p : Pair) → low ≤ place_of p → is_behind last p ≡ true) → pairs_behind last es ≡ pairs_in is_settled es
all-behind last low [] s h = refl
all-behind last low (x ∷ xs) s h =
    kept last x xs (h x.pair s.0)
    ∙ at (is_settled x.state) (all-behind last (suc (place_of x.pair)) xs s.1 (λ p above. h p (let from : low ≤ place_of x.pair = s.0 in omega arith)))
  where
    at : (b : Bool) → pairs_behind last xs ≡ pairs_in is_settled xs → cond b (x.pair ∷ pairs_behind last xs) (pairs_behind last xs) ≡ map (λ (e : Entry). e.pair) (cond b (x ∷ filter (λ (e : Entry). is_settled e.state) xs) (filter (λ (e : Entry). is_settled e.state) xs))
    at true ih = ap (λ ps. x.pair ∷ ps) ih
    at false ih = ih

above-is : (last : Option Key) (x : Entry) → is_behind last x.pair ≡ true → (p : Pair) → suc (place_of x.pair) ≤ place_of p → is_behind last p ≡ true
above-is None x h p above = refl
above-is (Some k) x h p above = let past : key_place k < place_of x.pair = ltb-true (key_place k) (place_of x.pair) h in lt-ltb (key_place k) (place_of p) (omega arith)

found-above : (last : Option Key) (low : ℕ) (es : List Entry) (e : Entry) → IsStrict low es → after_key last es ≡ Some e → low ≤ place_of e.pair
found-above last low [] e s h = cc
found-above last low (x ∷ xs) e s h =
    elim (find-some (stands_behind last x) x (after_key last xs) e h) [
      | inl w ↦ subst (λ (y : Entry). low ≤ place_of y.pair) w.1 s.0
      | inr w ↦ (let up : suc (place_of x.pair) ≤ place_of e.pair = found-above last (suc (place_of x.pair)) xs e s.1 w.1 in let from : low ≤ place_of x.pair = s.0 in omega arith)
    ]

-- the pairs after a key are those of the next entry and those after that entry
pub pairs-next : (last : Option Key) (low : ℕ) (es : List Entry) (e : Entry) → IsStrict low es → after_key last es ≡ Some e
    → pairs_behind last es ≡ cond (is_settled e.state) (e.pair ∷ pairs_behind (Some e.pair.key) es) (pairs_behind (Some e.pair.key) es)
pairs-next last low [] e s h = cc
pairs-next last low (x ∷ xs) e s h =
    elim (find-some (stands_behind last x) x (after_key last xs) e h) [
      | inl w ↦ subst (λ (y : Entry). pairs_behind last (x ∷ xs) ≡ cond (is_settled y.state) (y.pair ∷ pairs_behind (Some y.pair.key) (x ∷ xs)) (pairs_behind (Some y.pair.key) (x ∷ xs))) w.1 (first (sym (same-test last x) ∙ w.0))
      | inr w ↦
          (let up : suc (place_of x.pair) ≤ place_of e.pair = found-above last (suc (place_of x.pair)) xs e s.1 w.1 in
          left last x xs (sym (same-test last x) ∙ w.0)
          ∙ pairs-next last (suc (place_of x.pair)) xs e s.1 w.1
          ∙ ap (λ ps. cond (is_settled e.state) (e.pair ∷ ps) ps) (sym (left (Some e.pair.key) x xs (le-ltb (place_of e.pair) (place_of x.pair) (omega arith)))))
    ]
  where
    first : is_behind last x.pair ≡ true → pairs_behind last (x ∷ xs) ≡ cond (is_settled x.state) (x.pair ∷ pairs_behind (Some x.pair.key) (x ∷ xs)) (pairs_behind (Some x.pair.key) (x ∷ xs))
    first behind =
        let rest : pairs_behind last xs ≡ pairs_behind (Some x.pair.key) (x ∷ xs) =
        all-behind last (suc (place_of x.pair)) xs s.1 (above-is last x behind)
        ∙ sym (all-behind (Some x.pair.key) (suc (place_of x.pair)) xs s.1 (λ p above. lt-ltb (place_of x.pair) (place_of p) (omega arith)))
        ∙ sym (left (Some x.pair.key) x xs (le-ltb (place_of x.pair) (place_of x.pair) (omega arith))) in
        kept last x xs behind ∙ ap (λ ps. cond (is_settled x.state) (x.pair ∷ ps) ps) rest

pub pairs-none : (last : Option Key) (es : List Entry) → after_key last es ≡ None → pairs_behind last es ≡ []
pairs-none last [] h = refl
pairs-none last (x ∷ xs) h =
    let parts = find-none (stands_behind last) x xs h in
    left last x xs (sym (same-test last x) ∙ parts.0) ∙ pairs-none last xs parts.1

pub behind-none : (ps : List Pair) → filter (is_behind None) ps ≡ ps
behind-none [] = refl
behind-none (p ∷ ps) = ap (λ qs. p ∷ qs) (behind-none ps)

-- ---- a walk over the entries ends

pub place-on : (last : Option Key) (es : List Entry) (e : Entry) → after_key last es ≡ Some e → place_after last < place_of e.pair
place-on None es e h = at e.pair.key.protocol
  where
    at : (p : Protocol) → 0 < 65536 * protocol_number p + e.pair.key.port.0
    at Icmp = omega arith
    at Tcp = omega arith
    at Udp = omega arith
place-on (Some k) es e h = ltb-true (key_place k) (place_of e.pair) (find-passes (stands_behind (Some k)) es e h)

pub place-small : (k : Key) → k.port.0 < 65536 → key_place k < 2000000
place-small k small = at k.protocol
  where
    at : (p : Protocol) → 65536 * protocol_number p + k.port.0 < 2000000
    at Icmp = omega arith
    at Tcp = omega arith
    at Udp = omega arith
