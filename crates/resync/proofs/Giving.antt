-- Ports that are given up, one by one, and whether a run lies in the ranges.
use Rattle.std.proofs.Common.{◌≡◌, ℕ, suc, ◌+◌, ◌<◌, ◌==◌, nat_le, Bool, true, false, cond, not, ◌&&◌, ◌||◌, is_some, Option, Some, None, inl, inr, List, [], ◌∷◌, length, refl, sym, ap, ◌∙◌, arith}
use Rattle.std.proofs.lemmas.Bool.{cond-false, or_parts, and_from, and_left, eq-eqb, ne_eqb, lt-leb, le-leb, cases_lt, cases_eq}
use Rattle.std.proofs.lemmas.List.Elements.{filter_agree}
use Rattle.nat_types.specs.declared.pairs.EntryState.{EntryState}
use Rattle.nat_types.specs.declared.pairs.Endpoint.{Endpoint}
use Rattle.nat_types.specs.declared.pairs.Key.{Key}
use Rattle.nat_types.specs.declared.pairs.Pair.{Pair}
use Rattle.nat_types.specs.Same.{same_key}
use Rattle.nat_types.proofs.Offered.{key-eq}
use Rattle.bindings.specs.declared.entries.Entry.{Entry}
use Rattle.bindings.specs.declared.entries.TableFault.{TableFault}
use Rattle.bindings.specs.declared.entries.TableFault.TheVariants.{Full, PortTaken, EndpointTaken}
use Rattle.slots.specs.declared.ranks.Rank.{Rank}
use Rattle.bindings.specs.Entries.{slot_of, entry_of, set_at, entry_in, refusal_of, rank_of, is_taken}
use Rattle.bindings.specs.Table.{Table, IsTable, AreInRanges}
use Rattle.bindings.proofs.Offered.{has-room, none-ranked}
use Rattle.bindings.specs.declared.entries.PortBounds.{PortBounds}
use Rattle.bindings.specs.Ports.{in_either}
use Rattle.bindings.specs.Runs.{without_port}
use Rattle.port_range.specs.Ports.{is_listed, is_within}
use Rattle.resync.specs.Loading.{all_in, unnamed, none_yet}
use Rattle.resync.proofs.Naming.{filter-filter, within-one}

pub without-unlisted : (p : ℕ) (xs : List ℕ) → is_listed p xs ≡ false → without_port p xs ≡ xs
without-unlisted p [] h = refl
without-unlisted p (x ∷ xs) h =
    let parts = or_parts (x == p) (is_listed p xs) h in
    ap (λ b. cond (not b) (x ∷ without_port p xs) (without_port p xs)) parts.0 ∙ ap (λ zs. x ∷ zs) (without-unlisted p xs parts.1)

and-true : (b : Bool) → (b && true) ≡ b
and-true true = refl
and-true false = refl

in-step : (z o : PortBounds) (p n m : ℕ) → n ≡ suc m → all_in z o p n ≡ (in_either z o p && all_in z o (p + 1) m)
in-step z o p n m is = ap (all_in z o p) is

pub all-in-on : (z o : PortBounds) (p n m : ℕ) → n ≡ suc m → in_either z o p ≡ true → all_in z o p n ≡ all_in z o (p + 1) m
all-in-on z o p n m is inside = in-step z o p n m is ∙ ap (λ b. b && all_in z o (p + 1) m) inside

pub all-in-not : (z o : PortBounds) (p n m : ℕ) → n ≡ suc m → in_either z o p ≡ false → all_in z o p n ≡ false
all-in-not z o p n m is outside = in-step z o p n m is ∙ and_left (in_either z o p) (all_in z o (p + 1) m) outside

pub all-in-last : (z o : PortBounds) (p n : ℕ) → n ≡ 1 → all_in z o p n ≡ in_either z o p
all-in-last z o p n is = in-step z o p n 0 (let e : n ≡ suc 0 = omega arith in e) ∙ and-true (in_either z o p)

-- a run without its first port
within-less : (p last q : ℕ) → p < last → is_within p last q ≡ ((p == q) || is_within (p + 1) last q)
within-less p last q lt =
    elim (cases_lt q p) [
      | inl below ↦
          (ap (λ b. b && nat_le q last) (lt-leb p q below)
          ∙ sym (ap (λ b. b || is_within (p + 1) last q) (ne_eqb p q (λ e. absurd (omega arith))) ∙ ap (λ b. b && nat_le q last) (lt-leb (p + 1) q (omega arith))))
      | inr from ↦ elim (cases_eq p q) [
        | inl same ↦
            (and_from (nat_le p q) (nat_le q last) (le-leb p q from) (le-leb q last (omega arith))
            ∙ sym (ap (λ b. b || is_within (p + 1) last q) (eq-eqb p q same)))
        | inr other ↦
            (ap (λ b. b && nat_le q last) (le-leb p q from)
            ∙ sym (ap (λ b. b || is_within (p + 1) last q) (ne_eqb p q other) ∙ ap (λ b. b && nat_le q last) (le-leb (p + 1) q (omega (arith, other)))))
      ]
    ]

turned : (a b : ℕ) → (a == b) ≡ (b == a)
turned a b =
    elim (cases_eq a b) [
      | inl same ↦ eq-eqb a b same ∙ sym (eq-eqb b a (sym same))
      | inr other ↦ ne_eqb a b other ∙ sym (ne_eqb b a (λ e. other (sym e)))
    ]

not-or : (a b : Bool) → (not a && not b) ≡ not (a || b)
not-or true b = refl
not-or false b = refl

-- removing a port and then the rest of the run removes the run
pub unnamed-on : (p last : ℕ) (xs : List ℕ) → p < last → unnamed (p + 1) last (without_port p xs) ≡ unnamed p last xs
unnamed-on p last xs lt =
    filter-filter (λ q. not (is_within (p + 1) last q)) (λ q. not (q == p)) xs
    ∙ filter_agree (λ q. not (q == p) && not (is_within (p + 1) last q)) (λ q. not (is_within p last q))
    (λ q. not-or (q == p) (is_within (p + 1) last q) ∙ ap (λ b. not (b || is_within (p + 1) last q)) (turned q p) ∙ ap not (sym (within-less p last q lt))) xs

pub unnamed-last : (p : ℕ) (xs : List ℕ) → unnamed p p xs ≡ without_port p xs
unnamed-last p xs = filter_agree (λ q. not (is_within p p q)) (λ q. not (q == p)) (λ q. ap not (within-one p q ∙ turned p q)) xs

-- ---- nothing is loaded yet

pub none-counted : (es : List Entry) → (length es == 0) ≡ none_yet es
none-counted [] = refl
none-counted (e ∷ es) = ne_eqb (suc (length es)) 0 (λ h. absurd (omega arith))

pub nothing : (es : List Entry) → none_yet es ≡ true → es ≡ []
nothing [] h = refl
nothing (e ∷ es) h = cc

-- ---- the table once a run was given up

pub run-given : (t u : Table) (first last port : ℕ) → port ≡ last → u ≡ record t { owned = u.owned } → unnamed port last u.owned ≡ unnamed first last t.owned → record u { owned = without_port last u.owned } ≡ record t { owned = unnamed first last t.owned }
run-given t u first last port here same left =
    ap (λ (v : Table). let w : Table = record v { owned = without_port last u.owned } in w) same
    ∙ ap (λ (owned : List ℕ). let w : Table = record t { owned = owned } in w) (sym (unnamed-last last u.owned) ∙ ap (λ (n : ℕ). unnamed n last u.owned) (sym here) ∙ left)

pub run-more : (t u v : Table) (owned : List ℕ) → u ≡ record t { owned = u.owned } → v ≡ record u { owned = owned } → v ≡ record t { owned = v.owned }
run-more t u v owned same h =
    h ∙ ap (λ (x : Table). let w : Table = record x { owned = owned } in w) same
    ∙ ap (λ (ports : List ℕ). let w : Table = record t { owned = ports } in w) (sym (ap (λ (x : Table). x.owned) h))

-- ---- a pair in its place

clash : {X : Type 0} (o : Option X) (x : X) → o ≡ None → o ≡ Some x → ⊥
clash o x a b = cc

pub never-refused : (t : Table) (p : Pair) (s : EntryState) (fault : TableFault) → IsTable t → AreInRanges t → in_either t.zero t.one p.key.port.0 ≡ true → slot_of t.entries p.key ≡ None → is_taken (rank_of s) t.entries p.endpoint ≡ false
    → refusal_of t.capacity t.entries (entry_in s p) ≡ Some fault → ⊥
never-refused t p s fault is within inside key free refused =
    clash (refusal_of t.capacity t.entries (entry_in s p)) fault
    (cond-false (nat_le t.capacity (length t.entries)) (Some Full) _ (lt-leb t.capacity (length t.entries) (has-room t is within p.key inside key))
    ∙ cond-false (is_some (slot_of t.entries p.key)) (Some PortTaken) _ (ap is_some key)
    ∙ cond-false (is_taken (rank_of s) t.entries p.endpoint) (Some EndpointTaken) None free) refused

-- an endpoint without a pair has none in either state
pub free-both : (es : List Entry) (s : EntryState) (x : Endpoint) → entry_of es x ≡ None → is_taken (rank_of s) es x ≡ false
free-both es s x none = at (rank_of s)
  where
    at : (o : Option Rank) → is_taken o es x ≡ false
    at None = refl
    at (Some rank) = ap is_some (none-ranked es x none rank)

pub within-put : (t u : Table) (e : Entry) → AreInRanges t → in_either t.zero t.one e.pair.key.port.0 ≡ true → ((q : Key) → slot_of u.entries q ≡ set_at (slot_of t.entries) e.pair.key (Some e) q) → u.zero ≡ t.zero → u.one ≡ t.one → AreInRanges u
within-put t u e within inside slots zero_same one_same q x h =
    ap (λ (z : PortBounds). in_either z u.one q.port.0) zero_same ∙ ap (λ (o : PortBounds). in_either t.zero o q.port.0) one_same
    ∙ at (same_key e.pair.key q) refl (sym (slots q) ∙ h)
  where
    at : (b : Bool) → same_key e.pair.key q ≡ b → cond b (Some e) (slot_of t.entries q) ≡ Some x → in_either t.zero t.one q.port.0 ≡ true
    at true same found = ap (λ (k : Key). in_either t.zero t.one k.port.0) (sym (key-eq e.pair.key q same)) ∙ inside
    at false same found = within q x found
