-- Lists of ports: falling ones, those that are granted, and those that become owned.
use Rattle.std.proofs.Common.{◌≡◌, ℕ, zero, suc, ◌+◌, ◌-◌, ◌<◌, ◌≤◌, ◌==◌, Bool, true, false, cond, not, ◌&&◌, ◌||◌, is_none, Option, Some, None, inl, inr, List, [], ◌∷◌, map, take, refl, sym, ap, ◌∙◌, arith, IsTrue}
use Rattle.std.specs.List.{filter}
use Rattle.std.proofs.lemmas.Bool.{and_parts, both_ways, cases_Bool, eq-eqb, eqb-true, false_from_ne_true, leb-true, ne_eqb, not-true, or_cases}
use Rattle.nat_types.specs.declared.pairs.EntryState.{EntryState}
use Rattle.nat_types.specs.declared.pairs.EntryState.TheVariants as state
use Rattle.nat_types.specs.declared.pairs.Endpoint.{Endpoint}
use Rattle.nat_types.specs.declared.pairs.Key.{Key}
use Rattle.addresses.specs.declared.transport.Port.{Port}
use Rattle.addresses.specs.declared.transport.Protocol.{Protocol}
use Rattle.addresses.specs.declared.transport.Protocol.TheVariants.{Icmp, Tcp, Udp}
use Rattle.bindings.specs.declared.entries.Entry.{Entry}
use Rattle.bindings.specs.declared.entries.PortBounds.{PortBounds}
use Rattle.bindings.specs.Entries.{slot_of}
use Rattle.bindings.specs.Ports.{AreBounds, in_bounds, in_either, is_free_in, is_vacant, key_of}
use Rattle.bindings.specs.Runs.{own_in}
use Rattle.bindings.proofs.Offered.{none_from_is_none, listed-filter, listed-own_in, rise-own_in}
use Rattle.port_range.specs.Ports.{is_listed, AreRising}
use Rattle.spec_pair.specs.Box.{IsVacant}
use Rattle.spec_pair.specs.Mapped.{slot_in}
use Rattle.spec_pair.specs.Ownership.{AreDistinct, has}
use Rattle.spec_pair.specs.RecordTable.{is_free}
use Rattle.spec_pair.specs.Talk as machine
use Rattle.spec_binding.specs.Books.{Book, in_ranges, owns}
use Rattle.spec_binding.specs.Machine.{machine_slot, slots_of}
use Rattle.spec_binding.specs.Rows.{falling, is_gained, is_theirs, with_gained}

-- both definitions of a number in a list agree
pub has-listed : (p : ℕ) (xs : List ℕ) → has p xs ≡ is_listed p xs
has-listed p [] = refl
has-listed p (x ∷ xs) = at (p == x) (x == p) (turned p x) (has-listed p xs)
  where
    turned : (a b : ℕ) → (a == b) ≡ (b == a)
    turned a b = elim (cases_Bool (a == b)) [
      | inl same ↦ same ∙ sym (eq-eqb b a (sym (eqb-true a b same)))
      | inr other ↦ other ∙ sym (ne_eqb b a (λ e. both_ways (a == b) other (eq-eqb a b (sym e))))
    ]

    at : (b c : Bool) → b ≡ c → has p xs ≡ is_listed p xs → cond b true (has p xs) ≡ (c || is_listed p xs)
    at true true same ih = refl
    at true false same ih = cc
    at false true same ih = cc
    at false false same ih = ih

pub has-filter : (f : ℕ → Bool) (p : ℕ) (xs : List ℕ) → has p (filter f xs) ≡ (f p && has p xs)
has-filter f p xs = has-listed p (filter f xs) ∙ listed-filter f xs p ∙ ap (λ b. f p && b) (sym (has-listed p xs))

pub has-take : (p k : ℕ) (xs : List ℕ) → has p (take k xs) ≡ true → has p xs ≡ true
has-take p zero xs h = absurd (both_ways false refl h)
has-take p (suc k) [] h = h
has-take p (suc k) (x ∷ xs) h = at (p == x) (has-take p k xs) h
  where
    at : (b : Bool) → (has p (take k xs) ≡ true → has p xs ≡ true) → cond b true (has p (take k xs)) ≡ true → cond b true (has p xs) ≡ true
    at true ih h = refl
    at false ih h = ih h

none-and : (b c : Bool) → c ≡ false → (b && c) ≡ false
none-and true c h = h
none-and false c h = refl

pub distinct-filter : (f : ℕ → Bool) (xs : List ℕ) → AreDistinct xs → AreDistinct (filter f xs)
distinct-filter f [] apart = tt
distinct-filter f (x ∷ xs) apart = at (f x) (distinct-filter f xs apart.1)
  where
    at : (b : Bool) → AreDistinct (filter f xs) → AreDistinct (cond b (x ∷ filter f xs) (filter f xs))
    at true ih = (has-filter f x xs ∙ none-and (f x) (has x xs) apart.0, ih)
    at false ih = ih

pub distinct-take : (k : ℕ) (xs : List ℕ) → AreDistinct xs → AreDistinct (take k xs)
distinct-take zero xs apart = tt
distinct-take (suc k) [] apart = tt
distinct-take (suc k) (x ∷ xs) apart = (false_from_ne_true (has x (take k xs)) (λ h. both_ways (has x xs) apart.0 (has-take x k xs h)), distinct-take k xs apart.1)

-- a falling list

falling-below : (h k q : ℕ) → h < q → has q (falling h k) ≡ false
falling-below h zero q less = refl
falling-below h (suc k) q less = ap (λ (b : Bool). cond b true (has q (falling (h - 1) k))) (ne_eqb q h (λ e. omega (arith, e, less))) ∙ falling-below (h - 1) k q (omega (arith, less))

pub distinct-falling : (h k : ℕ) → k ≤ h + 1 → AreDistinct (falling h k)
distinct-falling h zero le = tt
distinct-falling h (suc k) le = (first h k le, distinct-falling (h - 1) k (omega (arith, le)))
  where
    first : (h k : ℕ) → suc k ≤ h + 1 → has h (falling (h - 1) k) ≡ false
    first h zero le = refl
    first h (suc k) le = falling-below (h - 1) (suc k) h (omega (arith, le))

-- ports made of numbers have these numbers
pub numbers-back : (ps : List ℕ) → map (λ (p : Port). p.0) (map (λ p. (let q : Port = record { 0 = p } in q)) ps) ≡ ps
numbers-back [] = refl
numbers-back (p ∷ ps) = ap (λ z. p ∷ z) (numbers-back ps)

-- ---- vacant ports

pub slot-free : (s : EntryState) (e : Endpoint) → slot_in s e ≡ machine.Free → ⊥
slot-free (state.Pending m) e h = cc
slot-free state.Doomed e h = cc
slot-free state.Live e h = cc
slot-free (state.Closing m) e h = cc
slot-free state.Alone e h = cc
slot-free state.Held e h = cc

pub none-at : (es : List Entry) (k : Key) → slots_of es k ≡ machine.Free → is_none (slot_of es k) ≡ true
none-at es k h = at (slot_of es k) h
  where
    at : (o : Option Entry) → machine_slot o ≡ machine.Free → is_none o ≡ true
    at None h = refl
    at (Some x) h = absurd (slot-free x.state x.pair.endpoint h)

free-slot : (s : EntryState) (e : Endpoint) → is_free (slot_in s e) ≡ false
free-slot (state.Pending m) e = refl
free-slot state.Doomed e = refl
free-slot state.Live e = refl
free-slot (state.Closing m) e = refl
free-slot state.Alone e = refl
free-slot state.Held e = refl

pub free-none : (o : Option Entry) → is_free (machine_slot o) ≡ is_none o
free-none None = refl
free-none (Some x) = free-slot x.state x.pair.endpoint

pub vacant-is : (es : List Entry) (p : ℕ) → is_vacant es p ≡ true → IsVacant (slots_of es) p
vacant-is es p h k e =
    let first = and_parts (is_free_in es Icmp p) (is_free_in es Tcp p && is_free_in es Udp p) h in
    let rest = and_parts (is_free_in es Tcp p) (is_free_in es Udp p) first.1 in
    let there : slot_of es k ≡ slot_of es (key_of k.protocol p) = ap (slot_of es) (ap (λ (z : ℕ). key_of k.protocol z) e) in
    ap machine_slot (there ∙ at k.protocol first.0 rest.0 rest.1)
  where
    at : (q : Protocol) → is_free_in es Icmp p ≡ true → is_free_in es Tcp p ≡ true → is_free_in es Udp p ≡ true → slot_of es (key_of q p) ≡ None
    at Icmp a b c = none_from_is_none (slot_of es (key_of Icmp p)) a
    at Tcp a b c = none_from_is_none (slot_of es (key_of Tcp p)) b
    at Udp a b c = none_from_is_none (slot_of es (key_of Udp p)) c

-- ---- what becomes owned

-- whether a port could become owned: it is in the ranges and has no entry
abbrev pub fit : Book → ℕ → Bool
fit b p = in_ranges b p && is_vacant b.entries p

-- a granted port that could become owned is owned afterwards
now-got : (o g f : Bool) → f ≡ true → (true || (g && f)) ≡ (o || f)
now-got true g f h = refl
now-got false g f h = sym h

not-got : (o g i v : Bool) → ((i && not o) && v) ≡ false → (o || (g && (i && v))) ≡ (o || (i && v))
not-got true g i v h = refl
not-got false true i v h = refl
not-got false false true v h = sym h
not-got false false false v h = refl

got-fit : (o i v : Bool) → ((i && not o) && v) ≡ true → (i && v) ≡ true
got-fit true true v h = absurd (both_ways false refl h)
got-fit true false v h = absurd (both_ways false refl h)
got-fit false true v h = h
got-fit false false v h = absurd (both_ways false refl h)

-- gaining ports changes only the owned ports
pub gained-is : (b : Book) (ps : List ℕ) → with_gained b ps ≡ record b { owned = (with_gained b ps).owned }
gained-is b [] = refl
gained-is b (p ∷ ps) = at (is_gained b p) (gained-is (record b { owned = own_in p b.owned }) ps) (gained-is b ps)
  where
    b2 : Book
    b2 = record b { owned = own_in p b.owned }

    at : (t : Bool) → with_gained b2 ps ≡ record b { owned = (with_gained b2 ps).owned } → with_gained b ps ≡ record b { owned = (with_gained b ps).owned }
        → with_gained (cond t b2 b) ps ≡ record b { owned = (with_gained (cond t b2 b) ps).owned }
    at true one two = one
    at false one two = two

pub owns-gained : (p : ℕ) (b : Book) (gs : List ℕ) → owns (with_gained b gs) p ≡ (owns b p || (is_listed p gs && fit b p))
owns-gained p b [] = or-none (owns b p)
  where
    or-none : (b : Bool) → b ≡ (b || false)
    or-none true = refl
    or-none false = refl
owns-gained p b (g ∷ gs) = at (is_gained b g) refl (p == g) refl (owns-gained p (record b { owned = own_in g b.owned }) gs) (owns-gained p b gs)
  where
    b2 : Book
    b2 = record b { owned = own_in g b.owned }

    turned : (t : Bool) → (p == g) ≡ t → (g == p) ≡ t
    turned true h = eq-eqb g p (sym (eqb-true p g h))
    turned false h = ne_eqb g p (λ e. both_ways (p == g) h (eq-eqb p g (sym e)))

    at : (t : Bool) → is_gained b g ≡ t → (u : Bool) → (p == g) ≡ u
        → owns (with_gained b2 gs) p ≡ (owns b2 p || (is_listed p gs && fit b p))
        → owns (with_gained b gs) p ≡ (owns b p || (is_listed p gs && fit b p))
        → owns (with_gained (cond t b2 b) gs) p ≡ (owns b p || (((g == p) || is_listed p gs) && fit b p))
    at true got true same one two =
        let e : p ≡ g = eqb-true p g same in
        let fits : fit b p ≡ true = ap (fit b) e ∙ got-fit (owns b g) (in_ranges b g) (is_vacant b.entries g) got in
        one ∙ ap (λ (x : Bool). x || (is_listed p gs && fit b p)) (listed-own_in g b.owned p ∙ ap (λ (x : Bool). cond x true (owns b p)) same)
        ∙ now-got (owns b p) (is_listed p gs) (fit b p) fits ∙ ap (λ (x : Bool). owns b p || ((x || is_listed p gs) && fit b p)) (sym (turned true same))
    at true got false other one two =
        one ∙ ap (λ (x : Bool). x || (is_listed p gs && fit b p)) (listed-own_in g b.owned p ∙ ap (λ (x : Bool). cond x true (owns b p)) other)
        ∙ ap (λ (x : Bool). owns b p || ((x || is_listed p gs) && fit b p)) (sym (turned false other))
    at false out true same one two =
        let e : p ≡ g = eqb-true p g same in
        let no : is_gained b p ≡ false = ap (is_gained b) e ∙ out in
        two ∙ not-got (owns b p) (is_listed p gs) (in_ranges b p) (is_vacant b.entries p) no ∙ ap (λ (x : Bool). owns b p || ((x || is_listed p gs) && fit b p)) (sym (turned true same))
    at false out false other one two = two ∙ ap (λ (x : Bool). owns b p || ((x || is_listed p gs) && fit b p)) (sym (turned false other))

as-box : (o g i v : Bool) → (o || (g && (i && v))) ≡ cond (((i && not o) && v) && g) true o
as-box true true true v = refl
as-box true true false v = refl
as-box true false true v = refl
as-box true false false v = refl
as-box false true true true = refl
as-box false true true false = refl
as-box false true false v = refl
as-box false false true true = refl
as-box false false true false = refl
as-box false false false v = refl

-- a port is owned after a Grant where it was owned, or was granted and could become owned
pub gained-box : (p : ℕ) (b : Book) (gs : List ℕ) → owns (with_gained b gs) p ≡ cond (is_gained b p && is_listed p gs) true (owns b p)
gained-box p b gs = owns-gained p b gs ∙ as-box (owns b p) (is_listed p gs) (in_ranges b p) (is_vacant b.entries p)

-- ---- ports of ranges

bounds-low : (r : PortBounds) (p : ℕ) → AreBounds r → in_bounds r p ≡ true → 0 < p
bounds-low r p are h =
    let low = are.low in
    let from : r.lowest.0 ≤ p = leb-true r.lowest.0 p (and_parts _ _ h).0 in omega (arith, low, from)

pub above-none : (z o : PortBounds) (p : ℕ) → AreBounds z → AreBounds o → in_either z o p ≡ true → 0 < p
above-none z o p az ao h = elim (or_cases (in_bounds z p) (in_bounds o p) h) [ inl a ↦ bounds-low z p az a | inr b ↦ bounds-low o p ao b ]

bounds-high : (r : PortBounds) (p : ℕ) → in_bounds r p ≡ true → p ≤ r.highest.0
bounds-high r p h = leb-true p r.highest.0 (and_parts _ _ h).1

pub below-highest : (z o : PortBounds) (p n : ℕ) → z.highest.0 < n → o.highest.0 < n → in_either z o p ≡ true → p < n
below-highest z o p n hz ho h = elim (or_cases (in_bounds z p) (in_bounds o p) h) [
  | inl a ↦ (let le = bounds-high z p a in omega (arith, le, hz))
  | inr b ↦ (let le = bounds-high o p b in omega (arith, le, ho))
]

-- the owned ports with a gained one are still in rising order
pub rise-gained : (b : Book) (gs : List ℕ) → AreBounds b.zero → AreBounds b.one → AreRising b.owned → AreRising (with_gained b gs).owned
rise-gained b [] az ao rises = rises
rise-gained b (g ∷ gs) az ao rises = at (is_gained b g) refl (λ more. rise-gained (record b { owned = own_in g b.owned }) gs az ao more) (rise-gained b gs az ao rises)
  where
    b2 : Book
    b2 = record b { owned = own_in g b.owned }

    at : (t : Bool) → is_gained b g ≡ t → (AreRising b2.owned → AreRising (with_gained b2 gs).owned) → AreRising (with_gained b gs).owned → AreRising (with_gained (cond t b2 b) gs).owned
    at true got one two =
        let theirs = and_parts (is_theirs b g) (is_vacant b.entries g) got in
        let parts = and_parts (in_ranges b g) (not (owns b g)) theirs.0 in
        one (rise-own_in 0 g b.owned (above-none b.zero b.one g az ao parts.0) rises (not-true (owns b g) parts.1))
    at false out one two = two

pub gained-within : (b : Book) (gs : List ℕ) → ((p : ℕ) → owns b p ≡ true → IsTrue (in_ranges b p)) → (p : ℕ) → owns (with_gained b gs) p ≡ true → IsTrue (in_ranges b p)
gained-within b gs within p h = elim (or_cases (owns b p) (is_listed p gs && fit b p) (sym (owns-gained p b gs) ∙ h)) [
  | inl old ↦ within p old
  | inr new ↦ (and_parts (in_ranges b p) (is_vacant b.entries p) (and_parts (is_listed p gs) (fit b p) new).1).0
]
