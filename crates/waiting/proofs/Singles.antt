-- The packet that waits for one thing, where no two wait for the same.
use Rattle.std.proofs.Common.{◌≡◌, ℕ, zero, suc, ◌+◌, ◌<◌, ◌≤◌, Bool, true, false, cond, not, nat_lt, Option, Some, None, List, [], ◌∷◌, ◌++◌, length, get_or, set, map, take, drop, refl, ap, subst, ◌∙◌, ◌⊎◌, inl, inr, nat_eq, arith}
use Rattle.std.specs.List.{filter, position, position_or_len}
use Rattle.std.proofs.lemmas.Bool.{and_parts, and_from, eqb-true, eq-eqb, both_ways, cases_order, ltb-false}
use Rattle.std.proofs.lemmas.List.Quantifiers.{position-Some}
use Rattle.nat_types.specs.declared.gateways.Side.{Side}
use Rattle.nat_types.specs.declared.gateways.Side.TheVariants.{Inside, Outside}
use Rattle.nat_types.proofs.Offered.{endpoint-eq, endpoint-self}
use Rattle.waiting.specs.declared.waits.WaitsFor.{WaitsFor}
use Rattle.waiting.specs.declared.waits.WaitsFor.TheVariants.{Pair, Hop}
use Rattle.waiting.specs.Packets.{AreApart, HeldPacket}
use Rattle.waiting.specs.Waits.{same_side, same_wait}

side-eq : (s t : Side) → same_side s t ≡ true → s ≡ t
side-eq Inside Inside e = refl
side-eq Inside Outside e = cc
side-eq Outside Inside e = cc
side-eq Outside Outside e = refl

side-self : (s : Side) → same_side s s ≡ true
side-self Inside = refl
side-self Outside = refl

wait-eq : (v w : WaitsFor) → same_wait v w ≡ true → v ≡ w
wait-eq (Pair a) (Pair b) e = ap (λ x. let w : WaitsFor = Pair x in w) (endpoint-eq a b e)
wait-eq (Pair a) (Hop t b) e = cc
wait-eq (Hop s a) (Pair b) e = cc
wait-eq (Hop s a) (Hop t b) e =
    let parts = and_parts (same_side s t) (nat_eq a.0 b.0) e in
    let one : s ≡ t = side-eq s t parts.0 in
    let two : a.0 ≡ b.0 = eqb-true a.0 b.0 parts.1 in
    ap (λ (x : Side). let w : WaitsFor = Hop x a in w) one ∙ ap (λ (n : ℕ). let w : WaitsFor = Hop t (record { 0 = n }) in w) two

wait-self : (w : WaitsFor) → same_wait w w ≡ true
wait-self (Pair a) = endpoint-self a
wait-self (Hop s a) = and_from (same_side s s) (nat_eq a.0 a.0) (side-self s) (eq-eqb a.0 a.0 refl)

-- two waits that are the same as a third are the same
waits-same : (w a b : WaitsFor) → same_wait w a ≡ true → same_wait w b ≡ true → same_wait a b ≡ true
waits-same w a b one two = rw (← wait-eq w a one, ← wait-eq w b two) (wait-self w)

-- ---- a list in which one element at most passes a test

filter-yes : (p : HeldPacket → Bool) (w : HeldPacket) (ws : List HeldPacket) → p w ≡ true → filter p (w ∷ ws) ≡ w ∷ filter p ws
filter-yes p w ws is = rw is refl

filter-no : (p : HeldPacket → Bool) (w : HeldPacket) (ws : List HeldPacket) → p w ≡ false → filter p (w ∷ ws) ≡ filter p ws
filter-no p w ws isnt = rw isnt refl

pub record NonePass (p : HeldPacket → Bool) (ws : List HeldPacket) : Type 0 where
  pub off : filter p ws ≡ []
  pub left : filter (λ w. not (p w)) ws ≡ ws
  pub mapped : (f : HeldPacket → HeldPacket) → map (λ w. cond (p w) (f w) w) ws ≡ ws

map-yes : (p : HeldPacket → Bool) (f : HeldPacket → HeldPacket) (w : HeldPacket) (ws : List HeldPacket) → p w ≡ true → map (λ v. cond (p v) (f v) v) (w ∷ ws) ≡ f w ∷ map (λ v. cond (p v) (f v) v) ws
map-yes p f w ws is = ap (λ (b : Bool). cond b (f w) w ∷ map (λ v. cond (p v) (f v) v) ws) is

map-no : (p : HeldPacket → Bool) (f : HeldPacket → HeldPacket) (w : HeldPacket) (ws : List HeldPacket) → p w ≡ false → map (λ v. cond (p v) (f v) v) (w ∷ ws) ≡ w ∷ map (λ v. cond (p v) (f v) v) ws
map-no p f w ws isnt = ap (λ (b : Bool). cond b (f w) w ∷ map (λ v. cond (p v) (f v) v) ws) isnt

none-pass : (p : HeldPacket → Bool) (ws : List HeldPacket) → ((k : ℕ) (d : HeldPacket) → k < length ws → p (get_or ws k d) ≡ false) → NonePass p ws
none-pass p [] none = record { off = refl; left = refl; mapped = λ f. refl }
none-pass p (w ∷ ws) none =
    let no : p w ≡ false = none 0 w (omega arith) in
    let yes : not (p w) ≡ true = ap not no in
    let rest = none-pass p ws (λ k d below. none (suc k) d (omega arith)) in
    record {
      off = filter-no p w ws no ∙ rest.off;
      left = filter-yes (λ v. not (p v)) w ws yes ∙ ap (λ vs. w ∷ vs) rest.left;
      mapped = λ f. map-no p f w ws no ∙ ap (λ (vs : List HeldPacket). w ∷ vs) (rest.mapped f);
    }

pub record OnePasses (p : HeldPacket → Bool) (ws : List HeldPacket) (i : ℕ) (d : HeldPacket) : Type 0 where
  pub off : filter p ws ≡ get_or ws i d ∷ []
  pub left : filter (λ w. not (p w)) ws ≡ take i ws ++ drop (suc i) ws
  pub mapped : (f : HeldPacket → HeldPacket) → map (λ w. cond (p w) (f w) w) ws ≡ set ws i (f (get_or ws i d))

one-passes : (p : HeldPacket → Bool) (ws : List HeldPacket) (i : ℕ) (d : HeldPacket) → i < length ws → p (get_or ws i d) ≡ true
    → ((k : ℕ) (e : HeldPacket) → k < length ws → (k ≡ i → ⊥) → p (get_or ws k e) ≡ false) → OnePasses p ws i d
one-passes p [] i d below is others = absurd (omega arith)
one-passes p (w ∷ ws) zero d below is others =
    let no : not (p w) ≡ false = ap not is in
    let rest = none-pass p ws (λ k e within. others (suc k) e (omega arith) (λ same. omega arith)) in
    record {
      off = filter-yes p w ws is ∙ ap (λ vs. w ∷ vs) rest.off;
      left = filter-no (λ v. not (p v)) w ws no ∙ rest.left;
      mapped = λ f. map-yes p f w ws is ∙ ap (λ (vs : List HeldPacket). f w ∷ vs) (rest.mapped f);
    }
one-passes p (w ∷ ws) (suc i) d below is others =
    let no : p w ≡ false = others 0 w (omega arith) (λ same. omega arith) in
    let yes : not (p w) ≡ true = ap not no in
    let rest = one-passes p ws i d (omega arith) is (λ k e within other. others (suc k) e (omega arith) (λ same. other (omega arith))) in
    record {
      off = filter-no p w ws no ∙ rest.off;
      left = filter-yes (λ v. not (p v)) w ws yes ∙ ap (λ vs. w ∷ vs) rest.left;
      mapped = λ f. map-no p f w ws no ∙ ap (λ (vs : List HeldPacket). w ∷ vs) (rest.mapped f);
    }

-- ---- the packet that waits for one thing

-- none of the packets before the first that passes passes
none-first : (p : HeldPacket → Bool) (ws : List HeldPacket) → length ws ≤ position_or_len p ws → (k : ℕ) (d : HeldPacket) → k < length ws → p (get_or ws k d) ≡ false
none-first p [] past k d below = absurd (omega arith)
none-first p (w ∷ ws) past k d below = at (p w) refl (none-first p ws) k below
  where
    past-if : (b : Bool) → p w ≡ b → length (w ∷ ws) ≤ cond (not b) (1 + position_or_len p ws) 0
    past-if b is = subst (λ (t : Bool). length (w ∷ ws) ≤ cond (not t) (1 + position_or_len p ws) 0) is past

    at : (b : Bool) → p w ≡ b → (length ws ≤ position_or_len p ws → (k : ℕ) (d : HeldPacket) → k < length ws → p (get_or ws k d) ≡ false) → (k : ℕ) → k < length (w ∷ ws) → p (get_or (w ∷ ws) k d) ≡ false
    at true is rest k below = absurd (let none : length (w ∷ ws) ≤ 0 = past-if true is in omega arith)
    at false is rest zero below = is
    at false is rest (suc k) below = rest (let more : length (w ∷ ws) ≤ 1 + position_or_len p ws = past-if false is in omega arith) k d (omega arith)

no-place : (b : Bool) (n : ℕ) → (let o : Option ℕ = cond b (Some n) None in o) ≡ None → b ≡ false
no-place true n e = cc
no-place false n e = refl

-- where no position is found, none passes
pub passes-none : (p : HeldPacket → Bool) (ws : List HeldPacket) → position p ws ≡ None → (k : ℕ) (d : HeldPacket) → k < length ws → p (get_or ws k d) ≡ false
passes-none p ws none = none-first p ws (ltb-false (position_or_len p ws) (length ws) (no-place (nat_lt (position_or_len p ws) (length ws)) (position_or_len p ws) none))

-- where no position is found, no packet waits for this
pub nobody : (w : WaitsFor) (ws : List HeldPacket) → position (λ (v : HeldPacket). same_wait w v.wait) ws ≡ None → NonePass (λ (v : HeldPacket). same_wait w v.wait) ws
nobody w ws none =
    let p : HeldPacket → Bool = λ v. same_wait w v.wait in
    none-pass p ws (passes-none p ws none)

-- where a position is found, the packet there waits for this, and no other
pub only : (w : WaitsFor) (ws : List HeldPacket) (i : ℕ) (d : HeldPacket) → AreApart ws → position (λ (v : HeldPacket). same_wait w v.wait) ws ≡ Some i → OnePasses (λ (v : HeldPacket). same_wait w v.wait) ws i d
only w ws i d apart found = one-passes p ws i d known.0 known.1 others
  where
    p : HeldPacket → Bool
    p v = same_wait w v.wait

    known : (i < length ws) × (p (get_or ws i d) ≡ true) × ((k : ℕ) → k < i → p (get_or ws k d) ≡ false)
    known = position-Some p ws i d found

    clash : (b : Bool) (a v : HeldPacket) → p a ≡ true → same_wait a.wait v.wait ≡ false → p v ≡ b → p v ≡ false
    clash false a v one apart_here is = is
    clash true a v one apart_here is = absurd (both_ways _ apart_here (waits-same w a.wait v.wait one is))

    clashed : (b : Bool) (v a : HeldPacket) → p a ≡ true → same_wait v.wait a.wait ≡ false → p v ≡ b → p v ≡ false
    clashed false v a one apart_here is = is
    clashed true v a one apart_here is = absurd (both_ways _ apart_here (waits-same w v.wait a.wait is one))

    here : (e : HeldPacket) → p (get_or ws i e) ≡ true
    here e = (position-Some p ws i e found).1

    others : (k : ℕ) (e : HeldPacket) → k < length ws → (k ≡ i → ⊥) → p (get_or ws k e) ≡ false
    others k e within other = by (cases_order k i)
      where
        by : (k ≡ i) ⊎ ((k < i) ⊎ (i < k)) → p (get_or ws k e) ≡ false
        by (inl same) = absurd (other same)
        by (inr (inl less)) = clashed _ (get_or ws k e) (get_or ws i e) (here e) (apart k i e less known.0) refl
        by (inr (inr more)) = clash _ (get_or ws i e) (get_or ws k e) (here e) (apart i k e more within) refl
