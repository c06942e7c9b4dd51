-- How many slots the endpoints of an index have, and the counts of them by address.
use Rattle.std.proofs.Common.{◌≡◌, ℕ, ◌+◌, ◌-◌, ◌<◌, ◌≤◌, Bool, true, false, cond, Option, Some, None, List, [], ◌∷◌, ◌&&◌, ◌==◌, is_some, is_none, refl, ap, subst, sym, ◌∙◌, arith}
use Rattle.std.specs.Map.{lookup, set_value}
use Rattle.std.specs.Option.{unwrap_or}
use Rattle.std.proofs.lemmas.Bool.{eqb-true}
use Rattle.std.proofs.lemmas.List.Sums.{sum_by-cons}
use Rattle.indexmap.specs.IndexMap.{insert_entry, swap_remove_entry}
use Rattle.addresses.specs.declared.internet.Ip.{Ip}
use Rattle.nat_types.specs.declared.pairs.Endpoint.{Endpoint}
use Rattle.nat_types.specs.contracts.pairs.EndpointPartialEq.TheImpl.{eq-value as endpoint_eq}
use Rattle.slots.specs.declared.numbers.SlotNumber.{SlotNumber}
use Rattle.slots.specs.declared.ranks.Rank.{Rank}
use Rattle.slots.specs.declared.ranks.Rank.TheVariants.{First, Second}
use Rattle.slots.specs.declared.ranks.Places.{Places}
use Rattle.slots.specs.Counts.{AddressCounts, is_address, count_at, one_at}
use Rattle.slots.specs.Ranks.{no_places, slot_in, with_slot, has_no_slot, slot_count}
use Rattle.slots.specs.Endpoints.{look_up, slots_for, slots_at, slots_among, AreCounted, AreRewritten}
use Rattle.slots.proofs.LookUps.{looked-up, changed-one}
use Rattle.slots.proofs.Summed.{sum-put, sum-set, sum-out}

-- the count of one address after a change
module _ (old new : List (Ip × ℕ)) (k : Ip) where
  set-one : (o : Option ℕ) → ((q : Ip) → lookup (is_address q) new ≡ cond (is_address k q) o (lookup (is_address q) old)) → (q : Ip) → count_at new q ≡ cond (is_address k q) (unwrap_or o 0) (count_at old q)
  set-one o h q = ap (λ r. unwrap_or r 0) (h q) ∙ through (is_address k q)
    where
      through : (b : Bool) → unwrap_or (cond b o (lookup (is_address q) old)) 0 ≡ cond b (unwrap_or o 0) (count_at old q)
      through true = refl
      through false = refl

  same-count : (q : Ip) → is_address k q ≡ true → count_at old k ≡ count_at old q
  same-count q h = ap (λ n. unwrap_or (lookup (λ (x : Ip). n == x.0) old) 0) (eqb-true k.0 q.0 h)

  pub one-more : (w : ℕ) → w ≡ count_at old k + 1 → ((q : Ip) → lookup (is_address q) new ≡ cond (is_address k q) (Some w) (lookup (is_address q) old)) → (q : Ip) → count_at new q ≡ count_at old q + one_at k q
  one-more w e h q = set-one (Some w) h q ∙ by (is_address k q) refl
    where
      by : (b : Bool) → is_address k q ≡ b → cond (is_address k q) w (count_at old q) ≡ count_at old q + one_at k q
      by true t = (let s = same-count q t in rw t (omega (arith, s, e)))
      by false t = rw t (omega arith)

  pub one-fewer : (w : ℕ) → w ≡ count_at old k - 1 → ((q : Ip) → count_at new q ≡ cond (is_address k q) w (count_at old q)) → (q : Ip) → count_at new q ≡ count_at old q - one_at k q
  one-fewer w e h q = h q ∙ by (is_address k q) refl
    where
      by : (b : Bool) → is_address k q ≡ b → cond (is_address k q) w (count_at old q) ≡ count_at old q - one_at k q
      by true t = (let s = same-count q t in rw t (omega (arith, s, e)))
      by false t = rw t (omega arith)

  pub none-left : 0 ≡ count_at old k - 1 → ((q : Ip) → lookup (is_address q) new ≡ cond (is_address k q) None (lookup (is_address q) old)) → (q : Ip) → count_at new q ≡ count_at old q - one_at k q
  none-left e h = one-fewer 0 e (set-one None h)

-- ---- the slots of one endpoint

abbrev one_some : Option SlotNumber → ℕ
one_some o = cond (is_some o) 1 0

-- one more slot, where there was none of that rank
pub count-with : (rank : Rank) (n : SlotNumber) (p : Places) → slot_in rank p ≡ None → slot_count (with_slot rank (Some n) p) ≡ slot_count p + 1
count-with First n p h = (let none = ap one_some h in omega (arith, none))
count-with Second n p h = (let none = ap one_some h in omega (arith, none))

-- as many slots, where one is put in place of another
pub count-again : (rank : Rank) (n : SlotNumber) (p : Places) → is_some (slot_in rank p) ≡ true → slot_count (with_slot rank (Some n) p) ≡ slot_count p
count-again First n p h = (let some = ap (λ b. (let m : ℕ = cond b 1 0 in m)) h in omega (arith, some))
count-again Second n p h = (let some = ap (λ b. (let m : ℕ = cond b 1 0 in m)) h in omega (arith, some))

-- one slot fewer, where that of a rank is removed
pub count-without : (rank : Rank) (p : Places) → is_some (slot_in rank p) ≡ true → slot_count p ≡ slot_count (with_slot rank None p) + 1
count-without First p h = (let some = ap (λ b. (let m : ℕ = cond b 1 0 in m)) h in omega (arith, some))
count-without Second p h = (let some = ap (λ b. (let m : ℕ = cond b 1 0 in m)) h in omega (arith, some))

-- an endpoint that has a slot of some rank has some
pub some-slots : (rank : Rank) (p : Places) → is_some (slot_in rank p) ≡ true → 0 < slot_count p
some-slots rank p h = (let less = count-without rank p h in omega (arith, less))

pub some-with : (rank : Rank) (n : SlotNumber) (p : Places) → 0 < slot_count (with_slot rank (Some n) p)
some-with First n p = omega arith
some-with Second n p = omega arith

pub empty-places : (p : Places) → has_no_slot p ≡ true → p ≡ no_places
empty-places p h = by p.first p.second h
  where
    by : (a b : Option SlotNumber) → (is_none a && is_none b) ≡ true → (let q : Places = record { first = a; second = b } in q) ≡ no_places
    by None None h = refl
    by None (Some n) h = absurd (cc)
    by (Some n) b h = absurd (cc)

pub some-places : (p : Places) → has_no_slot p ≡ false → 0 < slot_count p
some-places p h = by p.first p.second h
  where
    by : (a b : Option SlotNumber) → (is_none a && is_none b) ≡ false → 0 < one_some a + one_some b
    by None None h = absurd (cc)
    by None (Some n) h = omega arith
    by (Some n) None h = omega arith
    by (Some n) (Some m) h = omega arith

-- ---- the slots of all endpoints of an address

module _ (a : Ip) where
  none-for : (x : Endpoint) → slots_for a x no_places ≡ 0
  none-for x = by (is_address x.address a)
    where
      by : (b : Bool) → (let n : ℕ = cond b (slot_count no_places) 0 in n) ≡ 0
      by true = refl
      by false = refl

  for-cases : (x : Endpoint) (m n : ℕ) → m ≡ n + 1 → (let k : ℕ = cond (is_address x.address a) m 0 in k) ≡ cond (is_address x.address a) n 0 + one_at x.address a
  for-cases x m n h = by (is_address x.address a)
    where
      by : (b : Bool) → (let k : ℕ = cond b m 0 in k) ≡ cond b n 0 + cond b 1 0
      by true = omega (arith, h)
      by false = omega arith

  pub for-with : (x : Endpoint) (rank : Rank) (n : SlotNumber) (p : Places) → slot_in rank p ≡ None → slots_for a x (with_slot rank (Some n) p) ≡ slots_for a x p + one_at x.address a
  for-with x rank n p h = for-cases x (slot_count (with_slot rank (Some n) p)) (slot_count p) (count-with rank n p h)

  pub for-again : (x : Endpoint) (rank : Rank) (n : SlotNumber) (p : Places) → is_some (slot_in rank p) ≡ true → slots_for a x (with_slot rank (Some n) p) ≡ slots_for a x p
  for-again x rank n p h = ap (λ m. cond (is_address x.address a) m 0) (count-again rank n p h)

  pub for-without : (x : Endpoint) (rank : Rank) (p : Places) → is_some (slot_in rank p) ≡ true → slots_for a x p ≡ slots_for a x (with_slot rank None p) + one_at x.address a
  for-without x rank p h = for-cases x (slot_count p) (slot_count (with_slot rank None p)) (count-without rank p h)

  -- an address has no more slots than there are
  pub at-most : (es : List (Endpoint × Places)) → slots_at a es ≤ slots_among es
  at-most [] = omega arith
  at-most (e ∷ es) =
      let some = sum_by-cons (λ (d : Endpoint × Places). slots_for a d.0 d.1) e es in
      let all = sum_by-cons (λ (d : Endpoint × Places). slot_count d.1) e es in
      let rest = at-most es in
      let one = by (is_address e.0.address a) in
      omega (arith, some, all, rest, one)
    where
      by : (b : Bool) → (let n : ℕ = cond b (slot_count e.1) 0 in n) ≤ slot_count e.1
      by true = omega arith
      by false = omega arith

-- no count is greater than the number of all slots
pub count-within : (es : List (Endpoint × Places)) (counts : AddressCounts) (a : Ip) → AreCounted es counts → count_at counts.entries a ≤ slots_among es
count-within es counts a k = (let most = at-most a es in let own = k a in omega (arith, most, own))

-- ---- an index after the slots of one endpoint were changed

module _ (es fs : List (Endpoint × Places)) (x : Endpoint) where
  pub put-rewritten : (p : Places) → fs ≡ insert_entry endpoint_eq.it es x p → ((q : Endpoint) → lookup (endpoint_eq.it q) fs ≡ cond (endpoint_eq.it x q) (Some p) (lookup (endpoint_eq.it q) es)) → AreRewritten es x p fs
  put-rewritten p h updates = record {
    slots = changed-one es fs x (Some p) updates;
    counted = λ a. ap (λ gs. slots_at a gs + slots_for a x (look_up es x)) h ∙ sum-put (slots_for a) (none-for a) es x p;
    all = ap (λ gs. slots_among gs + slot_count (look_up es x)) h ∙ sum-put (λ _ q. slot_count q) (λ _. refl) es x p;
  }

  pub set-rewritten : (p q : Places) → fs ≡ set_value (endpoint_eq.it x) es p → ((y : Endpoint) → lookup (endpoint_eq.it y) fs ≡ cond (endpoint_eq.it x y) (Some p) (lookup (endpoint_eq.it y) es))
      → lookup (endpoint_eq.it x) es ≡ Some q → AreRewritten es x p fs
  set-rewritten p q h updates held =
      let is : look_up es x ≡ q = sym (looked-up es x) ∙ ap (λ o. unwrap_or o no_places) held in
      record {
        slots = changed-one es fs x (Some p) updates;
        counted = λ a. ap (λ gs. slots_at a gs + slots_for a x (look_up es x)) h ∙ ap (λ r. slots_at a (set_value (endpoint_eq.it x) es p) + slots_for a x r) is ∙ sum-set (slots_for a) (none-for a) es x p q held;
        all = ap (λ gs. slots_among gs + slot_count (look_up es x)) h ∙ ap (λ r. slots_among (set_value (endpoint_eq.it x) es p) + slot_count r) is ∙ sum-set (λ _ r. slot_count r) (λ _. refl) es x p q held;
      }

  pub out-rewritten : (p : Places) → has_no_slot p ≡ true → fs ≡ swap_remove_entry (endpoint_eq.it x) es → ((q : Endpoint) → lookup (endpoint_eq.it q) fs ≡ cond (endpoint_eq.it x q) None (lookup (endpoint_eq.it q) es)) → AreRewritten es x p fs
  out-rewritten p empty h updates =
      let gone : AreRewritten es x no_places fs = record {
        slots = changed-one es fs x None updates;
        counted = λ a.
            (let less = sum-out (slots_for a) (none-for a) es x in let zero = none-for a x in let same = ap (slots_at a) h in omega (arith, less, zero, same));
        all = (let less = sum-out (λ _ q. slot_count q) (λ _. refl) es x in let same = ap slots_among h in omega (arith, less, same));
      } in
      subst (λ (q : Places). AreRewritten es x q fs) (sym (empty-places p empty)) gone

pub none-from : (o : Option SlotNumber) → is_some o ≡ false → o ≡ None
none-from None h = refl
none-from (Some n) h = absurd (cc)

-- an endpoint with a slot is in the list
pub not-absent : (es : List (Endpoint × Places)) (x : Endpoint) → lookup (endpoint_eq.it x) es ≡ None → 0 < slot_count (look_up es x) → ⊥
not-absent es x none some =
    let is : look_up es x ≡ no_places = sym (looked-up es x) ∙ ap (λ o. unwrap_or o no_places) none in
    let zero = ap slot_count is in
    omega (arith, zero, some)

-- ---- the counts after one slot more, one in place of another, or one fewer

module _ (es fs : List (Endpoint × Places)) (x : Endpoint) (rank : Rank) where
  module _ (n : SlotNumber) (r : AreRewritten es x (with_slot rank (Some n) (look_up es x)) fs) where
    pub more-slots : slot_in rank (look_up es x) ≡ None → (a : Ip) → slots_at a fs ≡ slots_at a es + one_at x.address a
    more-slots none a = (let all = r.counted a in let one = for-with a x rank n (look_up es x) none in omega (arith, all, one))

    pub more-total : slot_in rank (look_up es x) ≡ None → slots_among fs ≡ slots_among es + 1
    more-total none = (let all = r.all in let one = count-with rank n (look_up es x) none in omega (arith, all, one))

    pub same-slots : is_some (slot_in rank (look_up es x)) ≡ true → (a : Ip) → slots_at a fs ≡ slots_at a es
    same-slots some a = (let all = r.counted a in let one = for-again a x rank n (look_up es x) some in omega (arith, all, one))

    pub same-total : is_some (slot_in rank (look_up es x)) ≡ true → slots_among fs ≡ slots_among es
    same-total some = (let all = r.all in let one = count-again rank n (look_up es x) some in omega (arith, all, one))

  module _ (r : AreRewritten es x (with_slot rank None (look_up es x)) fs) (some : is_some (slot_in rank (look_up es x)) ≡ true) where
    pub less-slots : (a : Ip) → slots_at a es ≡ slots_at a fs + one_at x.address a
    less-slots a = (let all = r.counted a in let one = for-without a x rank (look_up es x) some in omega (arith, all, one))

    pub less-total : slots_among es ≡ slots_among fs + 1
    less-total = (let all = r.all in let one = count-without rank (look_up es x) some in omega (arith, all, one))
