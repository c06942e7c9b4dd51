-- The conditions of a change on a table, and its effect on the lives.
use Rattle.std.proofs.Common.{◌≡◌, ℕ, ◌-◌, Bool, true, false, cond, nat_le, is_some, Option, Some, None, List, [], ◌∷◌, length, refl, sym, ap, subst, ◌∙◌}
use Rattle.std.specs.Option.{option_map}
use Rattle.std.proofs.lemmas.Bool.{cond-false, lt-leb}
use Rattle.std.specs.List.{insert}
use Rattle.nat_types.specs.declared.pairs.EntryState.{EntryState}
use Rattle.nat_types.specs.declared.pairs.EntryState.TheVariants.{Doomed}
use Rattle.nat_types.specs.declared.pairs.Endpoint.{Endpoint}
use Rattle.nat_types.specs.declared.pairs.Key.{Key}
use Rattle.nat_types.specs.declared.pairs.Pair.{Pair}
use Rattle.nat_types.specs.Same.{same_key}
use Rattle.nat_types.proofs.Offered.{key-eq}
use Rattle.activity.specs.Lives.{History, Activity, renewed}
use Rattle.bindings.specs.declared.entries.Entry.{Entry}
use Rattle.bindings.specs.declared.entries.TableFault.TheVariants.{Full, PortTaken, EndpointTaken}
use Rattle.slots.specs.declared.ranks.Rank.{Rank}
use Rattle.slots.specs.declared.ranks.Rank.TheVariants.{First, Second}
use Rattle.bindings.specs.Entries.{slot_of, held_entry_of, entry_in, has_key, serves, rank_of, is_of_rank, is_taken, refusal_of}
use Rattle.bindings.specs.Lists.{place_in, with_state}
use Rattle.bindings.specs.Lives.{KeepsOthers}
use Rattle.bindings.specs.Ports.{in_either}
use Rattle.bindings.specs.Table.{Table, IsTable, IsPast, AreInRanges, with_entry_state}
use Rattle.spec_binding.proofs.Offered.{turned-place}
use Rattle.bindings.proofs.Offered.{slot-with_state, either_slot, restated, no-past, has-room, find-none, one-rank}

-- a new entry in the ranges is never refused
pub welcomed : (t : Table) (e : Entry) → IsTable t → AreInRanges t → in_either t.zero t.one e.pair.key.port.0 ≡ true → slot_of t.entries e.pair.key ≡ None → is_taken (rank_of e.state) t.entries e.pair.endpoint ≡ false → refusal_of t.capacity t.entries e ≡ None
welcomed t e is ranges within key endpoint =
    let room = has-room t is ranges e.pair.key within key in
    cond-false (nat_le t.capacity (length t.entries)) (Some Full) _ (lt-leb t.capacity (length t.entries) room)
    ∙ cond-false (is_some (slot_of t.entries e.pair.key)) (Some PortTaken) _ (ap is_some key)
    ∙ cond-false (is_taken (rank_of e.state) t.entries e.pair.endpoint) (Some EndpointTaken) None endpoint

-- another key's past stays when an entry is added
pub stays-added : (k : Key) (t t2 : Table) → slot_of t.entries k ≡ None → KeepsOthers k t.entries t.lives t2.entries t2.lives → (q : Key) (past : History) → IsPast t q past → IsPast t2 q past
stays-added k t t2 free others q past has = at (same_key k q) refl
  where
    at : (b : Bool) → same_key k q ≡ b → IsPast t2 q past
    at true same = absurd (no-past k t.entries t.lives past free (subst (λ (z : Key). IsPast t z past) (sym (key-eq k q same)) has))
    at false same = others q past same has

pub stays-renewed : (now : ℕ) (k : Key) (t t2 : Table) → ((past : History) → IsPast t k past → IsPast t2 k (renewed now past)) → KeepsOthers k t.entries t.lives t2.entries t2.lives → (q : Key) (past : History) → IsPast t q past → IsPast t2 q (cond (same_key k q) (renewed now past) past)
stays-renewed now k t t2 renews others q past has = at (same_key k q) refl
  where
    at : (b : Bool) → same_key k q ≡ b → IsPast t2 q (cond b (renewed now past) past)
    at true same = subst (λ (z : Key). IsPast t2 z (renewed now past)) (key-eq k q same) (renews past (subst (λ (z : Key). IsPast t z past) (sym (key-eq k q same)) has))
    at false same = others q past same has

-- ---- an entry in another state

pub turned-ranges : (t : Table) (k : Key) (s : EntryState) → AreInRanges t → AreInRanges (record t { entries = with_state k s t.entries })
turned-ranges t k s ranges q x found = at (slot_of t.entries q) refl
  where
    at : (o : Option Entry) → slot_of t.entries q ≡ o → in_either t.zero t.one q.port.0 ≡ true
    at (Some y) there = ranges q y there
    at None none = absurd (bad (same_key k q) (sym (either_slot k s t.entries q) ∙ found))
      where
        bad : (b : Bool) → cond b (option_map (restated s) (slot_of t.entries q)) (slot_of t.entries q) ≡ Some x → ⊥
        bad true h = let gone = none in cc
        bad false h = let gone = none in cc

pub yielded-free : (es : List Entry) (q k : Key) (x : Entry) → slot_of es q ≡ Some x → slot_of es k ≡ None → slot_of (with_state q Doomed es) k ≡ None
yielded-free es q k x found free = slot-with_state q Doomed es x k found ∙ at (same_key q k) refl
  where
    at : (b : Bool) → same_key q k ≡ b → cond b (Some (entry_in Doomed x.pair)) (slot_of es k) ≡ None
    at true same = let bad : slot_of es k ≡ Some x = ap (slot_of es) (sym (key-eq q k same)) ∙ found in cc
    at false same = free

-- an own pair may get the state of any own pair
pub own-turn : (es : List Entry) (k : Key) (x : Entry) (s : EntryState) → slot_of es k ≡ Some x → is_of_rank First x.state ≡ true → is_of_rank First s ≡ true → (y : Entry) → slot_of es k ≡ Some y → (r : Rank) → is_of_rank r s ≡ true → is_of_rank r y.state ≡ true
own-turn es k x s found own new y there r is =
    let one : Some x ≡ Some y = sym found ∙ there in
    let same : x ≡ y = cc in
    subst (λ (z : Rank). is_of_rank z y.state ≡ true) (one-rank s First r new is) (ap (λ (z : Entry). is_of_rank First z.state) (sym same) ∙ own)

-- a proposal that is given up gives no endpoint a pair
pub yielded-held : (q : Key) (es : List Entry) (e : Endpoint) → held_entry_of es e ≡ None → held_entry_of (with_state q Doomed es) e ≡ None
yielded-held q [] e none = refl
yielded-held q (x ∷ xs) e none =
    let parts = find-none (serves Second e) x xs none in
    at (has_key q x) parts.0 (yielded-held q xs e parts.1)
  where
    at : (b : Bool) → serves Second e x ≡ false → held_entry_of (with_state q Doomed xs) e ≡ None → held_entry_of ((let y : Entry = cond b (entry_in Doomed x.pair) x in y) ∷ with_state q Doomed xs) e ≡ None
    at true fails rest = rest
    at false fails rest = cond-false (serves Second e x) (Some x) (held_entry_of (with_state q Doomed xs) e) fails ∙ rest

-- a pair to which a proposal gives way has its life where it would have had it before
pub turned-life : (p : Pair) (q : Key) (s : EntryState) (t t1 t2 : Table) (l : Activity) → t1 ≡ with_entry_state t q s → t2.lives ≡ insert t1.lives (place_in p t1.entries) l → t2.lives ≡ insert t.lives (place_in p t.entries) l
turned-life p q s t t1 t2 l made is =
    is ∙ ap (λ (u : Table). insert u.lives (place_in p u.entries) l) made ∙ ap (λ (n : ℕ). insert t.lives n l) (turned-place p q s t.entries)

-- ---- a table whose entries and lives are known

pub made-table : (t t2 : Table) {es : List Entry} {ls : List Activity} → t2 ≡ record t { entries = t2.entries; lives = t2.lives } → t2.entries ≡ es → t2.lives ≡ ls → t2 ≡ record t { entries = es; lives = ls }
made-table t t2 {es} {ls} same entries lives =
    same ∙ ap (λ (z : List Entry). let u : Table = record t { entries = z; lives = t2.lives } in u) entries
    ∙ ap (λ (z : List Activity). let u : Table = record t { entries = es; lives = z } in u) lives

-- a table to which an entry was added is ready for one less
pub added-table : (t t2 : Table) {es : List Entry} {ls : List Activity} → t2 ≡ record t { entries = t2.entries; lives = t2.lives; ready = t.ready - 1 } → t2.entries ≡ es → t2.lives ≡ ls → t2 ≡ record t { entries = es; lives = ls; ready = t.ready - 1 }
added-table t t2 {es} {ls} same entries lives =
    same ∙ ap (λ (z : List Entry). let u : Table = record t { entries = z; lives = t2.lives; ready = t.ready - 1 } in u) entries
    ∙ ap (λ (z : List Activity). let u : Table = record t { entries = es; lives = z; ready = t.ready - 1 } in u) lives
