-- The slots after an entry is removed, or its state is changed.
use Rattle.std.proofs.Common.{◌≡◌, Bool, true, false, cond, Option, Some, None, inl, inr, not, List, [], ◌∷◌, refl, ap, ◌∙◌, sym}
use Rattle.std.specs.List.{find}
use Rattle.std.specs.Option.{option_map}
use Rattle.std.proofs.lemmas.Bool.{cond-true, cond-false, cases_Bool}
use Rattle.nat_types.specs.declared.pairs.EntryState.{EntryState}
use Rattle.nat_types.specs.declared.pairs.Key.{Key}
use Rattle.nat_types.specs.Same.{same_key}
use Rattle.nat_types.proofs.Offered.{key-eq, key-true}
use Rattle.bindings.specs.declared.entries.Entry.{Entry}
use Rattle.bindings.specs.Entries.{has_key, slot_of, set_at, entry_in}
use Rattle.bindings.specs.Lists.{without, with_state}
use Rattle.bindings.proofs.Slots.{other_way}

abbrev pub restated : EntryState → Entry → Entry
restated state e = entry_in state e.pair

-- where an entry has one key and not another, the two keys differ
apart : (q key : Key) (e : Entry) → has_key q e ≡ true → has_key key e ≡ false → same_key key q ≡ false
apart q key e here other = ap (same_key key) (sym (key-eq e.pair.key q here)) ∙ other_way e.pair.key key other

-- where an entry has two keys, they are one
together : (q key : Key) (e : Entry) → has_key q e ≡ true → has_key key e ≡ true → same_key key q ≡ true
together q key e here mine = key-true key q (sym (key-eq e.pair.key key mine) ∙ key-eq e.pair.key q here)

cond_same : (b : Bool) → cond b None None ≡ (let none : Option Entry = None in none)
cond_same true = refl
cond_same false = refl

drops : (q key : Key) (e : Entry) (o : Option Entry) (es : List Entry) (b c : Bool) → has_key key e ≡ b → has_key q e ≡ c → find (has_key q) es ≡ cond (same_key key q) None o → find (has_key q) (cond (not b) (e ∷ es) es) ≡ cond (same_key key q) None (cond c (Some e) o)
drops q key e o es true true mine here h = h ∙ cond-true (same_key key q) None o (together q key e here mine) ∙ sym (cond-true (same_key key q) None (Some e) (together q key e here mine))
drops q key e o es true false mine here h = h
drops q key e o es false true mine here h = cond-true (has_key q e) (Some e) (find (has_key q) es) here ∙ sym (cond-false (same_key key q) None (Some e) (apart q key e here mine))
drops q key e o es false false mine here h = cond-false (has_key q e) (Some e) (find (has_key q) es) here ∙ h

-- the slots without the entry of a key
pub slot-without : (key : Key) (es : List Entry) (q : Key) → slot_of (without key es) q ≡ set_at (slot_of es) key None q
slot-without key [] q = sym (cond_same (same_key key q))
slot-without key (e ∷ es) q = drops q key e (slot_of es q) (without key es) (has_key key e) (has_key q e) refl refl (slot-without key es q)

moves : (q key : Key) (state : EntryState) (e : Entry) (o : Option Entry) (es : List Entry) (b c : Bool) → has_key key e ≡ b → has_key q e ≡ c → find (has_key q) es ≡ cond (same_key key q) (option_map (restated state) o) o → find (has_key q) (cond b (restated state e) e ∷ es) ≡ cond (same_key key q) (option_map (restated state) (cond c (Some e) o)) (cond c (Some e) o)
moves q key state e o es true true mine here h =
    cond-true (has_key q e) (Some (restated state e)) (find (has_key q) es) here
    ∙ sym (cond-true (same_key key q) (Some (restated state e)) (Some e) (together q key e here mine))
moves q key state e o es true false mine here h = cond-false (has_key q e) (Some (restated state e)) (find (has_key q) es) here ∙ h
moves q key state e o es false true mine here h =
    cond-true (has_key q e) (Some e) (find (has_key q) es) here
    ∙ sym (cond-false (same_key key q) (Some (restated state e)) (Some e) (apart q key e here mine))
moves q key state e o es false false mine here h = cond-false (has_key q e) (Some e) (find (has_key q) es) here ∙ h

pub either_slot : (key : Key) (state : EntryState) (es : List Entry) (q : Key) → slot_of (with_state key state es) q ≡ cond (same_key key q) (option_map (restated state) (slot_of es q)) (slot_of es q)
either_slot key state [] q = sym (cond_same (same_key key q))
either_slot key state (e ∷ es) q = moves q key state e (slot_of es q) (with_state key state es) (has_key key e) (has_key q e) refl refl (either_slot key state es q)

-- the slots with the entry of a key in another state
pub slot-with_state : (key : Key) (state : EntryState) (es : List Entry) (e : Entry) (q : Key) → slot_of es key ≡ Some e → slot_of (with_state key state es) q ≡ set_at (slot_of es) key (Some (restated state e)) q
slot-with_state key state es e q held =
    elim (cases_Bool (same_key key q)) [
      | inl same ↦
          (let there : slot_of es q ≡ Some e = ap (slot_of es) (sym (key-eq key q same)) ∙ held in
          either_slot key state es q ∙ cond-true (same_key key q) (option_map (restated state) (slot_of es q)) (slot_of es q) same
          ∙ ap (option_map (restated state)) there ∙ sym (cond-true (same_key key q) (Some (restated state e)) (slot_of es q) same))
      | inr other ↦
          (either_slot key state es q ∙ cond-false (same_key key q) (option_map (restated state) (slot_of es q)) (slot_of es q) other
          ∙ sym (cond-false (same_key key q) (Some (restated state e)) (slot_of es q) other))
    ]
