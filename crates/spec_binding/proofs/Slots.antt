-- What a table has at each port after a change, and what the change keeps.
use Rattle.std.proofs.Common.{◌≡◌, Bool, true, false, cond, Option, Some, None, inl, inr, List, [], ◌∷◌, map, refl, sym, ap, ◌∙◌}
use Rattle.std.specs.List.{filter}
use Rattle.std.proofs.lemmas.Bool.{cond-true, cond-false, cases_Bool}
use Rattle.nat_types.specs.declared.pairs.EntryState.{EntryState}
use Rattle.nat_types.specs.declared.pairs.EntryState.TheVariants as state
use Rattle.nat_types.specs.declared.pairs.Endpoint.{Endpoint}
use Rattle.nat_types.specs.declared.pairs.Key.{Key}
use Rattle.nat_types.specs.Same.{same_key}
use Rattle.nat_types.proofs.Offered.{key-eq}
use Rattle.slots.specs.declared.ranks.Rank.{Rank}
use Rattle.bindings.specs.declared.entries.Entry.{Entry}
use Rattle.bindings.specs.Entries.{slot_of, entry_in, is_pair, has_key, set_at, HasDistinctKeys, is_of_rank}
use Rattle.bindings.specs.Lists.{put_in, without, with_state, IsOneToOne}
use Rattle.bindings.specs.Revivals.{woken, woken_entry, revived_entries}
use Rattle.bindings.proofs.Offered.{slot-put, keys-filter, keys-map, none-map, find-filter_none, slot-without, slot-with_state}
use Rattle.spec_pair.specs.Talk as machine
use Rattle.spec_pair.specs.Box.{revived}
use Rattle.spec_pair.specs.Mapped.{slot_in}
use Rattle.spec_binding.specs.Machine.{machine_slot, slots_of}

over : (b : Bool) (o p : Option Entry) → machine_slot (cond b o p) ≡ cond b (machine_slot o) (machine_slot p)
over true o p = refl
over false o p = refl

-- where one key's entry changes, the machine's table changes at that key alone
pub slots-set : (es2 es : List Entry) (k : Key) (o : Option Entry) → ((q : Key) → slot_of es2 q ≡ set_at (slot_of es) k o q) → (q : Key) → slots_of es2 q ≡ machine.set_at (slots_of es) k (machine_slot o) q
slots-set es2 es k o h q = ap machine_slot (h q) ∙ over (same_key k q) o (slot_of es q)

pub slots-put : (e : Entry) (es : List Entry) → slot_of es e.pair.key ≡ None → (q : Key) → slots_of (put_in e es) q ≡ machine.set_at (slots_of es) e.pair.key (slot_in e.state e.pair.endpoint) q
slots-put e es h = slots-set (put_in e es) es e.pair.key (Some e) (λ q. slot-put e es q h)

pub slots-turn : (k : Key) (s : EntryState) (es : List Entry) (x : Entry) → slot_of es k ≡ Some x → (q : Key) → slots_of (with_state k s es) q ≡ machine.set_at (slots_of es) k (slot_in s x.pair.endpoint) q
slots-turn k s es x h = slots-set (with_state k s es) es k (Some (entry_in s x.pair)) (λ q. slot-with_state k s es x q h)

pub slots-drop : (k : Key) (es : List Entry) → (q : Key) → slots_of (without k es) q ≡ machine.set_at (slots_of es) k machine.Free q
slots-drop k es = slots-set (without k es) es k None (λ q. slot-without k es q)

-- the slot of an entry that is there
pub slots-at : (es : List Entry) (k : Key) (x : Entry) → slot_of es k ≡ Some x → slots_of es k ≡ slot_in x.state x.pair.endpoint
slots-at es k x h = ap machine_slot h

pub slots-none : (es : List Entry) (k : Key) → slot_of es k ≡ None → slots_of es k ≡ machine.Free
slots-none es k h = ap machine_slot h

-- ---- the slots after the peer begins anew

pub keys-revived : (es : List Entry) → HasDistinctKeys es → HasDistinctKeys (revived_entries es)
keys-revived es d = keys-map woken_entry (filter (λ e. is_pair e.state) es) (λ x. refl) (keys-filter (λ e. is_pair e.state) es d)

woken-slot : (s : EntryState) (e : Endpoint) → is_pair s ≡ true → slot_in (woken s) e ≡ revived (slot_in s e)
woken-slot (state.Pending m) e h = refl
woken-slot state.Doomed e h = cc
woken-slot state.Live e h = refl
woken-slot (state.Closing m) e h = refl
woken-slot state.Alone e h = refl
woken-slot state.Held e h = refl

gone-slot : (s : EntryState) (e : Endpoint) → is_pair s ≡ false → revived (slot_in s e) ≡ machine.Free
gone-slot (state.Pending m) e h = cc
gone-slot state.Doomed e h = refl
gone-slot state.Live e h = cc
gone-slot (state.Closing m) e h = cc
gone-slot state.Alone e h = cc
gone-slot state.Held e h = cc

pub slots-revived : (es : List Entry) (q : Key) → HasDistinctKeys es → slots_of (revived_entries es) q ≡ revived (slots_of es q)
slots-revived [] q d = refl
slots-revived (x ∷ xs) q d = at (is_pair x.state) (same_key x.pair.key q) refl refl (slots-revived xs q d.1)
  where
    at : (b c : Bool) → is_pair x.state ≡ b → same_key x.pair.key q ≡ c → slots_of (revived_entries xs) q ≡ revived (slots_of xs q) → machine_slot (slot_of (map woken_entry (cond b (x ∷ filter (λ e. is_pair e.state) xs) (filter (λ e. is_pair e.state) xs))) q) ≡ revived (machine_slot (cond c (Some x) (slot_of xs q)))
    at true true pair here ih = ap machine_slot (cond-true (same_key x.pair.key q) (Some (woken_entry x)) (slot_of (revived_entries xs) q) here) ∙ woken-slot x.state x.pair.endpoint pair
    at true false pair here ih = ap machine_slot (cond-false (same_key x.pair.key q) (Some (woken_entry x)) (slot_of (revived_entries xs) q) here) ∙ ih
    at false true pair here ih =
        let free : slot_of xs q ≡ None = ap (slot_of xs) (sym (key-eq x.pair.key q here)) ∙ d.0 in
        ih ∙ ap (λ (o : Option Entry). revived (machine_slot o)) free ∙ sym (gone-slot x.state x.pair.endpoint pair)
    at false false pair here ih = ih

-- the entry that the key had before, of the same pair
pub record WasThere (es : List Entry) (q : Key) (y : Entry) : Type 0 where
  pub entry : Entry
  pub found : slot_of es q ≡ Some entry
  pub pair : is_pair entry.state ≡ true
  pub same : y.pair ≡ entry.pair
  pub state : y.state ≡ woken entry.state

pub was-there : (es : List Entry) (q : Key) (y : Entry) → HasDistinctKeys es → slot_of (revived_entries es) q ≡ Some y → WasThere es q y
was-there [] q y d h = absurd (cc)
was-there (x ∷ xs) q y d h = at (is_pair x.state) (same_key x.pair.key q) refl refl (λ m. was-there xs q y d.1 m) h
  where
    past : same_key x.pair.key q ≡ false → WasThere xs q y → WasThere (x ∷ xs) q y
    past there w = record { entry = w.entry; found = cond-false (same_key x.pair.key q) (Some x) (slot_of xs q) there ∙ w.found; pair = w.pair; same = w.same; state = w.state }

    at : (b c : Bool) → is_pair x.state ≡ b → same_key x.pair.key q ≡ c → (slot_of (revived_entries xs) q ≡ Some y → WasThere xs q y) → slot_of (map woken_entry (cond b (x ∷ filter (λ e. is_pair e.state) xs) (filter (λ e. is_pair e.state) xs))) q ≡ Some y → WasThere (x ∷ xs) q y
    at true true pair here more h =
        let is : Some (woken_entry x) ≡ Some y = sym (cond-true (same_key x.pair.key q) (Some (woken_entry x)) (slot_of (revived_entries xs) q) here) ∙ h in
        let one : woken_entry x ≡ y = cc in
        record { entry = x; found = cond-true (same_key x.pair.key q) (Some x) (slot_of xs q) here; pair = pair; same = ap (λ (e : Entry). e.pair) (sym one); state = ap (λ (e : Entry). e.state) (sym one) }
    at true false pair here more h = past here (more (sym (cond-false (same_key x.pair.key q) (Some (woken_entry x)) (slot_of (revived_entries xs) q) here) ∙ h))
    at false true pair here more h =
        let free : slot_of xs q ≡ None = ap (slot_of xs) (sym (key-eq x.pair.key q here)) ∙ d.0 in
        let none : slot_of (revived_entries xs) q ≡ None = none-map woken_entry (filter (λ e. is_pair e.state) xs) q (λ x. refl) (find-filter_none (has_key q) (λ e. is_pair e.state) xs free) in
        absurd (cc)
    at false false pair here more h = past here (more h)

-- ---- endpoints

-- a slot holds an endpoint exactly where its state is one of a pair
pub state-held : (s : EntryState) (e x : Endpoint) → machine.held (slot_in s e) ≡ Some x → (is_pair s ≡ true) × (e ≡ x)
state-held (state.Pending m) e x t = (refl, cc)
state-held state.Doomed e x t = cc
state-held state.Live e x t = (refl, cc)
state-held (state.Closing m) e x t = (refl, cc)
state-held state.Alone e x t = (refl, cc)
state-held state.Held e x t = (refl, cc)

pub held-state : (s : EntryState) (e : Endpoint) → is_pair s ≡ true → machine.held (slot_in s e) ≡ Some e
held-state (state.Pending m) e t = refl
held-state state.Doomed e t = cc
held-state state.Live e t = refl
held-state (state.Closing m) e t = refl
held-state state.Alone e t = refl
held-state state.Held e t = refl

-- where no other key has a pair of the rank that serves the endpoint that a key now serves, no two keys have
pub one-set : (es es2 : List Entry) (k : Key) (o : Option Entry) → IsOneToOne es → ((q : Key) → slot_of es2 q ≡ set_at (slot_of es) k o q)
    → ((x y : Entry) (q : Key) (rank : Rank) → o ≡ Some x → is_of_rank rank x.state ≡ true → slot_of es q ≡ Some y → is_of_rank rank y.state ≡ true → x.pair.endpoint ≡ y.pair.endpoint → k ≡ q) → IsOneToOne es2
one-set es es2 k o one is new a b x y rank hx hy px py same =
    elim (cases_Bool (same_key k a)) [
      | inl ea ↦ elim (cases_Bool (same_key k b)) [
        | inl eb ↦ sym (key-eq k a ea) ∙ key-eq k b eb
        | inr nb ↦ sym (key-eq k a ea) ∙ new x y b rank (here a x ea hx) px (there b y nb hy) py same
      ]
      | inr na ↦ elim (cases_Bool (same_key k b)) [
        | inl eb ↦ sym (new y x a rank (here b y eb hy) py (there a x na hx) px (sym same)) ∙ key-eq k b eb
        | inr nb ↦ one a b x y rank (there a x na hx) (there b y nb hy) px py same
      ]
    ]
  where
    here : (q : Key) (z : Entry) → same_key k q ≡ true → slot_of es2 q ≡ Some z → o ≡ Some z
    here q z h x = sym (is q ∙ cond-true (same_key k q) o (slot_of es q) h) ∙ x

    there : (q : Key) (z : Entry) → same_key k q ≡ false → slot_of es2 q ≡ Some z → slot_of es q ≡ Some z
    there q z h x = sym (is q ∙ cond-false (same_key k q) o (slot_of es q) h) ∙ x

-- a pair that is woken stays on its side
pub woken-rank : (rank : Rank) (s : EntryState) → is_pair s ≡ true → is_of_rank rank (woken s) ≡ is_of_rank rank s
woken-rank rank (state.Pending m) h = refl
woken-rank rank state.Doomed h = cc
woken-rank rank state.Live h = refl
woken-rank rank (state.Closing m) h = refl
woken-rank rank state.Alone h = refl
woken-rank rank state.Held h = refl

pub one-revived : (es : List Entry) → HasDistinctKeys es → IsOneToOne es → IsOneToOne (revived_entries es)
one-revived es d one k q x y rank hx hy px py same =
    let a = was-there es k x d hx in
    let b = was-there es q y d hy in
    one k q a.entry b.entry rank a.found b.found
    (sym (woken-rank rank a.entry.state a.pair) ∙ sym (ap (is_of_rank rank) a.state) ∙ px)
    (sym (woken-rank rank b.entry.state b.pair) ∙ sym (ap (is_of_rank rank) b.state) ∙ py)
    (ap (λ p. p.endpoint) (sym a.same) ∙ same ∙ ap (λ p. p.endpoint) b.same)
