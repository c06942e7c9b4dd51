-- What a slot, or a record under way, says of its port's phase.
use Rattle.std.proofs.Common.{◌≡◌, Bool, true, false, cond, List, [], ◌∷◌, Option, Some, None, refl, sym, ap, ◌∙◌, inl, inr, ◌⊎◌}
use Rattle.nat_types.specs.declared.pairs.Endpoint.{Endpoint}
use Rattle.nat_types.specs.declared.pairs.Key.{Key}
use Rattle.spec_pair.proofs.Phase.{Phase, Nothing, Proposed, Told, Accepted, Refused, GivenUp, GivenUpRefused, Shared, Asked, Staying, Leaving, Apart, owner_slot, other_slot, from_owner, to_owner, named, shared, single, alone_in, closing, closed_in, first_of, covered, accepted, is_given_up, slot_at, flight_at, refuse, accept, give_up, set_apart, leave, stay}
use Rattle.spec_pair.specs.Talk.{Slot, Free, Pending, Doomed, Live, Closing, Held, Alone, MachineRecord, Install, Accept, Refuse, Ask, Yes, No, Tell, held, mark, translated}

pub some_or_none : {A : Type 0} (o : Option A) → (o ≡ None) ⊎ ((e : A) × (o ≡ Some e))
some_or_none None = inl refl
some_or_none (Some e) = inr (e, refl)

pub one_some : {A : Type 0} (a b : A) → Some a ≡ Some b → a ≡ b
one_some a b h = cc

pub none_some : (o : Option Endpoint) (n : Endpoint) → o ≡ None → o ≡ Some n → ⊥
none_some o n a b = cc

-- ---- the owner's slot, and the other's

pub when_free : (p : Phase) → owner_slot p ≡ Free → p ≡ Nothing
when_free Nothing h = refl
when_free p h = cc

pub when_live : (p : Phase) (n : Endpoint) → owner_slot p ≡ Live n → p ≡ Shared n
when_live (Shared e) n h = cc
when_live p n h = cc

pub when_alone : (p : Phase) (n : Endpoint) → owner_slot p ≡ Alone n → p ≡ Apart n
when_alone (Apart e) n h = cc
when_alone p n h = cc

pub when_held : (p : Phase) (n : Endpoint) → other_slot p ≡ Held n → shared p ≡ Some n
when_held p n h = ap held h

-- an own proposal that isn't marked
pub when_pending : (p : Phase) (n : Endpoint) → owner_slot p ≡ Pending false n → (p ≡ Proposed false n) ⊎ ((p ≡ Accepted false n) ⊎ (p ≡ Refused false n))
when_pending (Proposed m e) n h = inl (cc)
when_pending (Accepted m e) n h = inr (inl (cc))
when_pending (Refused m e) n h = inr (inr (cc))
when_pending p n h = absurd (cc)

pub never_held : (p : Phase) (n : Endpoint) → owner_slot p ≡ Held n → ⊥
never_held Nothing n h = cc
never_held p n h = cc

-- ---- records under way

own_install : (k : Key) (p : Phase) (q : Key) (n : Endpoint) (rs : List MachineRecord) → from_owner k p ≡ Install q n ∷ rs → (((m : Bool) × (p ≡ Proposed m n)) ⊎ (p ≡ GivenUp n)) × (rs ≡ [])
own_install k (Proposed m e) q n rs h = (inl (m, (cc)), (cc))
own_install k (GivenUp e) q n rs h = (inr (cc), (cc))
own_install k p q n rs h = absurd (cc)

no_install : (k : Key) (p : Phase) (q : Key) (n : Endpoint) (rs : List MachineRecord) → to_owner k p ≡ Install q n ∷ rs → ⊥
no_install k Nothing q n rs h = cc
no_install k p q n rs h = cc

pub when_install : (own : Bool) (k : Key) (p : Phase) (q : Key) (n : Endpoint) (rs : List MachineRecord) → flight_at own k p ≡ Install q n ∷ rs → (own ≡ true) × ((((m : Bool) × (p ≡ Proposed m n)) ⊎ (p ≡ GivenUp n)) × (rs ≡ []))
when_install true k p q n rs h = (refl, own_install k p q n rs h)
when_install false k p q n rs h = absurd (no_install k p q n rs h)

own_tell : (k : Key) (p : Phase) (q : Key) (n : Endpoint) (rs : List MachineRecord) → from_owner k p ≡ Tell q n ∷ rs → (p ≡ Told n) × (rs ≡ [])
own_tell k (Told e) q n rs h = ((cc), (cc))
own_tell k p q n rs h = absurd (cc)

no_tell : (k : Key) (p : Phase) (q : Key) (n : Endpoint) (rs : List MachineRecord) → to_owner k p ≡ Tell q n ∷ rs → ⊥
no_tell k Nothing q n rs h = cc
no_tell k p q n rs h = cc

pub when_tell : (own : Bool) (k : Key) (p : Phase) (q : Key) (n : Endpoint) (rs : List MachineRecord) → flight_at own k p ≡ Tell q n ∷ rs → (own ≡ true) × (p ≡ Told n) × (rs ≡ [])
when_tell true k p q n rs h = let x = own_tell k p q n rs h in (refl, x.0, x.1)
when_tell false k p q n rs h = absurd (no_tell k p q n rs h)

own_accept : (k : Key) (p : Phase) (q : Key) (rs : List MachineRecord) → to_owner k p ≡ Accept q ∷ rs → (m : Bool) × (e : Endpoint) × (p ≡ Accepted m e) × (rs ≡ [])
own_accept k (Accepted m e) q rs h = (m, e, refl, (cc))
own_accept k p q rs h = absurd (cc)

no_accept : (k : Key) (p : Phase) (q : Key) (rs : List MachineRecord) → from_owner k p ≡ Accept q ∷ rs → ⊥
no_accept k Nothing q rs h = cc
no_accept k p q rs h = cc

pub when_accept : (own : Bool) (k : Key) (p : Phase) (q : Key) (rs : List MachineRecord) → flight_at own k p ≡ Accept q ∷ rs → (own ≡ false) × ((m : Bool) × (e : Endpoint) × (p ≡ Accepted m e) × (rs ≡ []))
when_accept true k p q rs h = absurd (no_accept k p q rs h)
when_accept false k p q rs h = (refl, own_accept k p q rs h)

own_refuse : (k : Key) (p : Phase) (q : Key) (rs : List MachineRecord) → to_owner k p ≡ Refuse q ∷ rs → (e : Endpoint) × (((m : Bool) × (p ≡ Refused m e)) ⊎ (p ≡ GivenUpRefused e)) × (rs ≡ [])
own_refuse k (Refused m e) q rs h = (e, inl (m, refl), (cc))
own_refuse k (GivenUpRefused e) q rs h = (e, inr refl, (cc))
own_refuse k p q rs h = absurd (cc)

no_refuse : (k : Key) (p : Phase) (q : Key) (rs : List MachineRecord) → from_owner k p ≡ Refuse q ∷ rs → ⊥
no_refuse k Nothing q rs h = cc
no_refuse k p q rs h = cc

pub when_refuse : (own : Bool) (k : Key) (p : Phase) (q : Key) (rs : List MachineRecord) → flight_at own k p ≡ Refuse q ∷ rs → (own ≡ false) × ((e : Endpoint) × (((m : Bool) × (p ≡ Refused m e)) ⊎ (p ≡ GivenUpRefused e)) × (rs ≡ []))
when_refuse true k p q rs h = absurd (no_refuse k p q rs h)
when_refuse false k p q rs h = (refl, own_refuse k p q rs h)

own_ask : (k : Key) (p : Phase) (q : Key) (rs : List MachineRecord) → from_owner k p ≡ Ask q ∷ rs → (m : Bool) × (e : Endpoint) × (p ≡ Asked m e) × (rs ≡ [])
own_ask k (Asked m e) q rs h = (m, e, refl, (cc))
own_ask k p q rs h = absurd (cc)

no_ask : (k : Key) (p : Phase) (q : Key) (rs : List MachineRecord) → to_owner k p ≡ Ask q ∷ rs → ⊥
no_ask k Nothing q rs h = cc
no_ask k p q rs h = cc

pub when_ask : (own : Bool) (k : Key) (p : Phase) (q : Key) (rs : List MachineRecord) → flight_at own k p ≡ Ask q ∷ rs → (own ≡ true) × ((m : Bool) × (e : Endpoint) × (p ≡ Asked m e) × (rs ≡ []))
when_ask true k p q rs h = (refl, own_ask k p q rs h)
when_ask false k p q rs h = absurd (no_ask k p q rs h)

own_yes : (k : Key) (p : Phase) (q : Key) (rs : List MachineRecord) → to_owner k p ≡ Yes q ∷ rs → (m : Bool) × (e : Endpoint) × (p ≡ Leaving m e) × (rs ≡ [])
own_yes k (Leaving m e) q rs h = (m, e, refl, (cc))
own_yes k p q rs h = absurd (cc)

no_yes : (k : Key) (p : Phase) (q : Key) (rs : List MachineRecord) → from_owner k p ≡ Yes q ∷ rs → ⊥
no_yes k Nothing q rs h = cc
no_yes k p q rs h = cc

pub when_yes : (own : Bool) (k : Key) (p : Phase) (q : Key) (rs : List MachineRecord) → flight_at own k p ≡ Yes q ∷ rs → (own ≡ false) × ((m : Bool) × (e : Endpoint) × (p ≡ Leaving m e) × (rs ≡ []))
when_yes true k p q rs h = absurd (no_yes k p q rs h)
when_yes false k p q rs h = (refl, own_yes k p q rs h)

own_no : (k : Key) (p : Phase) (q : Key) (rs : List MachineRecord) → to_owner k p ≡ No q ∷ rs → (m : Bool) × (e : Endpoint) × (p ≡ Staying m e) × (rs ≡ [])
own_no k (Staying m e) q rs h = (m, e, refl, (cc))
own_no k p q rs h = absurd (cc)

no_no : (k : Key) (p : Phase) (q : Key) (rs : List MachineRecord) → from_owner k p ≡ No q ∷ rs → ⊥
no_no k Nothing q rs h = cc
no_no k p q rs h = cc

pub when_no : (own : Bool) (k : Key) (p : Phase) (q : Key) (rs : List MachineRecord) → flight_at own k p ≡ No q ∷ rs → (own ≡ false) × ((m : Bool) × (e : Endpoint) × (p ≡ Staying m e) × (rs ≡ []))
when_no true k p q rs h = absurd (no_no k p q rs h)
when_no false k p q rs h = (refl, own_no k p q rs h)

-- ---- slots

pub translated_held : (s : Slot) (n : Endpoint) → translated s ≡ Some n → held s ≡ Some n
translated_held (Pending true e) n h = h
translated_held (Pending false e) n h = absurd (cc)
translated_held (Live e) n h = h
translated_held (Closing true e) n h = h
translated_held (Closing false e) n h = absurd (cc)
translated_held (Held e) n h = h
translated_held (Alone e) n h = h
translated_held Free n h = absurd (cc)
translated_held (Doomed e) n h = absurd (cc)

pub alone_held : (s : Slot) (n : Endpoint) → alone_in s ≡ Some n → held s ≡ Some n
alone_held (Pending true e) n h = h
alone_held (Pending false e) n h = absurd (cc)
alone_held (Live e) n h = absurd (cc)
alone_held (Closing true e) n h = h
alone_held (Closing false e) n h = absurd (cc)
alone_held (Held e) n h = absurd (cc)
alone_held (Alone e) n h = h
alone_held Free n h = absurd (cc)
alone_held (Doomed e) n h = absurd (cc)

pub alone_translated : (s : Slot) (n : Endpoint) → alone_in s ≡ Some n → translated s ≡ Some n
alone_translated (Pending true e) n h = h
alone_translated (Pending false e) n h = absurd (cc)
alone_translated (Live e) n h = absurd (cc)
alone_translated (Closing true e) n h = h
alone_translated (Closing false e) n h = absurd (cc)
alone_translated (Held e) n h = absurd (cc)
alone_translated (Alone e) n h = h
alone_translated Free n h = absurd (cc)
alone_translated (Doomed e) n h = absurd (cc)

-- a pair that translates is Live, Held, or one that its gateway has alone or marked
pub translated_cases : (s : Slot) (n : Endpoint) → translated s ≡ Some n → (s ≡ Live n) ⊎ ((s ≡ Held n) ⊎ (alone_in s ≡ Some n))
translated_cases (Pending true e) n h = inr (inr h)
translated_cases (Pending false e) n h = absurd (cc)
translated_cases (Live e) n h = inl (cc)
translated_cases (Closing true e) n h = inr (inr h)
translated_cases (Closing false e) n h = absurd (cc)
translated_cases (Held e) n h = inr (inl (cc))
translated_cases (Alone e) n h = inr (inr h)
translated_cases Free n h = absurd (cc)
translated_cases (Doomed e) n h = absurd (cc)

-- a pair that translates isn't one that its gateway has let go
pub translated_open : (s : Slot) (n : Endpoint) → translated s ≡ Some n → closed_in s ≡ None
translated_open (Pending true e) n h = refl
translated_open (Pending false e) n h = refl
translated_open (Live e) n h = refl
translated_open (Closing true e) n h = refl
translated_open (Closing false e) n h = absurd (cc)
translated_open (Held e) n h = refl
translated_open (Alone e) n h = refl
translated_open Free n h = refl
translated_open (Doomed e) n h = refl

held-mark : (s : Slot) → held (mark s) ≡ held s
held-mark Free = refl
held-mark (Pending m e) = refl
held-mark (Doomed e) = refl
held-mark (Live e) = refl
held-mark (Closing m e) = refl
held-mark (Held e) = refl
held-mark (Alone e) = refl

-- ---- phases

pub shared_named : (p : Phase) (n : Endpoint) → shared p ≡ Some n → named p ≡ Some n
shared_named (Accepted m e) n h = h
shared_named (Shared e) n h = h
shared_named (Asked m e) n h = h
shared_named (Staying m e) n h = h
shared_named p n h = absurd (cc)

pub single_named : (p : Phase) (n : Endpoint) → single p ≡ Some n → named p ≡ Some n
single_named p n h = alone_held (owner_slot p) n h

pub held_named : (own : Bool) (p : Phase) (n : Endpoint) → held (slot_at own p) ≡ Some n → named p ≡ Some n
held_named true p n h = h
held_named false p n h = shared_named p n h

pub shared_slot : (own : Bool) (p : Phase) (n : Endpoint) → shared p ≡ Some n → held (slot_at own p) ≡ Some n
shared_slot true p n h = shared_named p n h
shared_slot false p n h = h

first_cases : (o q : Option Endpoint) (n : Endpoint) → first_of o q ≡ Some n → (o ≡ Some n) ⊎ ((o ≡ None) × (q ≡ Some n))
first_cases None q n h = inr (refl, h)
first_cases (Some e) q n h = inl h

counted : (b : Bool) (o : Option Endpoint) (n : Endpoint) → cond b o None ≡ Some n → (b ≡ true) × (o ≡ Some n)
counted true o n h = (refl, h)
counted false o n h = absurd (cc)

-- a pair that may be open is held by both, or its owner, which is synced, has it alone or marked
pub covered_cases : (b : Bool) (p : Phase) (n : Endpoint) → covered b p ≡ Some n → (shared p ≡ Some n) ⊎ ((shared p ≡ None) × (b ≡ true) × (single p ≡ Some n))
covered_cases b p n h = elim (first_cases (shared p) (cond b (single p) None) n h) [ inl a ↦ inl a | inr a ↦ (let x = counted b (single p) n a.1 in inr (a.0, x.0, x.1)) ]

pub covered_named : (b : Bool) (p : Phase) (n : Endpoint) → covered b p ≡ Some n → named p ≡ Some n
covered_named b p n h = elim (covered_cases b p n h) [ inl a ↦ shared_named p n a | inr a ↦ single_named p n a.2 ]

pub covered_shared : (b : Bool) (p : Phase) (n : Endpoint) → shared p ≡ Some n → covered b p ≡ Some n
covered_shared b p n h = ap (λ o. first_of o (cond b (single p) None)) h

pub covered_single : (b : Bool) (p : Phase) (n : Endpoint) → b ≡ true → single p ≡ Some n → covered b p ≡ Some n
covered_single b p n hb h = elim (some_or_none (shared p)) [
  | inl none ↦ ap (λ o. first_of o (cond b (single p) None)) none ∙ ap (λ c. cond c (single p) None) hb ∙ h
  | inr some ↦ covered_shared b p n (some.1 ∙ sym (shared_named p some.0 some.1) ∙ single_named p n h)
]

-- what may be open while the owner isn't synced may be open while it is
pub covered_more : (b : Bool) (p : Phase) (n : Endpoint) → covered false p ≡ Some n → covered b p ≡ Some n
covered_more b p n h = elim (covered_cases false p n h) [ inl a ↦ covered_shared b p n a | inr a ↦ absurd (let bad : false ≡ true = a.1 in cc) ]

-- a pair that translates at one gateway may be open, where that gateway is synced
pub translated_covered : (own : Bool) (b : Bool) (p : Phase) (n : Endpoint) → (own ≡ true → b ≡ true) → translated (slot_at own p) ≡ Some n → covered b p ≡ Some n
translated_covered true b p n counts h = elim (translated_cases (owner_slot p) n h) [
  | inl live ↦ covered_shared b p n (ap shared (when_live p n live))
  | inr more ↦ elim more [ inl bad ↦ absurd (never_held p n bad) | inr alone ↦ covered_single b p n (counts refl) alone ]
]
translated_covered false b p n counts h = covered_shared b p n (translated_held (other_slot p) n h)

-- a pair that its owner alone has is one that it has alone or marked
pub closing_named : (p : Phase) (n : Endpoint) → closing p ≡ Some n → single p ≡ None
closing_named p n h = at (owner_slot p) h
  where
    at : (s : Slot) → closed_in s ≡ Some n → alone_in s ≡ None
    at (Pending m e) h = absurd (cc)
    at (Live e) h = absurd (cc)
    at (Closing true e) h = absurd (cc)
    at (Closing false e) h = refl
    at (Held e) h = absurd (cc)
    at (Alone e) h = absurd (cc)
    at Free h = absurd (cc)
    at (Doomed e) h = absurd (cc)

-- ---- what steps of a phase leave

pub named-refuse : (p : Phase) → named (refuse p) ≡ named p
named-refuse (Proposed m e) = refl
named-refuse (GivenUp e) = refl
named-refuse p = refl

pub shared-refuse : (p : Phase) → shared (refuse p) ≡ shared p
shared-refuse (Proposed m e) = refl
shared-refuse (GivenUp e) = refl
shared-refuse p = refl

pub owner-refuse : (p : Phase) → owner_slot (refuse p) ≡ owner_slot p
owner-refuse (Proposed m e) = refl
owner-refuse (GivenUp e) = refl
owner-refuse p = refl

pub owner-accept : (p : Phase) → owner_slot (accept p) ≡ owner_slot p
owner-accept (Proposed m e) = refl
owner-accept p = refl

pub owner-leave : (p : Phase) → owner_slot (leave p) ≡ owner_slot p
owner-leave (Asked m e) = refl
owner-leave p = refl

pub owner-stay : (p : Phase) → owner_slot (stay p) ≡ owner_slot p
owner-stay (Asked m e) = refl
owner-stay p = refl

pub shared-stay : (p : Phase) → shared (stay p) ≡ shared p
shared-stay (Asked m e) = refl
shared-stay p = refl

pub owner-apart : (p : Phase) → owner_slot (set_apart p) ≡ mark (owner_slot p)
owner-apart Nothing = refl
owner-apart p = refl

pub other-apart : (p : Phase) → other_slot (set_apart p) ≡ other_slot p
other-apart Nothing = refl
other-apart p = refl

pub named-apart : (p : Phase) → named (set_apart p) ≡ named p
named-apart p = ap held (owner-apart p) ∙ held-mark (owner_slot p)

pub flight-apart : (own : Bool) (k : Key) (p : Phase) → flight_at own k (set_apart p) ≡ flight_at own k p
flight-apart true k p = at p
  where
    at : (x : Phase) → from_owner k (set_apart x) ≡ from_owner k x
    at Nothing = refl
    at x = refl
flight-apart false k p = at p
  where
    at : (x : Phase) → to_owner k (set_apart x) ≡ to_owner k x
    at Nothing = refl
    at x = refl

pub accepted-apart : (p : Phase) → accepted (set_apart p) ≡ accepted p
accepted-apart Nothing = refl
accepted-apart p = refl

pub given-apart : (p : Phase) → is_given_up (set_apart p) ≡ is_given_up p
given-apart Nothing = refl
given-apart p = refl

-- no phase is accepted and unmarked after it is set apart
pub never_accepted : (p : Phase) (n : Endpoint) → set_apart p ≡ Accepted false n → ⊥
never_accepted Nothing n h = cc
never_accepted p n h = cc

-- no phase is given up that wasn't
pub never_given : (p : Phase) (n : Endpoint) → set_apart p ≡ GivenUp n → p ≡ GivenUp n
never_given Nothing n h = absurd (cc)
never_given p n h = cc

-- a marked slot is one that its gateway has marked
pub marked_alone : (s : Slot) (n : Endpoint) → (s ≡ Pending false n) ⊎ (s ≡ Closing false n) → (alone_in (mark s) ≡ Some n) × (held s ≡ Some n) × (translated s ≡ None) × (alone_in s ≡ None)
marked_alone s n (inl h) = (ap (λ x. alone_in (mark x)) h, ap held h, ap translated h, ap alone_in h)
marked_alone s n (inr h) = (ap (λ x. alone_in (mark x)) h, ap held h, ap translated h, ap alone_in h)

-- a slot that its gateway has alone or marked translates when it is marked
pub mark-closed : (s : Slot) → closed_in (mark s) ≡ None
mark-closed Free = refl
mark-closed (Pending m e) = refl
mark-closed (Doomed e) = refl
mark-closed (Live e) = refl
mark-closed (Closing m e) = refl
mark-closed (Held e) = refl
mark-closed (Alone e) = refl

alone-mark : (s : Slot) (n : Endpoint) → alone_in s ≡ Some n → alone_in (mark s) ≡ Some n
alone-mark (Pending true e) n h = h
alone-mark (Pending false e) n h = absurd (cc)
alone-mark (Live e) n h = absurd (cc)
alone-mark (Closing true e) n h = h
alone-mark (Closing false e) n h = absurd (cc)
alone-mark (Held e) n h = absurd (cc)
alone-mark (Alone e) n h = h
alone-mark Free n h = absurd (cc)
alone-mark (Doomed e) n h = absurd (cc)

-- ---- what may be open after a step of a phase

pub covered_apart : (b : Bool) (p : Phase) (n : Endpoint) → covered b p ≡ Some n → covered b (set_apart p) ≡ Some n
covered_apart b p n h = elim (covered_cases b p n h) [
  | inl a ↦ covered_shared b (set_apart p) n (ap held (other-apart p) ∙ a)
  | inr a ↦ covered_single b (set_apart p) n a.1 (ap alone_in (owner-apart p) ∙ alone-mark (owner_slot p) n a.2)
]

pub covered_accept : (b : Bool) (p : Phase) (n : Endpoint) → covered b p ≡ Some n → covered b (accept p) ≡ Some n
covered_accept b (Proposed m e) n h = covered_shared b (Accepted m e) n (covered_named b (Proposed m e) n h)
covered_accept b p n h = h

pub covered_refuse : (b : Bool) (p : Phase) (n : Endpoint) → covered b p ≡ Some n → covered b (refuse p) ≡ Some n
covered_refuse b (Proposed m e) n h = h
covered_refuse b p n h = h

pub covered_stay : (b : Bool) (p : Phase) (n : Endpoint) → covered b p ≡ Some n → covered b (stay p) ≡ Some n
covered_stay b (Asked m e) n h = h
covered_stay b p n h = h

-- nothing is open that one gateway alone has, not marked
pub uncovered : (b : Bool) (p : Phase) (n : Endpoint) → shared p ≡ None → single p ≡ None → covered b p ≡ Some n → ⊥
uncovered b p n none_shared none_single h = elim (covered_cases b p n h) [
  | inl a ↦ none_some (shared p) n none_shared a
  | inr a ↦ none_some (single p) n none_single a.2
]

pub covered_given : (b : Bool) (p : Phase) (e n : Endpoint) → owner_slot p ≡ Pending false e → covered b p ≡ Some n → covered b (give_up p) ≡ Some n
covered_given b (Proposed m x) e n own h = absurd (uncovered b (Proposed m x) n refl (ap alone_in own) h)
covered_given b (Refused m x) e n own h = absurd (uncovered b (Refused m x) n refl (ap alone_in own) h)
covered_given b p e n own h = h

pub named-give_up : (p : Phase) (n : Endpoint) → named (give_up p) ≡ Some n → named p ≡ Some n
named-give_up (Proposed m e) n h = absurd (cc)
named-give_up (Refused m e) n h = absurd (cc)
named-give_up p n h = h

pub shared-give_up : (p : Phase) → shared (give_up p) ≡ shared p
shared-give_up (Proposed m e) = refl
shared-give_up (Refused m e) = refl
shared-give_up p = refl

pub closing-give_up : (p : Phase) → closing (give_up p) ≡ closing p
closing-give_up (Proposed m e) = refl
closing-give_up (Refused m e) = refl
closing-give_up p = refl

pub single-give_up : (p : Phase) (n : Endpoint) → single (give_up p) ≡ Some n → single p ≡ Some n
single-give_up (Proposed m e) n h = absurd (cc)
single-give_up (Refused m e) n h = absurd (cc)
single-give_up p n h = h

pub shared-leave : (p : Phase) (n : Endpoint) → shared (leave p) ≡ Some n → shared p ≡ Some n
shared-leave (Asked m e) n h = absurd (cc)
shared-leave p n h = h
