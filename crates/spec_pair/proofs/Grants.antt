-- Where the ports are, kept through deeds, and whose each key is by the ghost owner. The ghost
-- owner of a key is the gateway that the proofs take for its owner, also while its port is on its
-- way.
use Rattle.std.proofs.Common.{◌≡◌, ℕ, Bool, true, false, not, List, [], ◌∷◌, ◌++◌, ◌+◌, refl, sym, ap, ◌∙◌, inl, inr, arith}
use Rattle.std.proofs.lemmas.Bool.{both_ways, cases_Bool}
use Rattle.nat_types.specs.Same.{other}
use Rattle.nat_types.specs.declared.gateways.GatewayId.{GatewayId}
use Rattle.nat_types.specs.declared.pairs.Key.{Key}
use Rattle.spec_pair.proofs.Invariant.{is_proper, bit, gifts, wants_in, grants_in, Whereabouts}
use Rattle.spec_pair.proofs.Phase.{owns, MayDoOwned, Phase, Nothing, Proposed, Told, Accepted, Refused, Asked, Shared, Apart, refuse, accept, give_up, set_apart, leave, stay, slot_at, owner_slot, other_slot, flight_at, Matches, Talks, phase_after}
use Rattle.spec_pair.specs.Ownership.{Ranges, keyed}
use Rattle.spec_pair.specs.Talk.{Slot, Free, Pending, Doomed, Live, Closing, Alone, MachineRecord, Install, Accept, Refuse, Ask, Yes, No, Begin, Put, Done, Want, Grant, Owner, Tell, is_on, on, set_at, Deed, Propose, Close, Use, Mark, MakeAlone, Report, DropAlone, Agree, Yield, Reject, Adopt, Decline, Agreed, Rejected, Rebuffed, Leave, Stay, Left, Parted, Stayed, Pass, Skip, MayDo, IsLost, taken_by, pushed_by}
use Rattle.spec_pair.proofs.HandOver.{free_at, none_at}
use Rattle.spec_pair.proofs.Set.{set_other, on_here, other-owns, cases_key}
use Rattle.spec_pair.proofs.Turned.{self}

pub gifts-append : (p : ℕ) (xs ys : List MachineRecord) → gifts p (xs ++ ys) ≡ gifts p xs + gifts p ys
gifts-append p [] ys = omega arith
gifts-append p (x ∷ xs) ys = let h : gifts p (xs ++ ys) ≡ gifts p xs + gifts p ys = gifts-append p xs ys in omega arith

pub wants-append : (xs ys : List MachineRecord) → wants_in (xs ++ ys) ≡ wants_in xs + wants_in ys
wants-append [] ys = omega arith
wants-append (x ∷ xs) ys = let h : wants_in (xs ++ ys) ≡ wants_in xs + wants_in ys = wants-append xs ys in omega arith

pub grants-append : (xs ys : List MachineRecord) → grants_in (xs ++ ys) ≡ grants_in xs + grants_in ys
grants-append [] ys = omega arith
grants-append (x ∷ xs) ys = let h : grants_in (xs ++ ys) ≡ grants_in xs + grants_in ys = grants-append xs ys in omega arith

-- the records are neither Wants nor Grants
abbrev pub Quiet : List MachineRecord → Type 0
Quiet rs = ((p : ℕ) → gifts p rs ≡ 0) × (wants_in rs ≡ 0) × (grants_in rs ≡ 0)

pub pushed_quiet : (d : Deed) → Quiet (pushed_by d)
pushed_quiet (Propose k e) = (λ p. refl, refl, refl)
pushed_quiet (Close k e) = (λ p. refl, refl, refl)
pushed_quiet (Use k e counts) = (λ p. refl, refl, refl)
pushed_quiet (Mark k e) = (λ p. refl, refl, refl)
pushed_quiet (MakeAlone k e) = (λ p. refl, refl, refl)
pushed_quiet (Report k e) = (λ p. refl, refl, refl)
pushed_quiet (DropAlone k e) = (λ p. refl, refl, refl)
pushed_quiet (Agree k e) = (λ p. refl, refl, refl)
pushed_quiet (Yield k e m) = (λ p. refl, refl, refl)
pushed_quiet (Reject k e) = (λ p. refl, refl, refl)
pushed_quiet (Adopt k e) = (λ p. refl, refl, refl)
pushed_quiet (Decline k e) = (λ p. refl, refl, refl)
pushed_quiet (Agreed k e) = (λ p. refl, refl, refl)
pushed_quiet (Rejected k) = (λ p. refl, refl, refl)
pushed_quiet (Rebuffed k e) = (λ p. refl, refl, refl)
pushed_quiet (Leave k e) = (λ p. refl, refl, refl)
pushed_quiet (Stay k e) = (λ p. refl, refl, refl)
pushed_quiet (Left k e) = (λ p. refl, refl, refl)
pushed_quiet (Parted k e) = (λ p. refl, refl, refl)
pushed_quiet (Stayed k e) = (λ p. refl, refl, refl)
pushed_quiet (Pass k) = (λ p. refl, refl, refl)
pushed_quiet (Skip x) = (λ p. refl, refl, refl)

lost_quiet : (own : Key → Bool) (table : Key → Slot) (x : MachineRecord) → IsLost own table x → Quiet (x ∷ [])
lost_quiet own table (Install k e) lost = absurd lost
lost_quiet own table (Accept k) lost = (λ p. refl, refl, refl)
lost_quiet own table (Refuse k) lost = (λ p. refl, refl, refl)
lost_quiet own table (Ask k) lost = absurd lost
lost_quiet own table (Yes k) lost = (λ p. refl, refl, refl)
lost_quiet own table (No k) lost = (λ p. refl, refl, refl)
lost_quiet own table Begin lost = (λ p. refl, refl, refl)
lost_quiet own table (Put k e) lost = (λ p. refl, refl, refl)
lost_quiet own table Done lost = (λ p. refl, refl, refl)
lost_quiet own table Want lost = absurd lost
lost_quiet own table (Grant ports) lost = absurd lost
lost_quiet own table (Owner first last) lost = (λ p. refl, refl, refl)
lost_quiet own table (Tell k e) lost = absurd lost

pub taken_quiet : (own : Key → Bool) (i : GatewayId) (table : Key → Slot) (d : Deed) → MayDo own i table d → Quiet (taken_by d)
taken_quiet own i table (Propose k e) may = (λ p. refl, refl, refl)
taken_quiet own i table (Close k e) may = (λ p. refl, refl, refl)
taken_quiet own i table (Use k e counts) may = (λ p. refl, refl, refl)
taken_quiet own i table (Mark k e) may = (λ p. refl, refl, refl)
taken_quiet own i table (MakeAlone k e) may = (λ p. refl, refl, refl)
taken_quiet own i table (Report k e) may = (λ p. refl, refl, refl)
taken_quiet own i table (DropAlone k e) may = (λ p. refl, refl, refl)
taken_quiet own i table (Agree k e) may = (λ p. refl, refl, refl)
taken_quiet own i table (Yield k e m) may = (λ p. refl, refl, refl)
taken_quiet own i table (Reject k e) may = (λ p. refl, refl, refl)
taken_quiet own i table (Adopt k e) may = (λ p. refl, refl, refl)
taken_quiet own i table (Decline k e) may = (λ p. refl, refl, refl)
taken_quiet own i table (Agreed k e) may = (λ p. refl, refl, refl)
taken_quiet own i table (Rejected k) may = (λ p. refl, refl, refl)
taken_quiet own i table (Rebuffed k e) may = (λ p. refl, refl, refl)
taken_quiet own i table (Leave k e) may = (λ p. refl, refl, refl)
taken_quiet own i table (Stay k e) may = (λ p. refl, refl, refl)
taken_quiet own i table (Left k e) may = (λ p. refl, refl, refl)
taken_quiet own i table (Parted k e) may = (λ p. refl, refl, refl)
taken_quiet own i table (Stayed k e) may = (λ p. refl, refl, refl)
taken_quiet own i table (Pass k) may = (λ p. refl, refl, refl)
taken_quiet own i table (Skip x) may = lost_quiet own table x may

-- a slot that follows from a phase is one that a gateway can have there
pub proper-phase : (own : Bool) (p : Phase) → is_proper own (slot_at own p) ≡ true
proper-phase true p = at p
  where
    at : (x : Phase) → is_proper true (owner_slot x) ≡ true
    at Nothing = refl
    at x = refl
proper-phase false p = at p
  where
    at : (x : Phase) → is_proper false (other_slot x) ≡ true
    at Nothing = refl
    at x = refl

-- What a gateway may do by the ports that it owns, it may do by the ghost owner of each key.
module _ (own own2 : Key → Bool) (table : Key → Slot) (proper : (k : Key) → is_proper (own2 k) (table k) ≡ true) (more : (k : Key) → own k ≡ true → own2 k ≡ true) (free : (k : Key) → own2 k ≡ true → own k ≡ false → table k ≡ Free) where
  lost_as : (x : MachineRecord) → IsLost own table x → IsLost own2 table x
  lost_as (Install k e) lost = lost
  lost_as (Accept k) lost = λ m e is pending. elim (cases_Bool (own k)) [ inl o ↦ lost m e o pending | inr o ↦ let bad : Free ≡ Pending m e = sym (free k is o) ∙ pending in cc ]
  lost_as (Refuse k) lost = λ m e is stands. elim (cases_Bool (own k)) [
    | inl o ↦ lost m e o stands
    | inr o ↦ elim stands [ inl p ↦ let bad : Free ≡ Pending m e = sym (free k is o) ∙ p in cc | inr p ↦ let bad : Free ≡ Doomed e = sym (free k is o) ∙ p in cc ]
  ]
  lost_as (Ask k) lost = lost
  lost_as (Yes k) lost = λ m e is closing. elim (cases_Bool (own k)) [ inl o ↦ lost m e o closing | inr o ↦ let bad : Free ≡ Closing m e = sym (free k is o) ∙ closing in cc ]
  lost_as (No k) lost = λ m e is closing. elim (cases_Bool (own k)) [ inl o ↦ lost m e o closing | inr o ↦ let bad : Free ≡ Closing m e = sym (free k is o) ∙ closing in cc ]
  lost_as Begin lost = lost
  lost_as (Put k e) lost = lost
  lost_as Done lost = lost
  lost_as Want lost = lost
  lost_as (Grant ports) lost = lost
  lost_as (Owner first last) lost = lost
  lost_as (Tell k e) lost = lost

  -- a slot of the table is one that the gateway can have at that key
  told_own : (k : Key) (x : Slot) → table k ≡ x → is_proper (own2 k) x ≡ true
  told_own k x h = ap (is_proper (own2 k)) (sym h) ∙ proper k

  pub may_as : (i : GatewayId) (d : Deed) → MayDo own i table d → MayDoOwned own2 i table d
  may_as i (Propose k e) may = (more k may.0, may.1, may.2)
  may_as i (Close k e) may = (told_own k (Live e) may, may)
  may_as i (Use k e counts) may = may
  may_as i (Mark k e) may = (elim may [ inl h ↦ told_own k (Pending false e) h | inr h ↦ told_own k (Closing false e) h ], may)
  may_as i (MakeAlone k e) may = (more k may.0, may.1, may.2)
  may_as i (Report k e) may = (told_own k (Alone e) may, may)
  may_as i (DropAlone k e) may = (told_own k (Alone e) may, may)
  may_as i (Agree k e) may = may
  may_as i (Yield k e m) may = (may.0, may.1, told_own m (Pending false e) may.2, may.2)
  may_as i (Reject k e) may = may
  may_as i (Adopt k e) may = may.0
  may_as i (Decline k e) may = may
  may_as i (Agreed k e) may = (told_own k (Pending may.0 e) may.1, may)
  may_as i (Rejected k) may = (elim may.1 [ inl h ↦ told_own k (Pending false may.0) h | inr h ↦ told_own k (Doomed may.0) h ], may)
  may_as i (Rebuffed k e) may = (told_own k (Pending true e) may, may)
  may_as i (Leave k e) may = may
  may_as i (Stay k e) may = may
  may_as i (Left k e) may = (told_own k (Closing false e) may, may)
  may_as i (Parted k e) may = (told_own k (Closing true e) may, may)
  may_as i (Stayed k e) may = (told_own k (Closing may.0 e) may.1, may)
  may_as i (Pass k) may = may
  may_as i (Skip x) may = lost_as x may

-- a deed changes no port that the actor doesn't own and at which there is no entry
module _ (owner : Key → GatewayId) (own : Key → Bool) (i : GatewayId) (mine : Key → Slot) (out : List MachineRecord) (theirs : Key → Slot) (inn : List MachineRecord) (ph : Key → Phase) where
  stands : {A : Type 0} (k : Key) (x : MachineRecord) → Talks owner i mine out theirs (x ∷ inn) ph → is_on k x ≡ true → ph k ≡ Nothing → A
  stands k x t is none = let bad : x ∷ on k inn ≡ [] = sym (on_here k x inn is) ∙ t.there.flights k ∙ ap (flight_at (owns owner (other i) k) k) none ∙ none_at (owns owner (other i) k) k in absurd (cc)

  not_own : {A : Type 0} (k q : Key) → k ≡ q → own k ≡ true → own q ≡ false → A
  not_own k q e h g = absurd (both_ways (own q) g (ap own (sym e) ∙ h))

  free_there : (k q : Key) → k ≡ q → {ts : List MachineRecord} → Talks owner i mine out theirs ts ph → ph q ≡ Nothing → mine k ≡ Free
  free_there k q e t none = ap mine e ∙ t.here.slots q ∙ ap (slot_at (owns owner i q)) none ∙ free_at (owns owner i q)

  pub stays_idle : (d : Deed) → Talks owner i mine out theirs (taken_by d ++ inn) ph → MayDo own i mine d → (q : Key) → own q ≡ false → ph q ≡ Nothing → phase_after ph d q ≡ Nothing
  stays_idle (Propose k e) t may q off none = elim (cases_key k q) [ inl e1 ↦ not_own k q e1 may.0 off | inr ne ↦ set_other ph k (Proposed false e) q ne ∙ none ]
  stays_idle (Close k e) t may q off none = elim (cases_key k q) [ inl e1 ↦ (let bad : Free ≡ Live e = sym (free_there k q e1 t none) ∙ may in absurd (cc)) | inr ne ↦ set_other ph k (Asked false e) q ne ∙ none ]
  stays_idle (Use k e counts) t may q off none = none
  stays_idle (Mark k e) t may q off none = elim (cases_key k q) [
    | inl e1 ↦ elim may [ inl h ↦ (let bad : Free ≡ Pending false e = sym (free_there k q e1 t none) ∙ h in absurd (cc)) | inr h ↦ (let bad : Free ≡ Closing false e = sym (free_there k q e1 t none) ∙ h in absurd (cc)) ]
    | inr ne ↦ set_other ph k (set_apart (ph k)) q ne ∙ none
  ]
  stays_idle (MakeAlone k e) t may q off none = elim (cases_key k q) [ inl e1 ↦ not_own k q e1 may.0 off | inr ne ↦ set_other ph k (Apart e) q ne ∙ none ]
  stays_idle (Report k e) t may q off none = elim (cases_key k q) [ inl e1 ↦ (let bad : Free ≡ Alone e = sym (free_there k q e1 t none) ∙ may in absurd (cc)) | inr ne ↦ set_other ph k (Told e) q ne ∙ none ]
  stays_idle (DropAlone k e) t may q off none = elim (cases_key k q) [ inl e1 ↦ (let bad : Free ≡ Alone e = sym (free_there k q e1 t none) ∙ may in absurd (cc)) | inr ne ↦ set_other ph k (Nothing) q ne ∙ none ]
  stays_idle (Agree k e) t may q off none = elim (cases_key k q) [ inl e1 ↦ stands k (Install k e) t (self owner k) (ap ph e1 ∙ none) | inr ne ↦ set_other ph k (accept (ph k)) q ne ∙ none ]
  stays_idle (Yield k e m) t may q off none = elim (cases_key k q) [
    | inl e1 ↦ stands k (Install k e) t (self owner k) (ap ph e1 ∙ none)
    | inr ne ↦ set_other (set_at ph m (give_up (ph m))) k (accept (ph k)) q ne ∙ elim (cases_key m q) [ inl e2 ↦ (let bad : Free ≡ Pending false e = sym (free_there m q e2 t none) ∙ may.2 in absurd (cc)) | inr nm ↦ set_other ph m (give_up (ph m)) q nm ∙ none ]
  ]
  stays_idle (Reject k e) t may q off none = elim (cases_key k q) [ inl e1 ↦ stands k (Install k e) t (self owner k) (ap ph e1 ∙ none) | inr ne ↦ set_other ph k (refuse (ph k)) q ne ∙ none ]
  stays_idle (Adopt k e) t may q off none = elim (cases_key k q) [ inl e1 ↦ stands k (Tell k e) t (self owner k) (ap ph e1 ∙ none) | inr ne ↦ set_other ph k (Accepted true e) q ne ∙ none ]
  stays_idle (Decline k e) t may q off none = elim (cases_key k q) [ inl e1 ↦ stands k (Tell k e) t (self owner k) (ap ph e1 ∙ none) | inr ne ↦ set_other ph k (Refused true e) q ne ∙ none ]
  stays_idle (Agreed k e) t may q off none = elim (cases_key k q) [ inl e1 ↦ stands k (Accept k) t (self owner k) (ap ph e1 ∙ none) | inr ne ↦ set_other ph k (Shared e) q ne ∙ none ]
  stays_idle (Rejected k) t may q off none = elim (cases_key k q) [ inl e1 ↦ stands k (Refuse k) t (self owner k) (ap ph e1 ∙ none) | inr ne ↦ set_other ph k (Nothing) q ne ∙ none ]
  stays_idle (Rebuffed k e) t may q off none = elim (cases_key k q) [ inl e1 ↦ stands k (Refuse k) t (self owner k) (ap ph e1 ∙ none) | inr ne ↦ set_other ph k (Apart e) q ne ∙ none ]
  stays_idle (Leave k e) t may q off none = elim (cases_key k q) [ inl e1 ↦ stands k (Ask k) t (self owner k) (ap ph e1 ∙ none) | inr ne ↦ set_other ph k (leave (ph k)) q ne ∙ none ]
  stays_idle (Stay k e) t may q off none = elim (cases_key k q) [ inl e1 ↦ stands k (Ask k) t (self owner k) (ap ph e1 ∙ none) | inr ne ↦ set_other ph k (stay (ph k)) q ne ∙ none ]
  stays_idle (Left k e) t may q off none = elim (cases_key k q) [ inl e1 ↦ stands k (Yes k) t (self owner k) (ap ph e1 ∙ none) | inr ne ↦ set_other ph k (Nothing) q ne ∙ none ]
  stays_idle (Parted k e) t may q off none = elim (cases_key k q) [ inl e1 ↦ stands k (Yes k) t (self owner k) (ap ph e1 ∙ none) | inr ne ↦ set_other ph k (Apart e) q ne ∙ none ]
  stays_idle (Stayed k e) t may q off none = elim (cases_key k q) [ inl e1 ↦ stands k (No k) t (self owner k) (ap ph e1 ∙ none) | inr ne ↦ set_other ph k (Shared e) q ne ∙ none ]
  stays_idle (Pass k) t may q off none = none
  stays_idle (Skip x) t may q off none = none

module _ (r : Ranges) where
  -- where the ghost owner of a key is the actor, though it doesn't own the port, there is no entry
  pub ghost_free : (i : GatewayId) (ph : Key → Phase) (owner : Key → GatewayId) (mine theirs : ℕ → Bool) (want want2 : Bool) (table : Key → Slot) (out inn : List MachineRecord) → Whereabouts r i ph owner mine theirs want want2 out inn → Matches owner ph i table out
      → (k : Key) → owns owner i k ≡ true → keyed mine k ≡ false → table k ≡ Free
  ghost_free i ph owner mine theirs want want2 table out inn p m k is off = elim (cases_Bool (keyed theirs k)) [
    | inl h ↦ absurd (both_ways (owns owner i k) (p.theirs_is k h) is)
    | inr h ↦ m.slots k ∙ ap (slot_at (owns owner i k)) (p.nobody k off h) ∙ free_at (owns owner i k)
  ]

  pub ports_deed : (i : GatewayId) (ph : Key → Phase) (owner : Key → GatewayId) (mine theirs : ℕ → Bool) (want want2 : Bool) (table table2 : Key → Slot) (out inn2 : List MachineRecord) (d : Deed) → Talks owner i table out table2 (taken_by d ++ inn2) ph → MayDo (keyed mine) i table d
      → Whereabouts r i ph owner mine theirs want want2 out (taken_by d ++ inn2) → Whereabouts r i (phase_after ph d) owner mine theirs want want2 (out ++ pushed_by d) inn2
  ports_deed i ph owner mine theirs want want2 table table2 out inn2 d t may x =
      let q : Quiet (pushed_by d) = pushed_quiet d in
      let z : Quiet (taken_by d) = taken_quiet (keyed mine) i table d may in
      record {
        mine_is = x.mine_is;
        theirs_is = x.theirs_is;
        nobody = λ k a b. stays_idle owner (keyed mine) i table out table2 inn2 ph d t may k a (x.nobody k a b);
        places = λ p.
            let h : bit (mine p) + (bit (theirs p) + (gifts p out + gifts p (taken_by d ++ inn2))) ≡ bit (r.in_ranges p) = x.places p in
            let a : gifts p (out ++ pushed_by d) ≡ gifts p out + gifts p (pushed_by d) = gifts-append p out (pushed_by d) in
            let b : gifts p (taken_by d ++ inn2) ≡ gifts p (taken_by d) + gifts p inn2 = gifts-append p (taken_by d) inn2 in
            let c : gifts p (pushed_by d) ≡ 0 = q.0 p in
            let e : gifts p (taken_by d) ≡ 0 = z.0 p in
            omega arith;
        my_want =
            (let h : wants_in out + grants_in (taken_by d ++ inn2) ≡ bit want = x.my_want in
            let a : wants_in (out ++ pushed_by d) ≡ wants_in out + wants_in (pushed_by d) = wants-append out (pushed_by d) in
            let b : grants_in (taken_by d ++ inn2) ≡ grants_in (taken_by d) + grants_in inn2 = grants-append (taken_by d) inn2 in
            let c : wants_in (pushed_by d) ≡ 0 = q.1 in
            let e : grants_in (taken_by d) ≡ 0 = z.2 in
            omega arith);
        their_wants =
            (let h : wants_in (taken_by d ++ inn2) + grants_in out ≡ bit want2 = x.their_wants in
            let a : grants_in (out ++ pushed_by d) ≡ grants_in out + grants_in (pushed_by d) = grants-append out (pushed_by d) in
            let b : wants_in (taken_by d ++ inn2) ≡ wants_in (taken_by d) + wants_in inn2 = wants-append (taken_by d) inn2 in
            let c : grants_in (pushed_by d) ≡ 0 = q.2 in
            let e : wants_in (taken_by d) ≡ 0 = z.1 in
            omega arith);
      }

  -- where the ports are, seen from the other gateway
  pub ports_flip : (i : GatewayId) (ph : Key → Phase) (owner : Key → GatewayId) (mine theirs theirs2 : ℕ → Bool) (want want2 want3 : Bool) (out inn : List MachineRecord) → ((p : ℕ) → theirs2 p ≡ theirs p) → want3 ≡ want2
      → Whereabouts r i ph owner mine theirs want want2 out inn → Whereabouts r (other i) ph owner theirs2 mine want3 want inn out
  ports_flip i ph owner mine theirs theirs2 want want2 want3 out inn same_ports same_want x = record {
    mine_is = λ k h. other-owns owner i k ∙ ap not (x.theirs_is k (sym (same_ports k.port.0) ∙ h));
    theirs_is = λ k h. other-owns owner i k ∙ ap not (x.mine_is k h);
    nobody = λ k a b. x.nobody k b (sym (same_ports k.port.0) ∙ a);
    places = λ p.
        let h : bit (mine p) + (bit (theirs p) + (gifts p out + gifts p inn)) ≡ bit (r.in_ranges p) = x.places p in
        let e : bit (theirs2 p) ≡ bit (theirs p) = ap bit (same_ports p) in
        omega arith;
    my_want = (let h : wants_in inn + grants_in out ≡ bit want2 = x.their_wants in let e : bit want3 ≡ bit want2 = ap bit same_want in omega arith);
    their_wants = x.my_want;
  }
