-- Each deed of a gateway keeps both tables and what is under way as the ports' phases say.
use Rattle.std.proofs.Common.{◌≡◌, Bool, true, false, not, List, [], ◌∷◌, ◌++◌, IsTrue, Some, None, refl, sym, ap, subst, ◌∙◌, inl, inr, ◌⊎◌, append-nil}
use Rattle.std.proofs.lemmas.Bool.{not-true, not-false}
use Rattle.nat_types.proofs.Offered.{same-eq}
use Rattle.nat_types.specs.Same.{other}
use Rattle.nat_types.specs.declared.gateways.GatewayId.{GatewayId}
use Rattle.nat_types.specs.declared.gateways.GatewayId.TheVariants.{Zero, One}
use Rattle.nat_types.specs.declared.pairs.Endpoint.{Endpoint}
use Rattle.nat_types.specs.declared.pairs.Key.{Key}
use Rattle.spec_pair.proofs.Phase.{owns, MayDoOwned, Phase, Nothing, Proposed, Told, Accepted, Refused, GivenUp, GivenUpRefused, Shared, Asked, Staying, Leaving, Apart, accepted, named, shared, owner_slot, is_given_up, slot_at, flight_at, has_accept, Excused, Matches, Talks, phase_after, refuse, accept, give_up, set_apart, leave, stay}
use Rattle.spec_pair.specs.Talk.{Slot, Free, Pending, Doomed, Live, Closing, Held, Alone, held, mark, MachineRecord, Install, Accept, Refuse, Ask, Yes, No, Begin, Put, Done, Want, Grant, Owner, Tell, is_on, on, set_at, Deed, Propose, Close, Use, Mark, MakeAlone, Report, DropAlone, Agree, Yield, Reject, Adopt, Decline, Agreed, Rejected, Rebuffed, Leave, Stay, Left, Parted, Stayed, Pass, Skip, IsLost, taken_by, pushed_by, table_after}
use Rattle.spec_pair.specs.World.{after_act}
use Rattle.spec_pair.proofs.Excuses.{excused_give_up}
use Rattle.spec_pair.proofs.Inversions.{when_free, when_live, when_alone, when_pending, when_install, when_tell, when_accept, when_refuse, when_ask, when_yes, when_no, owner-apart, other-apart, named-apart, flight-apart, accepted-apart, given-apart, never_accepted, never_given, one_some}
use Rattle.spec_pair.proofs.Set.{set_same, set_other, on_here, on_elsewhere, other-owns, cases_key, apart_owns, alike_owns}
use Rattle.spec_pair.proofs.Turned.{side_set, side_stay, slot_is, flight_is, Room, one_set, beside_set, room_same, room_new, room_agreed, turned, self, apart, push_here, push_else}

module _ (owner : Key → GatewayId) where
  one_on : (k : Key) (r : MachineRecord) → is_on k r ≡ true → on k (r ∷ []) ≡ r ∷ []
  one_on k r e = on_here k r [] e

  none_on : (k : Key) (r : MachineRecord) → is_on k r ≡ false → on k (r ∷ []) ≡ []
  none_on k r e = on_elsewhere k r [] e

  which : (i : GatewayId) → (i ≡ Zero) ⊎ (i ≡ One)
  which Zero = inl refl
  which One = inr refl

  accepted_slot : (own : Bool) (p : Phase) (n : Endpoint) → accepted p ≡ Some n → held (slot_at own p) ≡ Some n
  accepted_slot true p n h = at p h
    where
      at : (x : Phase) → accepted x ≡ Some n → held (owner_slot x) ≡ Some n
      at (Accepted m e) h = h
      at x h = absurd (cc)
  accepted_slot false p n h = at p h
    where
      at : (x : Phase) → accepted x ≡ Some n → shared x ≡ Some n
      at (Accepted m e) h = h
      at x h = absurd (cc)

  both_flags : (b : Bool) → b ≡ true → b ≡ false → ⊥
  both_flags b h g = let bad : true ≡ false = sym h ∙ g in cc

  not_one : (i : GatewayId) → i ≡ Zero → i ≡ One → ⊥
  not_one i z o = let e : Zero ≡ One = sym z ∙ o in cc

  module _ (i : GatewayId) (mine : Key → Slot) (out : List MachineRecord) (theirs : Key → Slot) (inn : List MachineRecord) (ph : Key → Phase) where
    -- the actor changes the slot of its own port, and pushes one record about it or none
    own_turn : (k : Key) (before after_act : Phase) (s : Slot) (ps : List MachineRecord) → Talks owner i mine out theirs inn ph → owns owner i k ≡ true → ph k ≡ before
        → s ≡ slot_at true after_act → slot_at false before ≡ slot_at false after_act → flight_at true k before ++ on k ps ≡ flight_at true k after_act → ((q : Key) → (k ≡ q → ⊥) → on q ps ≡ []) → flight_at false k before ≡ flight_at false k after_act
        → ((n : Endpoint) → after_act ≡ GivenUp n → ⊥) → ((n : Endpoint) → accepted before ≡ Some n → (accepted after_act ≡ Some n) ⊎ (accepted after_act ≡ None)) → Room owner ph k after_act → (i ≡ One → Excused (set_at ph k after_act) ps) → (owner k ≡ Zero → is_given_up after_act ≡ false)
        → Talks owner i (set_at mine k s) (out ++ ps) theirs inn (set_at ph k after_act)
    own_turn k before after_act s ps t own now slot same_slot pushed pushed_else same_flight alive heard room xp z =
        turned owner i mine out theirs inn ph true k before after_act (set_at mine k s) [] ps t own now
        record {
          slot = set_same mine k s k refl ∙ slot;
          slots = λ q ne. set_other mine k s q ne;
          theirs = same_slot;
          pushed = pushed;
          pushed_else = pushed_else;
          left = flight_is owner ph (other i) theirs inn k false before t.there (other-owns owner i k ∙ ap not own) now ∙ same_flight;
          taken_else = λ q ne. refl;
          alive = alive;
          heard = heard;
        }
        room xp t.excused_in z

    free_phase : (k : Key) → Talks owner i mine out theirs inn ph → owns owner i k ≡ true → mine k ≡ Free → ph k ≡ Nothing
    free_phase k t own free = when_free (ph k) (sym (slot_is owner ph i mine out k true (ph k) t.here own refl) ∙ free)

    pub keeps_propose : (k : Key) (e : Endpoint) → Talks owner i mine out theirs inn ph → MayDoOwned (owns owner i) i mine (Propose k e) → Talks owner i (table_after mine (Propose k e)) (out ++ Install k e ∷ []) theirs inn (set_at ph k (Proposed false e))
    keeps_propose k e t may =
        own_turn k Nothing (Proposed false e) (Pending false e) (Install k e ∷ []) t may.0 (free_phase k t may.0 may.1)
        refl refl (one_on k (Install k e) (self owner k)) (λ q ne. none_on q (Install k e) (apart owner k q ne)) refl (λ n h. cc) (λ n h. absurd (cc))
        (room_new owner i mine out theirs inn ph k e (Proposed false e) inn t may.0 may.2 (λ n h. sym (one_some e n h)) (λ n h. cc))
        (λ one. (λ g. let bad : Proposed false e ≡ GivenUp e = sym (set_same ph k (Proposed false e) k refl) ∙ g in absurd (cc), tt)) (λ z. refl)

    pub keeps_make_alone : (k : Key) (e : Endpoint) → Talks owner i mine out theirs inn ph → MayDoOwned (owns owner i) i mine (MakeAlone k e) → Talks owner i (table_after mine (MakeAlone k e)) (out ++ []) theirs inn (set_at ph k (Apart e))
    keeps_make_alone k e t may =
        own_turn k Nothing (Apart e) (Alone e) [] t may.0 (free_phase k t may.0 may.1)
        refl refl refl (λ q ne. refl) refl (λ n h. cc) (λ n h. absurd (cc))
        (room_new owner i mine out theirs inn ph k e (Apart e) inn t may.0 may.2 (λ n h. sym (one_some e n h)) (λ n h. cc))
        (λ one. tt) (λ z. refl)

    pub keeps_close : (k : Key) (e : Endpoint) → Talks owner i mine out theirs inn ph → MayDoOwned (owns owner i) i mine (Close k e) → Talks owner i (table_after mine (Close k e)) (out ++ Ask k ∷ []) theirs inn (set_at ph k (Asked false e))
    keeps_close k e t may =
        let now : ph k ≡ Shared e = when_live (ph k) e (sym (slot_is owner ph i mine out k true (ph k) t.here may.0 refl) ∙ may.1) in
        own_turn k (Shared e) (Asked false e) (Closing false e) (Ask k ∷ []) t may.0 now
        refl refl (one_on k (Ask k) (self owner k)) (λ q ne. none_on q (Ask k) (apart owner k q ne)) refl (λ n h. cc) (λ n h. absurd (cc))
        (room_same owner i mine out theirs inn ph k (Shared e) (Asked false e) inn t now (λ n h. h) (λ n h. cc))
        (λ one. tt) (λ z. refl)

    alone_phase : (k : Key) (e : Endpoint) → Talks owner i mine out theirs inn ph → owns owner i k ≡ true → mine k ≡ Alone e → ph k ≡ Apart e
    alone_phase k e t own is = when_alone (ph k) e (sym (slot_is owner ph i mine out k true (ph k) t.here own refl) ∙ is)

    pub keeps_report : (k : Key) (e : Endpoint) → Talks owner i mine out theirs inn ph → MayDoOwned (owns owner i) i mine (Report k e) → Talks owner i (table_after mine (Report k e)) (out ++ Tell k e ∷ []) theirs inn (set_at ph k (Told e))
    keeps_report k e t may =
        let now : ph k ≡ Apart e = alone_phase k e t may.0 may.1 in
        own_turn k (Apart e) (Told e) (Pending true e) (Tell k e ∷ []) t may.0 now
        refl refl (one_on k (Tell k e) (self owner k)) (λ q ne. none_on q (Tell k e) (apart owner k q ne)) refl (λ n h. cc) (λ n h. absurd (cc))
        (room_same owner i mine out theirs inn ph k (Apart e) (Told e) inn t now (λ n h. h) (λ n h. cc))
        (λ one. tt) (λ z. refl)

    pub keeps_drop_alone : (k : Key) (e : Endpoint) → Talks owner i mine out theirs inn ph → MayDoOwned (owns owner i) i mine (DropAlone k e) → Talks owner i (table_after mine (DropAlone k e)) (out ++ []) theirs inn (set_at ph k Nothing)
    keeps_drop_alone k e t may =
        let now : ph k ≡ Apart e = alone_phase k e t may.0 may.1 in
        own_turn k (Apart e) Nothing Free [] t may.0 now
        refl refl refl (λ q ne. refl) refl (λ n h. cc) (λ n h. absurd (cc))
        (room_same owner i mine out theirs inn ph k (Apart e) Nothing inn t now (λ n h. absurd (cc)) (λ n h. cc))
        (λ one. tt) (λ z. refl)

    -- a slot that may be marked isn't that of a proposal given up
    not_doomed : (s : Slot) (e n : Endpoint) → (s ≡ Pending false e) ⊎ (s ≡ Closing false e) → s ≡ Doomed n → ⊥
    not_doomed s e n (inl h) g = cc
    not_doomed s e n (inr h) g = cc

    pub keeps_mark : (k : Key) (e : Endpoint) → Talks owner i mine out theirs inn ph → MayDoOwned (owns owner i) i mine (Mark k e) → Talks owner i (table_after mine (Mark k e)) (out ++ []) theirs inn (set_at ph k (set_apart (ph k)))
    keeps_mark k e t may =
        let slot : mine k ≡ owner_slot (ph k) = slot_is owner ph i mine out k true (ph k) t.here may.0 refl in
        own_turn k (ph k) (set_apart (ph k)) (mark (mine k)) [] t may.0 refl
        (ap mark slot ∙ sym (owner-apart (ph k))) (sym (other-apart (ph k))) (append-nil (flight_at true k (ph k)) ∙ sym (flight-apart true k (ph k))) (λ q ne. refl) (sym (flight-apart false k (ph k)))
        (λ n h. not_doomed (mine k) e n may.1 (slot ∙ ap owner_slot (never_given (ph k) n h)))
        (λ n h. inl (accepted-apart (ph k) ∙ h))
        (room_same owner i mine out theirs inn ph k (ph k) (set_apart (ph k)) inn t refl (λ n h. sym (named-apart (ph k)) ∙ h) (λ n h. absurd (never_accepted (ph k) n h)))
        (λ one. tt) (λ z. given-apart (ph k) ∙ t.steady k z)

    -- a given-up proposal isn't agreed to
    given_up_taken : (k : Key) (e : Endpoint) → Talks owner i mine out theirs (Install k e ∷ inn) ph → MayDoOwned (owns owner i) i mine (Agree k e) → ph k ≡ GivenUp e → owns owner (other i) k ≡ true → ⊥
    given_up_taken k e t may g own = elim (which i) [
      | inl zero ↦ let x : (q : Key) × (accepted (ph q) ≡ Some e) × IsTrue (has_accept q inn) = (t.excused_in zero).0 g in may.1 x.0 (ap held (t.here.slots x.0) ∙ accepted_slot (owns owner i x.0) (ph x.0) e x.1)
      | inr one ↦ let z : other i ≡ owner k = same-eq (other i) (owner k) own in let y : owner k ≡ Zero = sym z ∙ ap other one in let a : is_given_up (ph k) ≡ false = t.steady k y in let b : is_given_up (ph k) ≡ true = ap is_given_up g in cc
    ]

    pub keeps_agree : (k : Key) (e : Endpoint) → Talks owner i mine out theirs (Install k e ∷ inn) ph → MayDoOwned (owns owner i) i mine (Agree k e) → Talks owner i (table_after mine (Agree k e)) (out ++ Accept k ∷ []) theirs inn (set_at ph k (accept (ph k)))
    keeps_agree k e t may =
        let seen : (owns owner (other i) k ≡ true) × ((((m : Bool) × (ph k ≡ Proposed m e)) ⊎ (ph k ≡ GivenUp e)) × (on k inn ≡ [])) = when_install (owns owner (other i) k) k (ph k) k e (on k inn) (sym (t.there.flights k) ∙ on_here k (Install k e) inn (self owner k)) in
        let own : owns owner i k ≡ false = not-true (owns owner i k) (sym (other-owns owner i k) ∙ seen.0) in
        let now : (m : Bool) × (ph k ≡ Proposed m e) = elim seen.1.0 [ inl p ↦ p | inr g ↦ absurd (given_up_taken k e t may g seen.0) ] in
        subst (λ (p : Phase). Talks owner i (set_at mine k (Held e)) (out ++ Accept k ∷ []) theirs inn (set_at ph k p)) (ap accept (sym now.1))
        (turned owner i mine out theirs inn ph false k (Proposed now.0 e) (Accepted now.0 e) (set_at mine k (Held e)) (Install k e ∷ []) (Accept k ∷ []) t own now.1
        record {
          slot = set_same mine k (Held e) k refl;
          slots = λ q ne. set_other mine k (Held e) q ne;
          theirs = refl;
          pushed = one_on k (Accept k) (self owner k);
          pushed_else = λ q ne. none_on q (Accept k) (apart owner k q ne);
          left = seen.1.1;
          taken_else = λ q ne. on_elsewhere q (Install k e) inn (apart owner k q ne);
          alive = λ n h. cc;
          heard = λ n h. absurd (cc);
        }
        (room_agreed owner i mine out theirs inn ph k e (Proposed now.0 e) (Accepted now.0 e) (Install k e ∷ inn) t own now.1 may.1 (λ n h. h) (λ n h. cc))
        (λ one. tt) (λ zero. (t.excused_in zero).1) (λ z. refl))

    -- what is under way at the port of the record that is taken
    comes : (k : Key) (r : MachineRecord) → Talks owner i mine out theirs (r ∷ inn) ph → is_on k r ≡ true → flight_at (owns owner (other i) k) k (ph k) ≡ r ∷ on k inn
    comes k r t h = sym (t.there.flights k) ∙ on_here k r inn h

    not_theirs : (k : Key) → owns owner (other i) k ≡ true → owns owner i k ≡ false
    not_theirs k h = not-true (owns owner i k) (sym (other-owns owner i k) ∙ h)

    not_mine : (k : Key) → owns owner (other i) k ≡ false → owns owner i k ≡ true
    not_mine k h = not-false (owns owner i k) (sym (other-owns owner i k) ∙ h)

    pub keeps_reject : (k : Key) (e : Endpoint) → Talks owner i mine out theirs (Install k e ∷ inn) ph → Talks owner i mine (out ++ Refuse k ∷ []) theirs inn (set_at ph k (refuse (ph k)))
    keeps_reject k e t =
        let seen : (owns owner (other i) k ≡ true) × ((((m : Bool) × (ph k ≡ Proposed m e)) ⊎ (ph k ≡ GivenUp e)) × (on k inn ≡ [])) = when_install (owns owner (other i) k) k (ph k) k e (on k inn) (comes k (Install k e) t (self owner k)) in
        let own : owns owner i k ≡ false = not_theirs k seen.0 in
        elim seen.1.0 [
          | inl now ↦ subst (λ (p : Phase). Talks owner i mine (out ++ Refuse k ∷ []) theirs inn (set_at ph k p)) (ap refuse (sym now.1))
              (turned owner i mine out theirs inn ph false k (Proposed now.0 e) (Refused now.0 e) mine (Install k e ∷ []) (Refuse k ∷ []) t own now.1
              record {
                slot = slot_is owner ph i mine out k false (Proposed now.0 e) t.here own now.1;
                slots = λ q ne. refl;
                theirs = refl;
                pushed = one_on k (Refuse k) (self owner k);
                pushed_else = λ q ne. none_on q (Refuse k) (apart owner k q ne);
                left = seen.1.1;
                taken_else = λ q ne. on_elsewhere q (Install k e) inn (apart owner k q ne);
                alive = λ n h. cc;
                heard = λ n h. absurd (cc);
              }
              (room_same owner i mine out theirs inn ph k (Proposed now.0 e) (Refused now.0 e) (Install k e ∷ inn) t now.1 (λ n h. h) (λ n h. cc))
              (λ one. tt) (λ zero. (t.excused_in zero).1) (λ z. refl))
          | inr now ↦ subst (λ (p : Phase). Talks owner i mine (out ++ Refuse k ∷ []) theirs inn (set_at ph k p)) (ap refuse (sym now))
              (turned owner i mine out theirs inn ph false k (GivenUp e) (GivenUpRefused e) mine (Install k e ∷ []) (Refuse k ∷ []) t own now
              record {
                slot = slot_is owner ph i mine out k false (GivenUp e) t.here own now;
                slots = λ q ne. refl;
                theirs = refl;
                pushed = one_on k (Refuse k) (self owner k);
                pushed_else = λ q ne. none_on q (Refuse k) (apart owner k q ne);
                left = seen.1.1;
                taken_else = λ q ne. on_elsewhere q (Install k e) inn (apart owner k q ne);
                alive = λ n h. cc;
                heard = λ n h. absurd (cc);
              }
              (room_same owner i mine out theirs inn ph k (GivenUp e) (GivenUpRefused e) (Install k e ∷ inn) t now (λ n h. absurd (cc)) (λ n h. cc))
              (λ one. tt) (λ zero. (t.excused_in zero).1) (λ z. let a : is_given_up (ph k) ≡ false = t.steady k z in let b : is_given_up (ph k) ≡ true = ap is_given_up now in absurd (cc)))
        ]

    told_phase : (k : Key) (e : Endpoint) → Talks owner i mine out theirs (Tell k e ∷ inn) ph → (owns owner i k ≡ false) × (ph k ≡ Told e) × (on k inn ≡ [])
    told_phase k e t =
        let seen : (owns owner (other i) k ≡ true) × (ph k ≡ Told e) × (on k inn ≡ []) = when_tell (owns owner (other i) k) k (ph k) k e (on k inn) (comes k (Tell k e) t (self owner k)) in
        (not_theirs k seen.0, seen.1, seen.2)

    pub keeps_adopt : (k : Key) (e : Endpoint) → Talks owner i mine out theirs (Tell k e ∷ inn) ph → Talks owner i (set_at mine k (Held e)) (out ++ Accept k ∷ []) theirs inn (set_at ph k (Accepted true e))
    keeps_adopt k e t =
        let seen : (owns owner i k ≡ false) × (ph k ≡ Told e) × (on k inn ≡ []) = told_phase k e t in
        turned owner i mine out theirs inn ph false k (Told e) (Accepted true e) (set_at mine k (Held e)) (Tell k e ∷ []) (Accept k ∷ []) t seen.0 seen.1
        record {
          slot = set_same mine k (Held e) k refl;
          slots = λ q ne. set_other mine k (Held e) q ne;
          theirs = refl;
          pushed = one_on k (Accept k) (self owner k);
          pushed_else = λ q ne. none_on q (Accept k) (apart owner k q ne);
          left = seen.2;
          taken_else = λ q ne. on_elsewhere q (Tell k e) inn (apart owner k q ne);
          alive = λ n h. cc;
          heard = λ n h. absurd (cc);
        }
        (room_same owner i mine out theirs inn ph k (Told e) (Accepted true e) (Tell k e ∷ inn) t seen.1 (λ n h. h) (λ n h. cc))
        (λ one. tt) (λ zero. t.excused_in zero) (λ z. refl)

    pub keeps_decline : (k : Key) (e : Endpoint) → Talks owner i mine out theirs (Tell k e ∷ inn) ph → Talks owner i mine (out ++ Refuse k ∷ []) theirs inn (set_at ph k (Refused true e))
    keeps_decline k e t =
        let seen : (owns owner i k ≡ false) × (ph k ≡ Told e) × (on k inn ≡ []) = told_phase k e t in
        turned owner i mine out theirs inn ph false k (Told e) (Refused true e) mine (Tell k e ∷ []) (Refuse k ∷ []) t seen.0 seen.1
        record {
          slot = slot_is owner ph i mine out k false (Told e) t.here seen.0 seen.1;
          slots = λ q ne. refl;
          theirs = refl;
          pushed = one_on k (Refuse k) (self owner k);
          pushed_else = λ q ne. none_on q (Refuse k) (apart owner k q ne);
          left = seen.2;
          taken_else = λ q ne. on_elsewhere q (Tell k e) inn (apart owner k q ne);
          alive = λ n h. cc;
          heard = λ n h. absurd (cc);
        }
        (room_same owner i mine out theirs inn ph k (Told e) (Refused true e) (Tell k e ∷ inn) t seen.1 (λ n h. h) (λ n h. cc))
        (λ one. tt) (λ zero. t.excused_in zero) (λ z. refl)

    -- the owner takes the answer to its own record, and changes its slot
    answered : (k : Key) (x : MachineRecord) (before after_act : Phase) (s : Slot) → Talks owner i mine out theirs (x ∷ inn) ph → ((q : Key) → (k ≡ q → ⊥) → is_on q x ≡ false) → (i ≡ Zero → Excused ph (x ∷ inn) → Excused ph inn) → owns owner i k ≡ true → ph k ≡ before → on k inn ≡ []
        → s ≡ slot_at true after_act → slot_at false before ≡ slot_at false after_act → flight_at true k before ++ [] ≡ flight_at true k after_act → [] ≡ flight_at false k after_act → accepted after_act ≡ None → is_given_up after_act ≡ false → ((n : Endpoint) → named after_act ≡ Some n → named before ≡ Some n)
        → Talks owner i (set_at mine k s) (out ++ []) theirs inn (set_at ph k after_act)
    answered k x before after_act s t other_key excuse own now none slot same_slot same_flight back calm_after live names =
        turned owner i mine out theirs inn ph true k before after_act (set_at mine k s) (x ∷ []) [] t own now
        record {
          slot = set_same mine k s k refl ∙ slot;
          slots = λ q ne. set_other mine k s q ne;
          theirs = same_slot;
          pushed = same_flight;
          pushed_else = λ q ne. refl;
          left = none ∙ back;
          taken_else = λ q ne. on_elsewhere q x inn (other_key q ne);
          alive = λ n h. both_flags (is_given_up after_act) (ap is_given_up h) live;
          heard = λ n h. inr calm_after;
        }
        (room_same owner i mine out theirs inn ph k before after_act (x ∷ inn) t now names (λ n h. let bad : Some n ≡ None = sym (ap accepted h) ∙ calm_after in absurd (cc)))
        (λ one. tt) (λ zero. excuse zero (t.excused_in zero)) (λ z. live)

    pub keeps_agreed : (k : Key) (e : Endpoint) → Talks owner i mine out theirs (Accept k ∷ inn) ph → MayDoOwned (owns owner i) i mine (Agreed k e) → Talks owner i (set_at mine k (Live e)) (out ++ []) theirs inn (set_at ph k (Shared e))
    keeps_agreed k e t may =
        let seen : (owns owner (other i) k ≡ false) × ((m : Bool) × (n : Endpoint) × (ph k ≡ Accepted m n) × (on k inn ≡ [])) = when_accept (owns owner (other i) k) k (ph k) k (on k inn) (comes k (Accept k) t (self owner k)) in
        let known : Pending seen.1.0 seen.1.1 ≡ Pending may.1.0 e = sym (slot_is owner ph i mine out k true (Accepted seen.1.0 seen.1.1) t.here may.0 seen.1.2) ∙ may.1.1 in
        let same_e : seen.1.1 ≡ e = cc in
        let now : ph k ≡ Accepted seen.1.0 e = seen.1.2 ∙ ap (λ n. Accepted seen.1.0 n) same_e in
        answered k (Accept k) (Accepted seen.1.0 e) (Shared e) (Live e) t (λ q ne. apart owner k q ne) (λ z x. x) may.0 now seen.1.3 refl refl refl refl refl refl (λ n h. h)

    refused_phase : (k : Key) → Talks owner i mine out theirs (Refuse k ∷ inn) ph → (owns owner i k ≡ true) × ((n : Endpoint) × (((m : Bool) × (ph k ≡ Refused m n)) ⊎ (ph k ≡ GivenUpRefused n)) × (on k inn ≡ []))
    refused_phase k t =
        let seen : (owns owner (other i) k ≡ false) × ((n : Endpoint) × (((m : Bool) × (ph k ≡ Refused m n)) ⊎ (ph k ≡ GivenUpRefused n)) × (on k inn ≡ [])) = when_refuse (owns owner (other i) k) k (ph k) k (on k inn) (comes k (Refuse k) t (self owner k)) in
        (not_mine k seen.0, seen.1)

    pub keeps_rejected : (k : Key) → Talks owner i mine out theirs (Refuse k ∷ inn) ph → Talks owner i (set_at mine k Free) (out ++ []) theirs inn (set_at ph k Nothing)
    keeps_rejected k t =
        let seen : (owns owner i k ≡ true) × ((n : Endpoint) × (((m : Bool) × (ph k ≡ Refused m n)) ⊎ (ph k ≡ GivenUpRefused n)) × (on k inn ≡ [])) = refused_phase k t in
        elim seen.1.1 [
          | inl now ↦ answered k (Refuse k) (Refused now.0 seen.1.0) Nothing Free t (λ q ne. apart owner k q ne) (λ z x. x) seen.0 now.1 seen.1.2 refl refl refl refl refl refl (λ n h. absurd (cc))
          | inr now ↦ answered k (Refuse k) (GivenUpRefused seen.1.0) Nothing Free t (λ q ne. apart owner k q ne) (λ z x. x) seen.0 now seen.1.2 refl refl refl refl refl refl (λ n h. absurd (cc))
        ]

    pub keeps_rebuffed : (k : Key) (e : Endpoint) → Talks owner i mine out theirs (Refuse k ∷ inn) ph → MayDoOwned (owns owner i) i mine (Rebuffed k e) → Talks owner i (set_at mine k (Alone e)) (out ++ []) theirs inn (set_at ph k (Apart e))
    keeps_rebuffed k e t may =
        let seen : (owns owner i k ≡ true) × ((n : Endpoint) × (((m : Bool) × (ph k ≡ Refused m n)) ⊎ (ph k ≡ GivenUpRefused n)) × (on k inn ≡ [])) = refused_phase k t in
        elim seen.1.1 [
          | inl now ↦
              let known : Pending now.0 seen.1.0 ≡ Pending true e = sym (slot_is owner ph i mine out k true (Refused now.0 seen.1.0) t.here may.0 now.1) ∙ may.1 in
              let same_e : seen.1.0 ≡ e = cc in
              answered k (Refuse k) (Refused now.0 seen.1.0) (Apart e) (Alone e) t (λ q ne. apart owner k q ne) (λ z x. x) seen.0 now.1 seen.1.2 refl refl refl refl refl refl (λ n h. ap (λ x. Some x) same_e ∙ h)
          | inr now ↦ let bad : Doomed seen.1.0 ≡ Pending true e = sym (slot_is owner ph i mine out k true (GivenUpRefused seen.1.0) t.here may.0 now) ∙ may.1 in absurd (cc)
        ]

    -- an Ask comes only for a pair that the receiver holds
    asked : (k : Key) (e : Endpoint) → Talks owner i mine out theirs (Ask k ∷ inn) ph → mine k ≡ Held e → (owns owner i k ≡ false) × ((m : Bool) × (ph k ≡ Asked m e)) × (on k inn ≡ [])
    asked k e t may =
        let seen : (owns owner (other i) k ≡ true) × ((m : Bool) × (n : Endpoint) × (ph k ≡ Asked m n) × (on k inn ≡ [])) = when_ask (owns owner (other i) k) k (ph k) k (on k inn) (comes k (Ask k) t (self owner k)) in
        let own : owns owner i k ≡ false = not_theirs k seen.0 in
        let known : Held seen.1.1 ≡ Held e = sym (slot_is owner ph i mine out k false (Asked seen.1.0 seen.1.1) t.here own seen.1.2) ∙ may in
        let same_e : seen.1.1 ≡ e = cc in
        (own, (seen.1.0, seen.1.2 ∙ ap (λ n. Asked seen.1.0 n) same_e), seen.1.3)

    pub keeps_leave : (k : Key) (e : Endpoint) → Talks owner i mine out theirs (Ask k ∷ inn) ph → MayDoOwned (owns owner i) i mine (Leave k e) → Talks owner i (set_at mine k Free) (out ++ Yes k ∷ []) theirs inn (set_at ph k (leave (ph k)))
    keeps_leave k e t may =
        let seen : (owns owner i k ≡ false) × ((m : Bool) × (ph k ≡ Asked m e)) × (on k inn ≡ []) = asked k e t may in
        subst (λ (p : Phase). Talks owner i (set_at mine k Free) (out ++ Yes k ∷ []) theirs inn (set_at ph k p)) (ap leave (sym seen.1.1))
        (turned owner i mine out theirs inn ph false k (Asked seen.1.0 e) (Leaving seen.1.0 e) (set_at mine k Free) (Ask k ∷ []) (Yes k ∷ []) t seen.0 seen.1.1
        record {
          slot = set_same mine k Free k refl;
          slots = λ q ne. set_other mine k Free q ne;
          theirs = refl;
          pushed = one_on k (Yes k) (self owner k);
          pushed_else = λ q ne. none_on q (Yes k) (apart owner k q ne);
          left = seen.2;
          taken_else = λ q ne. on_elsewhere q (Ask k) inn (apart owner k q ne);
          alive = λ n h. cc;
          heard = λ n h. inr refl;
        }
        (room_same owner i mine out theirs inn ph k (Asked seen.1.0 e) (Leaving seen.1.0 e) (Ask k ∷ inn) t seen.1.1 (λ n h. h) (λ n h. cc))
        (λ one. tt) (λ zero. t.excused_in zero) (λ z. refl))

    pub keeps_stay : (k : Key) (e : Endpoint) → Talks owner i mine out theirs (Ask k ∷ inn) ph → MayDoOwned (owns owner i) i mine (Stay k e) → Talks owner i mine (out ++ No k ∷ []) theirs inn (set_at ph k (stay (ph k)))
    keeps_stay k e t may =
        let seen : (owns owner i k ≡ false) × ((m : Bool) × (ph k ≡ Asked m e)) × (on k inn ≡ []) = asked k e t may in
        subst (λ (p : Phase). Talks owner i mine (out ++ No k ∷ []) theirs inn (set_at ph k p)) (ap stay (sym seen.1.1))
        (turned owner i mine out theirs inn ph false k (Asked seen.1.0 e) (Staying seen.1.0 e) mine (Ask k ∷ []) (No k ∷ []) t seen.0 seen.1.1
        record {
          slot = may;
          slots = λ q ne. refl;
          theirs = refl;
          pushed = one_on k (No k) (self owner k);
          pushed_else = λ q ne. none_on q (No k) (apart owner k q ne);
          left = seen.2;
          taken_else = λ q ne. on_elsewhere q (Ask k) inn (apart owner k q ne);
          alive = λ n h. cc;
          heard = λ n h. inr refl;
        }
        (room_same owner i mine out theirs inn ph k (Asked seen.1.0 e) (Staying seen.1.0 e) (Ask k ∷ inn) t seen.1.1 (λ n h. h) (λ n h. cc))
        (λ one. tt) (λ zero. t.excused_in zero) (λ z. refl))

    pub keeps_left : (k : Key) (e : Endpoint) → Talks owner i mine out theirs (Yes k ∷ inn) ph → MayDoOwned (owns owner i) i mine (Left k e) → Talks owner i (set_at mine k Free) (out ++ []) theirs inn (set_at ph k Nothing)
    keeps_left k e t may =
        let seen : (owns owner (other i) k ≡ false) × ((m : Bool) × (n : Endpoint) × (ph k ≡ Leaving m n) × (on k inn ≡ [])) = when_yes (owns owner (other i) k) k (ph k) k (on k inn) (comes k (Yes k) t (self owner k)) in
        answered k (Yes k) (Leaving seen.1.0 seen.1.1) Nothing Free t (λ q ne. apart owner k q ne) (λ z x. x) may.0 seen.1.2 seen.1.3 refl refl refl refl refl refl (λ n h. absurd (cc))

    pub keeps_parted : (k : Key) (e : Endpoint) → Talks owner i mine out theirs (Yes k ∷ inn) ph → MayDoOwned (owns owner i) i mine (Parted k e) → Talks owner i (set_at mine k (Alone e)) (out ++ []) theirs inn (set_at ph k (Apart e))
    keeps_parted k e t may =
        let seen : (owns owner (other i) k ≡ false) × ((m : Bool) × (n : Endpoint) × (ph k ≡ Leaving m n) × (on k inn ≡ [])) = when_yes (owns owner (other i) k) k (ph k) k (on k inn) (comes k (Yes k) t (self owner k)) in
        let known : Closing seen.1.0 seen.1.1 ≡ Closing true e = sym (slot_is owner ph i mine out k true (Leaving seen.1.0 seen.1.1) t.here may.0 seen.1.2) ∙ may.1 in
        let same_e : seen.1.1 ≡ e = cc in
        answered k (Yes k) (Leaving seen.1.0 seen.1.1) (Apart e) (Alone e) t (λ q ne. apart owner k q ne) (λ z x. x) may.0 seen.1.2 seen.1.3 refl refl refl refl refl refl (λ n h. ap (λ x. Some x) same_e ∙ h)

    pub keeps_stayed : (k : Key) (e : Endpoint) → Talks owner i mine out theirs (No k ∷ inn) ph → MayDoOwned (owns owner i) i mine (Stayed k e) → Talks owner i (set_at mine k (Live e)) (out ++ []) theirs inn (set_at ph k (Shared e))
    keeps_stayed k e t may =
        let seen : (owns owner (other i) k ≡ false) × ((m : Bool) × (n : Endpoint) × (ph k ≡ Staying m n) × (on k inn ≡ [])) = when_no (owns owner (other i) k) k (ph k) k (on k inn) (comes k (No k) t (self owner k)) in
        let known : Closing seen.1.0 seen.1.1 ≡ Closing may.1.0 e = sym (slot_is owner ph i mine out k true (Staying seen.1.0 seen.1.1) t.here may.0 seen.1.2) ∙ may.1.1 in
        let same_e : seen.1.1 ≡ e = cc in
        let now : ph k ≡ Staying seen.1.0 e = seen.1.2 ∙ ap (λ n. Staying seen.1.0 n) same_e in
        answered k (No k) (Staying seen.1.0 e) (Shared e) (Live e) t (λ q ne. apart owner k q ne) (λ z x. x) may.0 now seen.1.3 refl refl refl refl refl refl (λ n h. h)

    -- gateway 1 gives its own proposal up for the Install that came
    yields : (k : Key) (e : Endpoint) (q : Key) (m : Bool) (before after_act : Phase) → Talks owner i mine out theirs (Install k e ∷ inn) ph → MayDoOwned (owns owner i) i mine (Yield k e q) → ph k ≡ Proposed m e → owns owner i k ≡ false → on k inn ≡ [] → (k ≡ q → ⊥)
        → ph q ≡ before → slot_at true after_act ≡ Doomed e → slot_at false before ≡ slot_at false after_act → flight_at true q before ≡ flight_at true q after_act → flight_at false q before ≡ flight_at false q after_act
        → ((n : Endpoint) → after_act ≡ GivenUp n → n ≡ e) → ((n : Endpoint) → accepted before ≡ Some n → ⊥) → ((n : Endpoint) → after_act ≡ Accepted false n → ⊥)
        → Talks owner i (set_at (set_at mine q (Doomed e)) k (Held e)) (out ++ Accept k ∷ []) theirs inn (set_at (set_at ph q after_act) k (Accepted m e))
    yields k e q m before after_act t may now not_own none ne was gone theirs_same flight_same back_same given not_accepted never =
        let own_q : owns owner i q ≡ true = may.2 in
        let their_q : owns owner (other i) q ≡ false = other-owns owner i q ∙ ap not own_q in
        let their_k : owns owner (other i) k ≡ true = other-owns owner i k ∙ ap not not_own in
        let mine1 : Key → Slot = set_at mine q (Doomed e) in
        let ph1 : Key → Phase = set_at ph q after_act in
        let ph2 : Key → Phase = set_at ph1 k (Accepted m e) in
        let s1 : mine1 q ≡ Doomed e = set_same mine q (Doomed e) q refl in
        let qk : q ≡ k → ⊥ = λ h. ne (sym h) in
        let k1 : ph1 k ≡ Proposed m e = set_other ph q after_act k qk ∙ now in
        let here1 : Matches owner ph1 i mine1 out = side_set owner ph i mine mine1 out out q after_act t.here
        (s1 ∙ sym gone ∙ ap (λ b. slot_at b after_act) (sym own_q)) (λ x nx. set_other mine q (Doomed e) x nx)
        (flight_is owner ph i mine out q true before t.here own_q was ∙ flight_same ∙ ap (λ b. flight_at b q after_act) (sym own_q)) (λ x nx. refl) in
        let there1 : Matches owner ph1 (other i) theirs (Install k e ∷ inn) = side_stay owner ph (other i) theirs (Install k e ∷ inn) (Install k e ∷ inn) q after_act t.there
        (slot_is owner ph (other i) theirs (Install k e ∷ inn) q false before t.there their_q was ∙ theirs_same ∙ ap (λ b. slot_at b after_act) (sym their_q))
        (flight_is owner ph (other i) theirs (Install k e ∷ inn) q false before t.there their_q was ∙ back_same ∙ ap (λ b. flight_at b q after_act) (sym their_q)) (λ x nx. refl) in
        let s2 : set_at mine1 k (Held e) k ≡ Held e = set_same mine1 k (Held e) k refl in
        let none_out : on k out ≡ [] = flight_is owner ph1 i mine1 out k false (Proposed m e) here1 not_own k1 in
        let unnamed : (n : Endpoint) → named after_act ≡ Some n → ⊥ = λ n h. let bad : None ≡ Some n = ap held (sym gone) ∙ h in cc in
        let room1 : Room owner ph q after_act = record {
          fresh = λ x n nx alike h g. unnamed n h;
          near = λ x n far h g. unnamed n h;
          clear = λ x n far g h. never n h;
        } in
        let one1 : (a b : Key) (n : Endpoint) → owner a ≡ owner b → named (ph1 a) ≡ Some n → named (ph1 b) ≡ Some n → a ≡ b = one_set owner ph q after_act t.one_each room1 in
        let beside1 : (a b : Key) (n : Endpoint) → (owner a ≡ owner b → ⊥) → named (ph1 a) ≡ Some n → ph1 b ≡ Accepted false n → ⊥ = beside_set owner ph q after_act t.beside room1 in
        let mine_q : named (ph q) ≡ Some e = ap held (sym (slot_is owner ph i mine out q true (ph q) t.here own_q refl)) ∙ ap held may.3 in
        let room2 : Room owner ph1 k (Accepted m e) = record {
          fresh = λ x n nx alike h g. nx (one1 k x n alike (ap named k1 ∙ h) g);
          near = λ x n far h g. beside1 k x n far (ap named k1 ∙ h) g;
          clear = λ x n far g h.
              let own_x : owns owner i x ≡ true = apart_owns owner i k x far ∙ ap not not_own in
              let same_n : e ≡ n = cc in
              elim (cases_key q x) [
                | inl qx ↦ unnamed n (ap named (sym (set_same ph q after_act x qx)) ∙ g)
                | inr nqx ↦ nqx (t.one_each q x e (sym (same-eq i (owner q) own_q) ∙ same-eq i (owner x) own_x) mine_q (ap named (sym (set_other ph q after_act x nqx)) ∙ g ∙ ap (λ y. Some y) (sym same_n)))
              ];
        } in
        record {
          here = side_set owner ph1 i mine1 (set_at mine1 k (Held e)) out (out ++ Accept k ∷ []) k (Accepted m e) here1
              (s2 ∙ ap (λ b. slot_at b (Accepted m e)) (sym not_own)) (λ x nx. set_other mine1 k (Held e) x nx)
              (push_here owner k (Accept k) out none_out (self owner k) ∙ ap (λ b. flight_at b k (Accepted m e)) (sym not_own)) (λ x nx. push_else owner x (Accept k) out (apart owner k x nx));
          there = side_stay owner ph1 (other i) theirs (Install k e ∷ inn) inn k (Accepted m e) there1
              (slot_is owner ph1 (other i) theirs (Install k e ∷ inn) k true (Proposed m e) there1 their_k k1 ∙ ap (λ b. slot_at b (Accepted m e)) (sym their_k))
              (none ∙ ap (λ b. flight_at b k (Accepted m e)) (sym their_k)) (λ x nx. sym (on_elsewhere x (Install k e) inn (apart owner k x nx)));
          excused_out = λ one. excused_give_up ph ph2 k e q out (t.excused_out one)
              (λ x n h. elim (cases_key k x) [
                | inl kx ↦ let bad : Accepted m e ≡ GivenUp n = sym (set_same ph1 k (Accepted m e) x kx) ∙ h in absurd (cc)
                | inr nkx ↦ let h1 : ph1 x ≡ GivenUp n = sym (set_other ph1 k (Accepted m e) x nkx) ∙ h in
                    elim (cases_key q x) [
                      | inl qx ↦ inr (given n (sym (set_same ph q after_act x qx) ∙ h1))
                      | inr nqx ↦ inl (sym (set_other ph q after_act x nqx) ∙ h1)
                    ]
              ])
              (λ x n a h. elim (cases_key k x) [
                | inl kx ↦ let bad : None ≡ Some n = ap accepted (sym now) ∙ ap (λ y. accepted (ph y)) kx ∙ h in absurd (cc)
                | inr nkx ↦ elim (cases_key q x) [
                  | inl qx ↦ absurd (not_accepted n (ap accepted (sym was) ∙ ap (λ y. accepted (ph y)) qx ∙ h))
                  | inr nqx ↦ ap accepted (set_other ph1 k (Accepted m e) x nkx) ∙ ap accepted (set_other ph q after_act x nqx) ∙ h
                ]
              ])
              (ap accepted (set_same ph1 k (Accepted m e) k refl));
          excused_in = λ zero. absurd (not_one i zero may.0);
          steady = λ x z. elim (cases_key k x) [
            | inl kx ↦ ap is_given_up (set_same ph1 k (Accepted m e) x kx)
            | inr nkx ↦ elim (cases_key q x) [
              | inl qx ↦ let io : i ≡ owner q = same-eq i (owner q) own_q in absurd (not_one i (io ∙ ap owner qx ∙ z) may.0)
              | inr nqx ↦ ap is_given_up (set_other ph1 k (Accepted m e) x nkx ∙ set_other ph q after_act x nqx) ∙ t.steady x z
            ]
          ];
          one_each = one_set owner ph1 k (Accepted m e) one1 room2;
          beside = beside_set owner ph1 k (Accepted m e) beside1 room2;
        }

    pub keeps_yield : (k : Key) (e : Endpoint) (q : Key) → Talks owner i mine out theirs (Install k e ∷ inn) ph → MayDoOwned (owns owner i) i mine (Yield k e q) → Talks owner i (set_at (set_at mine q (Doomed e)) k (Held e)) (out ++ Accept k ∷ []) theirs inn (set_at (set_at ph q (give_up (ph q))) k (accept (ph k)))
    keeps_yield k e q t may =
        let seen : (owns owner (other i) k ≡ true) × ((((m : Bool) × (ph k ≡ Proposed m e)) ⊎ (ph k ≡ GivenUp e)) × (on k inn ≡ [])) = when_install (owns owner (other i) k) k (ph k) k e (on k inn) (comes k (Install k e) t (self owner k)) in
        let zero : owner k ≡ Zero = sym (same-eq (other i) (owner k) seen.0) ∙ ap other may.0 in
        let own : owns owner i k ≡ false = not_theirs k seen.0 in
        let now : (m : Bool) × (ph k ≡ Proposed m e) = elim seen.1.0 [ inl p ↦ p | inr g ↦ let a : is_given_up (ph k) ≡ false = t.steady k zero in let b : is_given_up (ph k) ≡ true = ap is_given_up g in absurd (cc) ] in
        let ne : k ≡ q → ⊥ = λ h. let bad : Free ≡ Pending false e = sym may.1 ∙ ap mine h ∙ may.3 in cc in
        let far : owner k ≡ owner q → ⊥ = λ h. both_flags (owns owner i q) may.2 (alike_owns owner i k q h ∙ own) in
        let Goal : Phase → Type 0 = λ p. Talks owner i (set_at (set_at mine q (Doomed e)) k (Held e)) (out ++ Accept k ∷ []) theirs inn (set_at (set_at ph q p) k (accept (ph k))) in
        let Given : Phase → Type 0 = λ p. (give : Phase) → Talks owner i (set_at (set_at mine q (Doomed e)) k (Held e)) (out ++ Accept k ∷ []) theirs inn (set_at (set_at ph q give) k p) → Talks owner i (set_at (set_at mine q (Doomed e)) k (Held e)) (out ++ Accept k ∷ []) theirs inn (set_at (set_at ph q give) k (accept (ph k))) in
        let turn : Given (Accepted now.0 e) = λ give x. subst (λ (p : Phase). Talks owner i (set_at (set_at mine q (Doomed e)) k (Held e)) (out ++ Accept k ∷ []) theirs inn (set_at (set_at ph q give) k p)) (ap accept (sym now.1)) x in
        elim (when_pending (ph q) e (sym (slot_is owner ph i mine out q true (ph q) t.here may.2 refl) ∙ may.3)) [
          | inl was ↦ subst Goal (ap give_up (sym was)) (turn (GivenUp e) (yields k e q now.0 (Proposed false e) (GivenUp e) t may now.1 own seen.1.1 ne was refl refl refl refl (λ n h. cc) (λ n h. cc) (λ n h. cc)))
          | inr other_cases ↦ elim other_cases [
            | inl bad ↦ absurd (t.beside k q e far (ap named now.1) bad)
            | inr was ↦ subst Goal (ap give_up (sym was)) (turn (GivenUpRefused e) (yields k e q now.0 (Refused false e) (GivenUpRefused e) t may now.1 own seen.1.1 ne was refl refl refl refl (λ n h. cc) (λ n h. cc) (λ n h. cc)))
          ]
        ]

    -- no Ask comes for a pair that isn't held
    no_pass : (k : Key) → Talks owner i mine out theirs (Ask k ∷ inn) ph → ((e : Endpoint) → mine k ≡ Held e → ⊥) → ⊥
    no_pass k t may =
        let seen : (owns owner (other i) k ≡ true) × ((m : Bool) × (n : Endpoint) × (ph k ≡ Asked m n) × (on k inn ≡ [])) = when_ask (owns owner (other i) k) k (ph k) k (on k inn) (comes k (Ask k) t (self owner k)) in
        may seen.1.1 (slot_is owner ph i mine out k false (Asked seen.1.0 seen.1.1) t.here (not_theirs k seen.0) seen.1.2)

    -- a record of no port is passed over
    passed : (inn0 : List MachineRecord) → Talks owner i mine out theirs inn0 ph → ((k : Key) → on k inn0 ≡ on k inn) → (Excused ph inn0 → Excused ph inn) → Talks owner i mine (out ++ []) theirs inn ph
    passed inn0 t same_all x = subst (λ (fl : List MachineRecord). Talks owner i mine fl theirs inn ph) (sym (append-nil out)) record {
      here = t.here;
      there = record { slots = t.there.slots; flights = λ k. sym (same_all k) ∙ t.there.flights k };
      excused_out = t.excused_out;
      excused_in = λ z. x (t.excused_in z);
      steady = t.steady;
      one_each = t.one_each;
      beside = t.beside;
    }

    -- each record finds what it belongs to
    keeps_skip : (r : MachineRecord) → Talks owner i mine out theirs (r ∷ inn) ph → IsLost (owns owner i) mine r → Talks owner i mine (out ++ []) theirs inn ph
    keeps_skip (Install k e) t may = absurd may
    keeps_skip (Accept k) t may =
        let seen : (owns owner (other i) k ≡ false) × ((m : Bool) × (n : Endpoint) × (ph k ≡ Accepted m n) × (on k inn ≡ [])) = when_accept (owns owner (other i) k) k (ph k) k (on k inn) (comes k (Accept k) t (self owner k)) in
        absurd (may seen.1.0 seen.1.1 (not_mine k seen.0) (slot_is owner ph i mine out k true (Accepted seen.1.0 seen.1.1) t.here (not_mine k seen.0) seen.1.2))
    keeps_skip (Refuse k) t may =
        let seen : (owns owner i k ≡ true) × ((n : Endpoint) × (((m : Bool) × (ph k ≡ Refused m n)) ⊎ (ph k ≡ GivenUpRefused n)) × (on k inn ≡ [])) = refused_phase k t in
        elim seen.1.1 [
          | inl p ↦ absurd (may p.0 seen.1.0 seen.0 (inl (slot_is owner ph i mine out k true (Refused p.0 seen.1.0) t.here seen.0 p.1)))
          | inr p ↦ absurd (may true seen.1.0 seen.0 (inr (slot_is owner ph i mine out k true (GivenUpRefused seen.1.0) t.here seen.0 p)))
        ]
    keeps_skip (Ask k) t may = absurd may
    keeps_skip (Yes k) t may =
        let seen : (owns owner (other i) k ≡ false) × ((m : Bool) × (n : Endpoint) × (ph k ≡ Leaving m n) × (on k inn ≡ [])) = when_yes (owns owner (other i) k) k (ph k) k (on k inn) (comes k (Yes k) t (self owner k)) in
        absurd (may seen.1.0 seen.1.1 (not_mine k seen.0) (slot_is owner ph i mine out k true (Leaving seen.1.0 seen.1.1) t.here (not_mine k seen.0) seen.1.2))
    keeps_skip (No k) t may =
        let seen : (owns owner (other i) k ≡ false) × ((m : Bool) × (n : Endpoint) × (ph k ≡ Staying m n) × (on k inn ≡ [])) = when_no (owns owner (other i) k) k (ph k) k (on k inn) (comes k (No k) t (self owner k)) in
        absurd (may seen.1.0 seen.1.1 (not_mine k seen.0) (slot_is owner ph i mine out k true (Staying seen.1.0 seen.1.1) t.here (not_mine k seen.0) seen.1.2))
    keeps_skip Begin t may = passed (Begin ∷ inn) t (λ k. refl) (λ x. x)
    keeps_skip (Put k e) t may = passed (Put k e ∷ inn) t (λ q. refl) (λ x. x)
    keeps_skip Done t may = passed (Done ∷ inn) t (λ k. refl) (λ x. x)
    keeps_skip Want t may = absurd may
    keeps_skip (Grant ps) t may = absurd may
    keeps_skip (Owner fst lst) t may = passed (Owner fst lst ∷ inn) t (λ k. refl) (λ x. x)
    keeps_skip (Tell k e) t may = absurd may

  -- A deed of one gateway, at which the record that it takes leaves what is under way.
  pub keeps : (i : GatewayId) (mine : Key → Slot) (out : List MachineRecord) (theirs : Key → Slot) (inn : List MachineRecord) (ph : Key → Phase) (d : Deed) → Talks owner i mine out theirs (taken_by d ++ inn) ph → MayDoOwned (owns owner i) i mine d → Talks owner i (table_after mine d) (out ++ pushed_by d) theirs inn (phase_after ph d)
  keeps i mine out theirs inn ph (Propose k e) t may = keeps_propose i mine out theirs inn ph k e t may
  keeps i mine out theirs inn ph (Close k e) t may = keeps_close i mine out theirs inn ph k e t may
  keeps i mine out theirs inn ph (Use k e counts) t may = subst (λ (fl : List MachineRecord). Talks owner i mine fl theirs inn ph) (sym (append-nil out)) t
  keeps i mine out theirs inn ph (Mark k e) t may = keeps_mark i mine out theirs inn ph k e t may
  keeps i mine out theirs inn ph (MakeAlone k e) t may = keeps_make_alone i mine out theirs inn ph k e t may
  keeps i mine out theirs inn ph (Report k e) t may = keeps_report i mine out theirs inn ph k e t may
  keeps i mine out theirs inn ph (DropAlone k e) t may = keeps_drop_alone i mine out theirs inn ph k e t may
  keeps i mine out theirs inn ph (Agree k e) t may = keeps_agree i mine out theirs inn ph k e t may
  keeps i mine out theirs inn ph (Yield k e q) t may = keeps_yield i mine out theirs inn ph k e q t may
  keeps i mine out theirs inn ph (Reject k e) t may = keeps_reject i mine out theirs inn ph k e t
  keeps i mine out theirs inn ph (Adopt k e) t may = keeps_adopt i mine out theirs inn ph k e t
  keeps i mine out theirs inn ph (Decline k e) t may = keeps_decline i mine out theirs inn ph k e t
  keeps i mine out theirs inn ph (Agreed k e) t may = keeps_agreed i mine out theirs inn ph k e t may
  keeps i mine out theirs inn ph (Rejected k) t may = keeps_rejected i mine out theirs inn ph k t
  keeps i mine out theirs inn ph (Rebuffed k e) t may = keeps_rebuffed i mine out theirs inn ph k e t may
  keeps i mine out theirs inn ph (Leave k e) t may = keeps_leave i mine out theirs inn ph k e t may
  keeps i mine out theirs inn ph (Stay k e) t may = keeps_stay i mine out theirs inn ph k e t may
  keeps i mine out theirs inn ph (Left k e) t may = keeps_left i mine out theirs inn ph k e t may
  keeps i mine out theirs inn ph (Parted k e) t may = keeps_parted i mine out theirs inn ph k e t may
  keeps i mine out theirs inn ph (Stayed k e) t may = keeps_stayed i mine out theirs inn ph k e t may
  keeps i mine out theirs inn ph (Pass k) t may = absurd (no_pass i mine out theirs inn ph k t may)
  keeps i mine out theirs inn ph (Skip r) t may = keeps_skip i mine out theirs inn ph r t may
