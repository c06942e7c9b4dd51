-- Each deed of one gateway keeps both gateways as the ports' phases say.
use Rattle.std.proofs.Common.{◌≡◌, Bool, true, false, not, List, [], ◌∷◌, ◌++◌, Some, None, refl, sym, ap, ◌∙◌, inl, inr, ◌⊎◌, append-nil}
use Rattle.nat_types.proofs.Offered.{key-true, key-false}
use Rattle.nat_types.specs.Same.{other, same_key}
use Rattle.nat_types.specs.declared.gateways.GatewayId.{GatewayId}
use Rattle.nat_types.specs.declared.gateways.GatewayId.TheVariants.{Zero, One}
use Rattle.nat_types.specs.declared.pairs.Endpoint.{Endpoint}
use Rattle.nat_types.specs.declared.pairs.Key.{Key}
use Rattle.spec_pair.proofs.Phase.{owns, Phase, Accepted, GivenUp, accepted, named, is_given_up, slot_at, flight_at, has_accept, Excused, Matches, Talks}
use Rattle.spec_pair.specs.Talk.{Slot, held, MachineRecord, is_on, on, set_at, IsUnbound}
use Rattle.spec_pair.specs.World.{after_act}
use Rattle.spec_pair.proofs.Excuses.{excused_set, excused_push, has_accept-more, calm}
use Rattle.spec_pair.proofs.Set.{set_same, set_other, moved, on-append, on_here, on_elsewhere, other-owns, cases_key, apart_owns, alike_owns}

module _ (owner : Key → GatewayId) where
  -- a side is as the phases say, where one port gets another phase and the side another slot there
  pub side_set : (ph : Key → Phase) (i : GatewayId) (table table2 : Key → Slot) (fl fl2 : List MachineRecord) (k : Key) (p : Phase) → Matches owner ph i table fl
      → table2 k ≡ slot_at (owns owner i k) p → ((q : Key) → (k ≡ q → ⊥) → table2 q ≡ table q)
      → on k fl2 ≡ flight_at (owns owner i k) k p → ((q : Key) → (k ≡ q → ⊥) → on q fl2 ≡ on q fl)
      → Matches owner (set_at ph k p) i table2 fl2
  side_set ph i table table2 fl fl2 k p m slot slots flight flights = record {
    slots = moved (λ q v. slot_at (owns owner i q) v) table table2 ph k p m.slots slot slots;
    flights = moved (λ q v. flight_at (owns owner i q) q v) (λ q. on q fl) (λ q. on q fl2) ph k p m.flights flight flights;
  }

  -- a side whose table stays is as the phases say, where one port gets another phase
  pub side_stay : (ph : Key → Phase) (i : GatewayId) (table : Key → Slot) (fl fl2 : List MachineRecord) (k : Key) (p : Phase) → Matches owner ph i table fl
      → table k ≡ slot_at (owns owner i k) p
      → on k fl2 ≡ flight_at (owns owner i k) k p → ((q : Key) → (k ≡ q → ⊥) → on q fl2 ≡ on q fl)
      → Matches owner (set_at ph k p) i table fl2
  side_stay ph i table fl fl2 k p m slot flight flights =
      side_set ph i table table fl fl2 k p m slot (λ q ne. refl) flight flights

  pub self : (k : Key) → (same_key k k) ≡ true
  self k = key-true k k refl

  pub apart : (k q : Key) → (k ≡ q → ⊥) → (same_key q k) ≡ false
  apart k q ne = key-false q k (λ h. ne (sym h))

  pub push_here : (k : Key) (r : MachineRecord) (out : List MachineRecord) → on k out ≡ [] → is_on k r ≡ true → on k (out ++ r ∷ []) ≡ r ∷ []
  push_here k r out h e = on-append k out (r ∷ []) ∙ ap (λ z. z ++ on k (r ∷ [])) h ∙ on_here k r [] e

  pub push_else : (q : Key) (r : MachineRecord) (out : List MachineRecord) → is_on q r ≡ false → on q (out ++ r ∷ []) ≡ on q out
  push_else q r out e = on-append q out (r ∷ []) ∙ ap (λ z. on q out ++ z) (on_elsewhere q r [] e) ∙ append-nil (on q out)

  -- the slot that a side has at a port of known phase
  pub slot_is : (ph : Key → Phase) (i : GatewayId) (table : Key → Slot) (fl : List MachineRecord) (k : Key) (b : Bool) (p : Phase) → Matches owner ph i table fl → owns owner i k ≡ b → ph k ≡ p → table k ≡ slot_at b p
  slot_is ph i table fl k b p m e h = m.slots k ∙ ap (λ c. slot_at c (ph k)) e ∙ ap (slot_at b) h

  pub flight_is : (ph : Key → Phase) (i : GatewayId) (table : Key → Slot) (fl : List MachineRecord) (k : Key) (b : Bool) (p : Phase) → Matches owner ph i table fl → owns owner i k ≡ b → ph k ≡ p → on k fl ≡ flight_at b k p
  flight_is ph i table fl k b p m e h = m.flights k ∙ ap (λ c. flight_at c k (ph k)) e ∙ ap (flight_at b k) h

  -- Room for a phase at a port: its owner has no other pair of the endpoint; and where the other gateway has one, neither
  -- of the two is one that its owner has accepted and not marked.
  pub record Room (ph : Key → Phase) (k : Key) (after_act : Phase) : Type 0 where
    pub fresh : (q : Key) (e : Endpoint) → (k ≡ q → ⊥) → owner k ≡ owner q → named after_act ≡ Some e → named (ph q) ≡ Some e → ⊥
    pub near : (q : Key) (e : Endpoint) → (owner k ≡ owner q → ⊥) → named after_act ≡ Some e → ph q ≡ Accepted false e → ⊥
    pub clear : (q : Key) (e : Endpoint) → (owner k ≡ owner q → ⊥) → named (ph q) ≡ Some e → after_act ≡ Accepted false e → ⊥

  -- What has to be shown where a deed changes one port's phase. `b` says whether the port is the actor's.
  pub record Turn (b : Bool) (k : Key) (before after_act : Phase) (mine mine2 : Key → Slot) (ts ps : List MachineRecord) (inn : List MachineRecord) : Type 0 where
    pub slot : mine2 k ≡ slot_at b after_act
    pub slots : (q : Key) → (k ≡ q → ⊥) → mine2 q ≡ mine q
    pub theirs : slot_at (not b) before ≡ slot_at (not b) after_act
    pub pushed : flight_at b k before ++ on k ps ≡ flight_at b k after_act
    pub pushed_else : (q : Key) → (k ≡ q → ⊥) → on q ps ≡ []
    pub left : on k inn ≡ flight_at (not b) k after_act
    pub taken_else : (q : Key) → (k ≡ q → ⊥) → on q (ts ++ inn) ≡ on q inn
    pub alive : (e : Endpoint) → after_act ≡ GivenUp e → ⊥
    pub heard : (e : Endpoint) → accepted before ≡ Some e → (accepted after_act ≡ Some e) ⊎ (accepted after_act ≡ None)

  -- the pairs of each endpoint stay apart, where one port gets a phase that has room
  pub one_set : (ph : Key → Phase) (k : Key) (p : Phase) → ((a b : Key) (e : Endpoint) → owner a ≡ owner b → named (ph a) ≡ Some e → named (ph b) ≡ Some e → a ≡ b) → Room ph k p
      → (a b : Key) (e : Endpoint) → owner a ≡ owner b → named (set_at ph k p a) ≡ Some e → named (set_at ph k p b) ≡ Some e → a ≡ b
  one_set ph k p one u a b e alike ha hb = elim (cases_key k a) [
    | inl ea ↦ elim (cases_key k b) [
      | inl eb ↦ sym ea ∙ eb
      | inr nb ↦ absurd (u.fresh b e nb (ap owner ea ∙ alike) (ap named (sym (set_same ph k p a ea)) ∙ ha) (ap named (sym (set_other ph k p b nb)) ∙ hb))
    ]
    | inr na ↦ elim (cases_key k b) [
      | inl eb ↦ absurd (u.fresh a e na (ap owner eb ∙ sym alike) (ap named (sym (set_same ph k p b eb)) ∙ hb) (ap named (sym (set_other ph k p a na)) ∙ ha))
      | inr nb ↦ one a b e alike (ap named (sym (set_other ph k p a na)) ∙ ha) (ap named (sym (set_other ph k p b nb)) ∙ hb)
    ]
  ]

  pub beside_set : (ph : Key → Phase) (k : Key) (p : Phase) → ((a b : Key) (e : Endpoint) → (owner a ≡ owner b → ⊥) → named (ph a) ≡ Some e → ph b ≡ Accepted false e → ⊥) → Room ph k p
      → (a b : Key) (e : Endpoint) → (owner a ≡ owner b → ⊥) → named (set_at ph k p a) ≡ Some e → set_at ph k p b ≡ Accepted false e → ⊥
  beside_set ph k p side u a b e far ha hb = elim (cases_key k a) [
    | inl ea ↦ elim (cases_key k b) [
      | inl eb ↦ far (ap owner (sym ea ∙ eb))
      | inr nb ↦ u.near b e (λ h. far (ap owner (sym ea) ∙ h)) (ap named (sym (set_same ph k p a ea)) ∙ ha) (sym (set_other ph k p b nb) ∙ hb)
    ]
    | inr na ↦ elim (cases_key k b) [
      | inl eb ↦ u.clear a e (λ h. far (sym h ∙ ap owner eb)) (ap named (sym (set_other ph k p a na)) ∙ ha) (sym (set_same ph k p b eb) ∙ hb)
      | inr nb ↦ side a b e far (ap named (sym (set_other ph k p a na)) ∙ ha) (sym (set_other ph k p b nb) ∙ hb)
    ]
  ]

  module _ (i : GatewayId) (mine : Key → Slot) (out : List MachineRecord) (theirs : Key → Slot) (inn : List MachineRecord) (ph : Key → Phase) where
    -- there is room for a phase with the endpoint that the port had, where it isn't newly accepted
    pub room_same : (k : Key) (before after_act : Phase) (ts : List MachineRecord) → Talks owner i mine out theirs ts ph → ph k ≡ before → ((n : Endpoint) → named after_act ≡ Some n → named before ≡ Some n) → ((n : Endpoint) → after_act ≡ Accepted false n → before ≡ Accepted false n) → Room ph k after_act
    room_same k before after_act ts t now names agrees = record {
      fresh = λ q e ne alike h g. ne (t.one_each k q e alike (ap named now ∙ names e h) g);
      near = λ q e far h g. t.beside k q e far (ap named now ∙ names e h) g;
      clear = λ q e far g h. t.beside q k e (λ z. far (sym z)) g (now ∙ agrees e h);
    }

    -- there is room for a new own pair of an endpoint that the table doesn't have
    pub room_new : (k : Key) (e : Endpoint) (after_act : Phase) (ts : List MachineRecord) → Talks owner i mine out theirs ts ph → owns owner i k ≡ true → IsUnbound mine e → ((n : Endpoint) → named after_act ≡ Some n → n ≡ e) → ((n : Endpoint) → after_act ≡ Accepted false n → ⊥) → Room ph k after_act
    room_new k e after_act ts t own unbound names never = record {
      fresh = λ q n ne alike h g. unbound q (ap held (slot_is ph i mine out q true (ph q) t.here (alike_owns owner i k q alike ∙ own) refl) ∙ g ∙ ap (λ x. Some x) (names n h));
      near = λ q n far h g. unbound q (ap held (slot_is ph i mine out q false (Accepted false n) t.here (apart_owns owner i k q far ∙ ap not own) g) ∙ ap (λ x. Some x) (names n h));
      clear = λ q n far g h. never n h;
    }

    -- there is room to accept a pair of an endpoint that the table doesn't have
    pub room_agreed : (k : Key) (e : Endpoint) (before after_act : Phase) (ts : List MachineRecord) → Talks owner i mine out theirs ts ph → owns owner i k ≡ false → ph k ≡ before → IsUnbound mine e → ((n : Endpoint) → named after_act ≡ Some n → named before ≡ Some n) → ((n : Endpoint) → after_act ≡ Accepted false n → n ≡ e) → Room ph k after_act
    room_agreed k e before after_act ts t own now unbound names agrees = record {
      fresh = λ q n ne alike h g. ne (t.one_each k q n alike (ap named now ∙ names n h) g);
      near = λ q n far h g. t.beside k q n far (ap named now ∙ names n h) g;
      clear = λ q n far g h. unbound q (ap held (slot_is ph i mine out q true (ph q) t.here (apart_owns owner i k q far ∙ ap not own) refl) ∙ g ∙ ap (λ x. Some x) (agrees n h));
    }

    pub turned : (b : Bool) (k : Key) (before after_act : Phase) (mine2 : Key → Slot) (ts ps : List MachineRecord) → Talks owner i mine out theirs (ts ++ inn) ph → owns owner i k ≡ b → ph k ≡ before → Turn b k before after_act mine mine2 ts ps inn → Room ph k after_act → (i ≡ One → Excused (set_at ph k after_act) ps) → (i ≡ Zero → Excused ph inn) → (owner k ≡ Zero → is_given_up after_act ≡ false) → Talks owner i mine2 (out ++ ps) theirs inn (set_at ph k after_act)
    turned b k before after_act mine2 ts ps t own now u room xp xi z =
        let their : owns owner (other i) k ≡ not b = other-owns owner i k ∙ ap not own in
        let out_is : on k (out ++ ps) ≡ flight_at b k after_act = on-append k out ps ∙ ap (λ z. z ++ on k ps) (flight_is ph i mine out k b before t.here own now) ∙ u.pushed in
        let quiet : (n : Endpoint) (rs : List MachineRecord) (c : Bool) → on k rs ≡ flight_at c k after_act → accepted (ph k) ≡ Some n → has_accept k rs ≡ true → accepted after_act ≡ Some n =
        λ n rs c e a h. elim (u.heard n (ap accepted (sym now) ∙ a)) [ inl x ↦ x | inr x ↦ absurd (calm c k after_act rs e x h) ] in
        let old_quiet : (n : Endpoint) → accepted (ph k) ≡ Some n → has_accept k out ≡ true → accepted after_act ≡ Some n =
        λ n a h. quiet n (out ++ ps) b out_is a (has_accept-more k out ps h) in
        record {
          here = side_set ph i mine mine2 out (out ++ ps) k after_act t.here
              (u.slot ∙ ap (λ c. slot_at c after_act) (sym own)) u.slots
              (out_is ∙ ap (λ c. flight_at c k after_act) (sym own)) (λ q ne. on-append q out ps ∙ ap (λ z. on q out ++ z) (u.pushed_else q ne) ∙ append-nil (on q out));
          there = side_stay ph (other i) theirs (ts ++ inn) inn k after_act t.there
              (slot_is ph (other i) theirs (ts ++ inn) k (not b) before t.there their now ∙ u.theirs ∙ ap (λ c. slot_at c after_act) (sym their))
              (u.left ∙ ap (λ c. flight_at c k after_act) (sym their)) (λ q ne. sym (u.taken_else q ne));
          excused_out = λ one. excused_push (set_at ph k after_act) out ps (excused_set ph k after_act out (t.excused_out one) u.alive old_quiet) (xp one);
          excused_in = λ zero. excused_set ph k after_act inn (xi zero) u.alive (λ n a h. quiet n inn (not b) u.left a h);
          steady = λ q zero. elim (cases_key k q) [ inl e ↦ ap is_given_up (set_same ph k after_act q e) ∙ z (ap owner e ∙ zero) | inr ne ↦ ap is_given_up (set_other ph k after_act q ne) ∙ t.steady q zero ];
          one_each = one_set ph k after_act t.one_each room;
          beside = beside_set ph k after_act t.beside room;
        }
