-- What the notes of a deed change in which pairs are open, which are let go, and which go on or are private at a gateway.
use Rattle.std.proofs.Common.{◌≡◌, ℕ, Bool, true, false, ◌&&◌, ◌||◌, cond, List, ◌∷◌, IsTrue, ◌↔◌, Option, Some, None, refl, sym, ap, ◌∙◌, inl, inr}
use Rattle.std.proofs.lemmas.Bool.{cases_Bool, both_ways, and_from, and_parts, or_cases, or_left, or_right}
use Rattle.nat_types.proofs.Offered.{same-self, pair-eq, pair-self, pair-false}
use Rattle.nat_types.specs.Same.{same, same_pair}
use Rattle.nat_types.specs.declared.gateways.GatewayId.{GatewayId}
use Rattle.nat_types.specs.declared.notes.NoteKind.TheVariants.{Used, Released, Retaken}
use Rattle.nat_types.specs.declared.notes.NoteKind.TheVariants as kinds
use Rattle.nat_types.specs.declared.notes.Note.{Note}
use Rattle.nat_types.specs.declared.pairs.Endpoint.{Endpoint}
use Rattle.nat_types.specs.declared.pairs.Key.{Key}
use Rattle.nat_types.specs.declared.pairs.Pair.{Pair}
use Rattle.spec_trace.specs.Past.{is_synced, has_released, is_open, goes_on, is_private, is_agreed, was_alone}
use Rattle.spec_pair.proofs.Phase.{owns, Phase, named, shared, single, closing, covered, alone_in}
use Rattle.spec_pair.specs.Talk.{Slot, translated, set_at, pair_of, note}
use Rattle.spec_pair.proofs.Traced.{Covers, LetsGo, GoesAt, PrivateAt, WereAlone, TwoAlone}
use Rattle.spec_pair.specs.World.{after_act}
use Rattle.spec_pair.proofs.Inversions.{covered_named, one_some}
use Rattle.spec_pair.proofs.Set.{set_same, set_other, cases_key}

pub still : (b x : Bool) → cond b false x ≡ true → x ≡ true
still true x h = absurd (cc)
still false x h = h

-- ---- what goes on, and what is private

-- a test of pairs is true of exactly those that stand at their keys
abbrev pub Tracks : (Pair → Bool) → (Key → Option Endpoint) → Type 0
Tracks test place = (p : Pair) → (IsTrue (test p) ↔ (place p.key ≡ Some p.endpoint))

pub tracks_quiet : (test test2 : Pair → Bool) (place place2 : Key → Option Endpoint) → Tracks test place → ((p : Pair) → test2 p ≡ test p) → ((q : Key) → place2 q ≡ place q) → Tracks test2 place2
tracks_quiet test test2 place place2 g step same_all p = (λ h. same_all p.key ∙ (g p).0 (sym (step p) ∙ h), λ h. step p ∙ (g p).1 (sym (same_all p.key) ∙ h))

pub tracks_in : (test test2 : Pair → Bool) (place place2 : Key → Option Endpoint) (k : Key) (e : Endpoint) → Tracks test place → ((p : Pair) → test2 p ≡ cond (same_pair p (pair_of k e)) true (test p))
    → place2 k ≡ Some e → ((q : Key) → (k ≡ q → ⊥) → place2 q ≡ place q) → ((n : Endpoint) → place k ≡ Some n → n ≡ e) → Tracks test2 place2
tracks_in test test2 place place2 k e g step now same_else before p = elim (cases_Bool (same_pair p (pair_of k e))) [
  | inl s ↦ let pe : p ≡ pair_of k e = pair-eq p (pair_of k e) s in
      (λ h. ap (λ (x : Pair). place2 x.key) pe ∙ now ∙ ap (λ (x : Pair). Some x.endpoint) (sym pe), λ h. step p ∙ ap (λ b. cond b true (test p)) s)
  | inr n ↦ let was : test2 p ≡ test p = step p ∙ ap (λ b. cond b true (test p)) n in
      elim (cases_key k p.key) [
        | inl at ↦ (
          λ h. let old : place p.key ≡ Some p.endpoint = (g p).0 (sym was ∙ h) in
              let ee : p.endpoint ≡ e = before p.endpoint (ap place at ∙ old) in
              ap place2 (sym at) ∙ now ∙ ap (λ x. Some x) (sym ee),
          λ h. let ee : e ≡ p.endpoint = one_some e p.endpoint (sym now ∙ ap place2 at ∙ h) in
              let pp : pair_of k e ≡ p = ap (λ x. pair_of x e) at ∙ ap (λ x. pair_of p.key x) ee in
              absurd (both_ways (same_pair p (pair_of k e)) n (ap (same_pair p) pp ∙ pair-self p)),
        )
        | inr ne ↦ (λ h. same_else p.key ne ∙ (g p).0 (sym was ∙ h), λ h. was ∙ (g p).1 (sym (same_else p.key ne) ∙ h))
      ]
]

pub tracks_out : (test test2 : Pair → Bool) (place place2 : Key → Option Endpoint) (k : Key) (e : Endpoint) → Tracks test place → ((p : Pair) → test2 p ≡ cond (same_pair p (pair_of k e)) false (test p))
    → place2 k ≡ None → ((q : Key) → (k ≡ q → ⊥) → place2 q ≡ place q) → ((n : Endpoint) → place k ≡ Some n → n ≡ e) → Tracks test2 place2
tracks_out test test2 place place2 k e g step now same_else before p = elim (cases_key k p.key) [
  | inl at ↦ (
    λ h. let old : place p.key ≡ Some p.endpoint = (g p).0 (still (same_pair p (pair_of k e)) (test p) (sym (step p) ∙ h)) in
        let ee : p.endpoint ≡ e = before p.endpoint (ap place at ∙ old) in
        let pp : pair_of k e ≡ p = ap (λ x. pair_of x e) at ∙ ap (λ x. pair_of p.key x) (sym ee) in
        absurd (both_ways (test2 p) (step p ∙ ap (λ b. cond b false (test p)) (ap (same_pair p) pp ∙ pair-self p)) h),
    λ h. let bad : None ≡ Some p.endpoint = sym now ∙ ap place2 at ∙ h in absurd (cc),
  )
  | inr ne ↦
      let off : same_pair p (pair_of k e) ≡ false = pair-false p (pair_of k e) (λ z. ne (sym (ap (λ (x : Pair). x.key) z))) in
      let was : test2 p ≡ test p = step p ∙ ap (λ b. cond b false (test p)) off in
      (λ h. same_else p.key ne ∙ (g p).0 (sym was ∙ h), λ h. was ∙ (g p).1 (sym (same_else p.key ne) ∙ h))
]

-- a note of a gateway on a pair is one of its own
mine_here : (i : GatewayId) (s c x : Bool) → cond (same i i && s) c x ≡ cond s c x
mine_here i s c x = ap (λ b. cond (b && s) c x) (same-self i)

not_here : (j i : GatewayId) (s c x : Bool) → same j i ≡ false → cond (same j i && s) c x ≡ x
not_here j i s c x no_one = ap (λ b. cond (b && s) c x) no_one

-- where no note on a pair is made, the pairs that translate go on as before
pub goes_quiet : (i : GatewayId) (table table2 : Key → Slot) (t : List Note) → GoesAt i table t → ((q : Key) → translated (table2 q) ≡ translated (table q)) → GoesAt i table2 t
goes_quiet i table table2 t g same_all = tracks_quiet (λ p. goes_on i p t) (λ p. goes_on i p t) (λ q. translated (table q)) (λ q. translated (table2 q)) g (λ p. refl) same_all

-- a note of another gateway changes nothing in which pairs go on at this one
pub goes_other : (moment : ℕ) (j i : GatewayId) (table : Key → Slot) (t : List Note) (p : Pair) → same j i ≡ false → GoesAt j table t → (GoesAt j table (note i moment (Used p) ∷ t)) × (GoesAt j table (note i moment (Released p) ∷ t)) × (GoesAt j table (note i moment (Retaken p) ∷ t))
goes_other moment j i table t p no_one g = (
  tracks_quiet (λ q. goes_on j q t) (λ q. goes_on j q (note i moment (Used p) ∷ t)) (λ q. translated (table q)) (λ q. translated (table q)) g (λ q. not_here j i (same_pair q p) true (goes_on j q t) no_one) (λ q. refl),
  tracks_quiet (λ q. goes_on j q t) (λ q. goes_on j q (note i moment (Released p) ∷ t)) (λ q. translated (table q)) (λ q. translated (table q)) g (λ q. not_here j i (same_pair q p) false (goes_on j q t) no_one) (λ q. refl),
  tracks_quiet (λ q. goes_on j q t) (λ q. goes_on j q (note i moment (Retaken p) ∷ t)) (λ q. translated (table q)) (λ q. translated (table q)) g (λ q. not_here j i (same_pair q p) true (goes_on j q t) no_one) (λ q. refl),
)

-- where a pair begins to translate or goes on, it goes on by the trace
pub goes_in : (moment : ℕ) (i : GatewayId) (table table2 : Key → Slot) (t : List Note) (k : Key) (e : Endpoint) → GoesAt i table t → translated (table2 k) ≡ Some e → ((q : Key) → (k ≡ q → ⊥) → translated (table2 q) ≡ translated (table q)) → ((n : Endpoint) → translated (table k) ≡ Some n → n ≡ e) → GoesAt i table2 (note i moment (Retaken (pair_of k e)) ∷ t)
goes_in moment i table table2 t k e g now same_else before = tracks_in (λ p. goes_on i p t) (λ p. goes_on i p (note i moment (Retaken (pair_of k e)) ∷ t)) (λ q. translated (table q)) (λ q. translated (table2 q)) k e g (λ p. mine_here i (same_pair p (pair_of k e)) true (goes_on i p t)) now same_else before

-- where a pair ceases to translate, it goes on no more by the trace
pub goes_out : (moment : ℕ) (i : GatewayId) (table table2 : Key → Slot) (t : List Note) (k : Key) (e : Endpoint) → GoesAt i table t → translated (table k) ≡ Some e → translated (table2 k) ≡ None → ((q : Key) → (k ≡ q → ⊥) → translated (table2 q) ≡ translated (table q)) → GoesAt i table2 (note i moment (Released (pair_of k e)) ∷ t)
goes_out moment i table table2 t k e g was now same_else = tracks_out (λ p. goes_on i p t) (λ p. goes_on i p (note i moment (Released (pair_of k e)) ∷ t)) (λ q. translated (table q)) (λ q. translated (table2 q)) k e g (λ p. mine_here i (same_pair p (pair_of k e)) false (goes_on i p t)) now same_else (λ n h. one_some n e (sym h ∙ was))

pub private_quiet : (i : GatewayId) (table table2 : Key → Slot) (t : List Note) → PrivateAt i table t → ((q : Key) → alone_in (table2 q) ≡ alone_in (table q)) → PrivateAt i table2 t
private_quiet i table table2 t g same_all = tracks_quiet (λ p. is_private i p t) (λ p. is_private i p t) (λ q. alone_in (table q)) (λ q. alone_in (table2 q)) g (λ p. refl) same_all

-- a note of another gateway changes nothing in which pairs are private to this one
pub private_other : (moment : ℕ) (j i : GatewayId) (table : Key → Slot) (t : List Note) (p : Pair) → same j i ≡ false → PrivateAt j table t → (PrivateAt j table (note i moment (kinds.Alone p) ∷ t)) × (PrivateAt j table (note i moment (Retaken p) ∷ t))
private_other moment j i table t p no_one g = (
  tracks_quiet (λ q. is_private j q t) (λ q. is_private j q (note i moment (kinds.Alone p) ∷ t)) (λ q. alone_in (table q)) (λ q. alone_in (table q)) g (λ q. not_here j i (same_pair q p) true (is_private j q t) no_one) (λ q. refl),
  tracks_quiet (λ q. is_private j q t) (λ q. is_private j q (note i moment (Retaken p) ∷ t)) (λ q. alone_in (table q)) (λ q. alone_in (table q)) g (λ q. not_here j i (same_pair q p) false (is_private j q t) no_one) (λ q. refl),
)

-- a pair that its gateway has alone or marked from now on is private to it
pub private_in : (moment : ℕ) (i : GatewayId) (table table2 : Key → Slot) (t : List Note) (k : Key) (e : Endpoint) → PrivateAt i table t → alone_in (table2 k) ≡ Some e → ((q : Key) → (k ≡ q → ⊥) → alone_in (table2 q) ≡ alone_in (table q)) → ((n : Endpoint) → alone_in (table k) ≡ Some n → n ≡ e) → PrivateAt i table2 (note i moment (kinds.Alone (pair_of k e)) ∷ t)
private_in moment i table table2 t k e g now same_else before = tracks_in (λ p. is_private i p t) (λ p. is_private i p (note i moment (kinds.Alone (pair_of k e)) ∷ t)) (λ q. alone_in (table q)) (λ q. alone_in (table2 q)) k e g (λ p. mine_here i (same_pair p (pair_of k e)) true (is_private i p t)) now same_else before

-- a pair that its gateway takes over, or releases, is private to it no more
pub private_out : (moment : ℕ) (i : GatewayId) (table table2 : Key → Slot) (t : List Note) (k : Key) (e : Endpoint) → PrivateAt i table t → alone_in (table2 k) ≡ None → ((q : Key) → (k ≡ q → ⊥) → alone_in (table2 q) ≡ alone_in (table q)) → ((n : Endpoint) → alone_in (table k) ≡ Some n → n ≡ e) → PrivateAt i table2 (note i moment (Retaken (pair_of k e)) ∷ t)
private_out moment i table table2 t k e g now same_else before = tracks_out (λ p. is_private i p t) (λ p. is_private i p (note i moment (Retaken (pair_of k e)) ∷ t)) (λ q. alone_in (table q)) (λ q. alone_in (table2 q)) k e g (λ p. mine_here i (same_pair p (pair_of k e)) false (is_private i p t)) now same_else before

-- ---- what was alone

pub alone_later : (p : Pair) (n : Note) (t : List Note) → IsTrue (was_alone p t) → IsTrue (was_alone p (n ∷ t))
alone_later p n t h = or_right _ (was_alone p t) h

pub either_later : (p q : Pair) (n : Note) (t : List Note) → IsTrue (was_alone p t || was_alone q t) → IsTrue (was_alone p (n ∷ t) || was_alone q (n ∷ t))
either_later p q n t h = elim (or_cases (was_alone p t) (was_alone q t) h) [ inl a ↦ or_left (was_alone p (n ∷ t)) (was_alone q (n ∷ t)) (alone_later p n t a) | inr a ↦ or_right (was_alone p (n ∷ t)) (was_alone q (n ∷ t)) (alone_later q n t a) ]

pub or_flip : (a b : Bool) → (a || b) ≡ true → (b || a) ≡ true
or_flip a b h = elim (or_cases a b h) [ inl x ↦ or_right b a x | inr x ↦ or_left b a x ]

pub alone_now : (moment : ℕ) (i : GatewayId) (p : Pair) (t : List Note) → IsTrue (was_alone p (note i moment (kinds.Alone p) ∷ t))
alone_now moment i p t = or_left (same_pair p p) (was_alone p t) (pair-self p)

pub were_set : (ph : Key → Phase) (t : List Note) (k : Key) (after_act : Phase) → WereAlone ph t → ((n : Endpoint) → single after_act ≡ Some n → IsTrue (was_alone (pair_of k n) t)) → WereAlone (set_at ph k after_act) t
were_set ph t k after_act w here q e h = elim (cases_key k q) [
  | inl at ↦ ap (λ x. was_alone (pair_of x e) t) (sym at) ∙ here e (ap single (sym (set_same ph k after_act q at)) ∙ h)
  | inr ne ↦ w q e (ap single (sym (set_other ph k after_act q ne)) ∙ h)
]

pub were_later : (ph : Key → Phase) (n : Note) (t : List Note) → WereAlone ph t → WereAlone ph (n ∷ t)
were_later ph n t w k e h = alone_later (pair_of k e) n t (w k e h)

-- ---- what is open, and what is let go

module _ (owner : Key → GatewayId) where
  -- each open pair is still covered, where the one port whose phase changes covers its pair as before
  pub covers_set : (ph : Key → Phase) (t : List Note) (k : Key) (after_act : Phase) → Covers owner ph t → ((n : Endpoint) → covered (is_synced (owner k) t) (ph k) ≡ Some n → covered (is_synced (owner k) t) after_act ≡ Some n) → Covers owner (set_at ph k after_act) t
  covers_set ph t k after_act c more p o = elim (cases_key k p.key) [
    | inl e ↦ ap (covered (is_synced (owner p.key) t)) (set_same ph k after_act p.key e) ∙ ap (λ x. covered (is_synced (owner x) t) after_act) (sym e) ∙ more p.endpoint (ap (λ x. covered (is_synced (owner x) t) (ph x)) e ∙ c p o)
    | inr ne ↦ ap (covered (is_synced (owner p.key) t)) (set_other ph k after_act p.key ne) ∙ c p o
  ]

  -- a release opens no pair
  pub covers_release : (moment : ℕ) (ph : Key → Phase) (t : List Note) (i : GatewayId) (p : Pair) → Covers owner ph t → Covers owner ph (note i moment (Released p) ∷ t)
  covers_release moment ph t i p c q o = c q (still (same_pair q p && is_agreed i q t) (is_open q t) o)

  -- an agreed release closes the pair, so nobody has to hold it
  pub covers_agreed : (moment : ℕ) (ph : Key → Phase) (t : List Note) (i : GatewayId) (k : Key) (e : Endpoint) (after_act : Phase) → Covers owner ph t → named (ph k) ≡ Some e → is_agreed i (pair_of k e) t ≡ true → Covers owner (set_at ph k after_act) (note i moment (Released (pair_of k e)) ∷ t)
  covers_agreed moment ph t i k e after_act c held_by agreed q o =
      elim (cases_key k q.key) [
        | inl at ↦
            let was : is_open q t ≡ true = still (same_pair q (pair_of k e) && is_agreed i q t) (is_open q t) o in
            let names : named (ph q.key) ≡ Some q.endpoint = covered_named (is_synced (owner q.key) t) (ph q.key) q.endpoint (c q was) in
            let en : e ≡ q.endpoint = one_some e q.endpoint (sym held_by ∙ ap (λ n. named (ph n)) at ∙ names) in
            let pq : pair_of k e ≡ q = ap (λ n. pair_of n e) at ∙ ap (λ n. pair_of q.key n) en in
            let b : (same_pair q (pair_of k e) && is_agreed i q t) ≡ true = and_from (same_pair q (pair_of k e)) (is_agreed i q t) (ap (same_pair q) pq ∙ pair-self q) (ap (λ x. is_agreed i x t) (sym pq) ∙ agreed) in
            let gone : is_open q (note i moment (Released (pair_of k e)) ∷ t) ≡ false = ap (λ x. cond x false (is_open q t)) b in
            absurd (both_ways (is_open q (note i moment (Released (pair_of k e)) ∷ t)) gone o)
        | inr ne ↦ ap (covered (is_synced (owner q.key) t)) (set_other ph k after_act q.key ne) ∙ c q (still (same_pair q (pair_of k e) && is_agreed i q t) (is_open q t) o)
      ]

  -- after a use of a pair that is covered, each open pair is
  pub covers_use : (moment : ℕ) (ph : Key → Phase) (t : List Note) (i : GatewayId) (p : Pair) → Covers owner ph t → covered (is_synced (owner p.key) t) (ph p.key) ≡ Some p.endpoint → Covers owner ph (note i moment (Used p) ∷ t)
  covers_use moment ph t i p c held_by q o = elim (cases_Bool (same_pair q p)) [
    | inl s ↦ let e : p ≡ q = sym (pair-eq q p s) in ap (λ (x : Pair). covered (is_synced (owner x.key) t) (ph x.key)) (sym e) ∙ held_by ∙ ap (λ (x : Pair). Some x.endpoint) e
    | inr n ↦ c q (ap (λ b. cond b true (is_open q t)) (sym n) ∙ o)
  ]

  -- the pairs that a gateway asks to close are still let go, where one port's phase changes
  pub lets_go_set : (j : GatewayId) (ph : Key → Phase) (t : List Note) (k : Key) (after_act : Phase) → LetsGo owner j ph t → ((n : Endpoint) → IsTrue (owns owner j k) → closing after_act ≡ Some n → closing (ph k) ≡ Some n) → LetsGo owner j (set_at ph k after_act) t
  lets_go_set j ph t k after_act l fewer s q e own cl = elim (cases_key k q) [
    | inl at ↦ l s q e own (ap (λ n. closing (ph n)) (sym at) ∙ fewer e (ap (owns owner j) at ∙ own) (ap closing (sym (set_same ph k after_act q at)) ∙ cl))
    | inr ne ↦ l s q e own (ap closing (sym (set_other ph k after_act q ne)) ∙ cl)
  ]

  -- a release lets more pairs go
  pub lets_go_release : (moment : ℕ) (j : GatewayId) (ph : Key → Phase) (t : List Note) (i : GatewayId) (p : Pair) → LetsGo owner j ph t → LetsGo owner j ph (note i moment (Released p) ∷ t)
  lets_go_release moment j ph t i p l s q e own cl = elim (same j i && same_pair (pair_of q e) p) as (λ b. cond b true (has_released j (pair_of q e) t) ≡ true) [ true ↦ refl | false ↦ l s q e own cl ]

  -- a note that takes a pair again changes nothing, where the pair isn't asked to be closed
  pub lets_go_retake : (moment : ℕ) (j : GatewayId) (ph : Key → Phase) (t : List Note) (i : GatewayId) (k : Key) (n : Endpoint) → LetsGo owner j ph t → (IsTrue (owns owner j k) → same j i ≡ true → closing (ph k) ≡ None) → LetsGo owner j ph (note i moment (Retaken (pair_of k n)) ∷ t)
  lets_go_retake moment j ph t i k n l none s q e own cl = elim (cases_Bool (same j i && same_pair (pair_of q e) (pair_of k n))) [
    | inl b ↦ let parts : (same j i ≡ true) × (same_pair (pair_of q e) (pair_of k n) ≡ true) = and_parts (same j i) (same_pair (pair_of q e) (pair_of k n)) b in
        let at : q ≡ k = ap (λ x. x.key) (pair-eq (pair_of q e) (pair_of k n) parts.1) in
        let a : closing (ph k) ≡ None = none (ap (owns owner j) (sym at) ∙ own) parts.0 in
        let bad : None ≡ Some e = sym a ∙ ap (λ x. closing (ph x)) (sym at) ∙ cl in absurd (cc)
    | inr b ↦ ap (λ x. cond x false (has_released j (pair_of q e) t)) b ∙ l s q e own cl
  ]

  pub lets_go_use : (moment : ℕ) (j : GatewayId) (ph : Key → Phase) (t : List Note) (i : GatewayId) (k : Key) (n : Endpoint) → LetsGo owner j ph t → (IsTrue (owns owner j k) → same j i ≡ true → closing (ph k) ≡ None) → LetsGo owner j ph (note i moment (Used (pair_of k n)) ∷ t)
  lets_go_use moment j ph t i k n l none s q e own cl = lets_go_retake moment j ph t i k n l none s q e own cl

  pub lets_go_alone : (moment : ℕ) (j : GatewayId) (ph : Key → Phase) (t : List Note) (i : GatewayId) (k : Key) (n : Endpoint) → LetsGo owner j ph t → (IsTrue (owns owner j k) → same j i ≡ true → closing (ph k) ≡ None) → LetsGo owner j ph (note i moment (kinds.Alone (pair_of k n)) ∷ t)
  lets_go_alone moment j ph t i k n l none s q e own cl = lets_go_retake moment j ph t i k n l none s q e own cl

  -- the pair that gateway i begins to close is let go
  pub lets_go_close : (moment : ℕ) (i : GatewayId) (ph : Key → Phase) (t : List Note) (k : Key) (n : Endpoint) (after_act : Phase) → LetsGo owner i ph t → closing after_act ≡ Some n → LetsGo owner i (set_at ph k after_act) (note i moment (Released (pair_of k n)) ∷ t)
  lets_go_close moment i ph t k n after_act l now s q e own cl = elim (cases_key k q) [
    | inl at ↦ let en : Some n ≡ Some e = sym now ∙ ap closing (sym (set_same ph k after_act q at)) ∙ cl in
        let ee : n ≡ e = cc in
        let pp : pair_of k n ≡ pair_of q e = ap (λ x. pair_of x n) at ∙ ap (pair_of q) ee in
        let b : (same i i && same_pair (pair_of q e) (pair_of k n)) ≡ true = and_from (same i i) (same_pair (pair_of q e) (pair_of k n)) (same-self i) (ap (same_pair (pair_of q e)) pp ∙ pair-self (pair_of q e)) in
        ap (λ x. cond x true (has_released i (pair_of q e) t)) b
    | inr ne ↦ lets_go_release moment i ph t i (pair_of k n) l s q e own (ap closing (sym (set_other ph k after_act q ne)) ∙ cl)
  ]

  -- of two pairs of an endpoint one was alone, where one port gets a phase of which that holds
  pub two_set : (ph : Key → Phase) (t : List Note) (k : Key) (after_act : Phase) → TwoAlone owner ph t
      → ((q : Key) (e : Endpoint) → (owner k ≡ owner q → ⊥) → named after_act ≡ Some e → shared (ph q) ≡ Some e → IsTrue (was_alone (pair_of k e) t || was_alone (pair_of q e) t))
      → ((q : Key) (e : Endpoint) → (owner q ≡ owner k → ⊥) → named (ph q) ≡ Some e → shared after_act ≡ Some e → IsTrue (was_alone (pair_of q e) t || was_alone (pair_of k e) t))
      → TwoAlone owner (set_at ph k after_act) t
  two_set ph t k after_act w names shares a b e far ha hb = elim (cases_key k a) [
    | inl ea ↦ elim (cases_key k b) [
      | inl eb ↦ absurd (far (ap owner (sym ea ∙ eb)))
      | inr nb ↦ ap (λ x. was_alone (pair_of x e) t || was_alone (pair_of b e) t) (sym ea) ∙ names b e (λ h. far (ap owner (sym ea) ∙ h)) (ap named (sym (set_same ph k after_act a ea)) ∙ ha) (ap shared (sym (set_other ph k after_act b nb)) ∙ hb)
    ]
    | inr na ↦ elim (cases_key k b) [
      | inl eb ↦ ap (λ x. was_alone (pair_of a e) t || was_alone (pair_of x e) t) (sym eb) ∙ shares a e (λ h. far (h ∙ ap owner eb)) (ap named (sym (set_other ph k after_act a na)) ∙ ha) (ap shared (sym (set_same ph k after_act b eb)) ∙ hb)
      | inr nb ↦ w a b e far (ap named (sym (set_other ph k after_act a na)) ∙ ha) (ap shared (sym (set_other ph k after_act b nb)) ∙ hb)
    ]
  ]

  -- a port's phase that names and shares no more changes nothing in that
  pub two_less : (ph : Key → Phase) (t : List Note) (k : Key) (after_act : Phase) → TwoAlone owner ph t → ((n : Endpoint) → named after_act ≡ Some n → named (ph k) ≡ Some n) → ((n : Endpoint) → shared after_act ≡ Some n → shared (ph k) ≡ Some n) → TwoAlone owner (set_at ph k after_act) t
  two_less ph t k after_act w names shares = two_set ph t k after_act w (λ q e far h g. w k q e far (names e h) g) (λ q e far g h. w q k e far g (shares e h))

  pub two_later : (ph : Key → Phase) (n : Note) (t : List Note) → TwoAlone owner ph t → TwoAlone owner ph (n ∷ t)
  two_later ph n t w k q e far ha hb = either_later (pair_of k e) (pair_of q e) n t (w k q e far ha hb)
