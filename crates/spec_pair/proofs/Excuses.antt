-- Each proposal that was given up keeps its excuse: an Accept, under way, of another port for the same endpoint.
use Rattle.std.proofs.Common.{◌≡◌, Bool, true, false, cond, List, [], ◌∷◌, ◌++◌, IsTrue, Some, None, refl, sym, ap, ◌∙◌, inl, inr, ◌⊎◌}
use Rattle.std.proofs.lemmas.Bool.{both_ways}
use Rattle.nat_types.proofs.Offered.{key-true, key-false}
use Rattle.nat_types.specs.Same.{same_key, same}
use Rattle.nat_types.specs.declared.pairs.Endpoint.{Endpoint}
use Rattle.nat_types.specs.declared.pairs.Key.{Key}
use Rattle.spec_pair.proofs.Phase.{Phase, Nothing, Accepted, GivenUp, from_owner, to_owner, accepted, has_accept, Excused, flight_at}
use Rattle.spec_pair.specs.Talk.{MachineRecord, Install, Accept, Refuse, Ask, Yes, No, Begin, Put, Done, Want, Grant, Owner, Tell, on, set_at}
use Rattle.spec_pair.proofs.Set.{set_same, set_other, cases_key}

-- where no more proposals are given up, and each excuse stays, all are excused
pub excused_more : (ph ph2 : Key → Phase) (rs : List MachineRecord) → Excused ph rs → ((q : Key) (e : Endpoint) → ph2 q ≡ GivenUp e → ph q ≡ GivenUp e) → ((q : Key) (e : Endpoint) → has_accept q rs ≡ true → accepted (ph q) ≡ Some e → accepted (ph2 q) ≡ Some e) → Excused ph2 rs
excused_more ph ph2 [] x fewer stays = tt
excused_more ph ph2 (Install k e ∷ rs) x fewer stays =
    ((λ g. let old : (q : Key) × (accepted (ph q) ≡ Some e) × IsTrue (has_accept q rs) = x.0 (fewer k e g) in (old.0, stays old.0 e old.2 old.1, old.2)), excused_more ph ph2 rs x.1 fewer stays)
excused_more ph ph2 (Accept k ∷ rs) x fewer stays = excused_more ph ph2 rs x fewer (λ q e h. stays q e (elim (same_key q k) as (λ b. cond b true (has_accept q rs) ≡ true) [ true ↦ refl | false ↦ h ]))
excused_more ph ph2 (Refuse k ∷ rs) x fewer stays = excused_more ph ph2 rs x fewer stays
excused_more ph ph2 (Ask k ∷ rs) x fewer stays = excused_more ph ph2 rs x fewer stays
excused_more ph ph2 (Yes k ∷ rs) x fewer stays = excused_more ph ph2 rs x fewer stays
excused_more ph ph2 (No k ∷ rs) x fewer stays = excused_more ph ph2 rs x fewer stays
excused_more ph ph2 (Begin ∷ rs) x fewer stays = excused_more ph ph2 rs x fewer stays
excused_more ph ph2 (Put k e ∷ rs) x fewer stays = excused_more ph ph2 rs x fewer stays
excused_more ph ph2 (Done ∷ rs) x fewer stays = excused_more ph ph2 rs x fewer stays
excused_more ph ph2 (Want ∷ rs) x fewer stays = excused_more ph ph2 rs x fewer stays
excused_more ph ph2 (Grant qs ∷ rs) x fewer stays = excused_more ph ph2 rs x fewer stays
excused_more ph ph2 (Owner fst lst ∷ rs) x fewer stays = excused_more ph ph2 rs x fewer stays
excused_more ph ph2 (Tell t m ∷ rs) x fewer stays = excused_more ph ph2 rs x fewer stays

-- one port gets a phase in which it isn't given up, and no Accept of it is under way where its was accepted
pub excused_set : (ph : Key → Phase) (k : Key) (p : Phase) (rs : List MachineRecord) → Excused ph rs → ((e : Endpoint) → p ≡ GivenUp e → ⊥) → ((e : Endpoint) → accepted (ph k) ≡ Some e → has_accept k rs ≡ true → accepted p ≡ Some e) → Excused (set_at ph k p) rs
excused_set ph k p rs x alive kept =
    excused_more ph (set_at ph k p) rs x
    (λ q e h. elim (cases_key k q) [ inl same ↦ absurd (alive e (sym (set_same ph k p q same) ∙ h)) | inr ne ↦ sym (set_other ph k p q ne) ∙ h ])
    (λ q e a h. elim (cases_key k q) [ inl same ↦ ap accepted (set_same ph k p q same) ∙ kept e (ap (λ x. accepted (ph x)) same ∙ h) (ap (λ n. has_accept n rs) same ∙ a) | inr ne ↦ ap accepted (set_other ph k p q ne) ∙ h ])

pub has_accept-more : (q : Key) (rs ss : List MachineRecord) → has_accept q rs ≡ true → has_accept q (rs ++ ss) ≡ true
has_accept-more q [] ss h = cc
has_accept-more q (Install k e ∷ rs) ss h = has_accept-more q rs ss h
has_accept-more q (Accept k ∷ rs) ss h = elim (cases_key q k) [ inl e ↦ ap (λ b. cond b true (has_accept q (rs ++ ss))) (key-true q k e) | inr ne ↦ ap (λ b. cond b true (has_accept q (rs ++ ss))) (key-false q k ne) ∙ has_accept-more q rs ss (sym (ap (λ b. cond b true (has_accept q rs)) (key-false q k ne)) ∙ h) ]
has_accept-more q (Refuse k ∷ rs) ss h = has_accept-more q rs ss h
has_accept-more q (Ask k ∷ rs) ss h = has_accept-more q rs ss h
has_accept-more q (Yes k ∷ rs) ss h = has_accept-more q rs ss h
has_accept-more q (No k ∷ rs) ss h = has_accept-more q rs ss h
has_accept-more q (Begin ∷ rs) ss h = has_accept-more q rs ss h
has_accept-more q (Put k e ∷ rs) ss h = has_accept-more q rs ss h
has_accept-more q (Done ∷ rs) ss h = has_accept-more q rs ss h
has_accept-more q (Want ∷ rs) ss h = has_accept-more q rs ss h
has_accept-more q (Grant qs ∷ rs) ss h = has_accept-more q rs ss h
has_accept-more q (Owner fst lst ∷ rs) ss h = has_accept-more q rs ss h
has_accept-more q (Tell t m ∷ rs) ss h = has_accept-more q rs ss h

pub has_accept-last : (q : Key) (rs : List MachineRecord) → has_accept q (rs ++ Accept q ∷ []) ≡ true
has_accept-last q [] = ap (λ b. cond b true false) (key-true q q refl)
has_accept-last q (Install k e ∷ rs) = has_accept-last q rs
has_accept-last q (Accept k ∷ rs) = elim (same_key q k) as (λ b. cond b true (has_accept q (rs ++ Accept q ∷ [])) ≡ true) [ true ↦ refl | false ↦ has_accept-last q rs ]
has_accept-last q (Refuse k ∷ rs) = has_accept-last q rs
has_accept-last q (Ask k ∷ rs) = has_accept-last q rs
has_accept-last q (Yes k ∷ rs) = has_accept-last q rs
has_accept-last q (No k ∷ rs) = has_accept-last q rs
has_accept-last q (Begin ∷ rs) = has_accept-last q rs
has_accept-last q (Put k e ∷ rs) = has_accept-last q rs
has_accept-last q (Done ∷ rs) = has_accept-last q rs
has_accept-last q (Want ∷ rs) = has_accept-last q rs
has_accept-last q (Grant qs ∷ rs) = has_accept-last q rs
has_accept-last q (Owner fst lst ∷ rs) = has_accept-last q rs
has_accept-last q (Tell t m ∷ rs) = has_accept-last q rs

-- records that are excused by themselves may be pushed
pub excused_push : (ph : Key → Phase) (rs ss : List MachineRecord) → Excused ph rs → Excused ph ss → Excused ph (rs ++ ss)
excused_push ph [] ss x y = y
excused_push ph (Install k e ∷ rs) ss x y = ((λ g. let old : (q : Key) × (accepted (ph q) ≡ Some e) × IsTrue (has_accept q rs) = x.0 g in (old.0, old.1, has_accept-more old.0 rs ss old.2)), excused_push ph rs ss x.1 y)
excused_push ph (Accept k ∷ rs) ss x y = excused_push ph rs ss x y
excused_push ph (Refuse k ∷ rs) ss x y = excused_push ph rs ss x y
excused_push ph (Ask k ∷ rs) ss x y = excused_push ph rs ss x y
excused_push ph (Yes k ∷ rs) ss x y = excused_push ph rs ss x y
excused_push ph (No k ∷ rs) ss x y = excused_push ph rs ss x y
excused_push ph (Begin ∷ rs) ss x y = excused_push ph rs ss x y
excused_push ph (Put k e ∷ rs) ss x y = excused_push ph rs ss x y
excused_push ph (Done ∷ rs) ss x y = excused_push ph rs ss x y
excused_push ph (Want ∷ rs) ss x y = excused_push ph rs ss x y
excused_push ph (Grant qs ∷ rs) ss x y = excused_push ph rs ss x y
excused_push ph (Owner fst lst ∷ rs) ss x y = excused_push ph rs ss x y
excused_push ph (Tell t m ∷ rs) ss x y = excused_push ph rs ss x y

-- a proposal that is given up is excused by the Accept that comes after it
pub excused_give_up : (ph ph2 : Key → Phase) (k : Key) (n : Endpoint) (q : Key) (rs : List MachineRecord) → Excused ph rs → ((x : Key) (e : Endpoint) → ph2 x ≡ GivenUp e → (ph x ≡ GivenUp e) ⊎ (e ≡ n)) → ((x : Key) (e : Endpoint) → has_accept x rs ≡ true → accepted (ph x) ≡ Some e → accepted (ph2 x) ≡ Some e) → accepted (ph2 k) ≡ Some n → Excused ph2 (rs ++ Accept k ∷ [])
excused_give_up ph ph2 k n q [] x fewer stays here = tt
excused_give_up ph ph2 k n q (Install a e ∷ rs) x fewer stays here = (
  (λ g. elim (fewer a e g) [
    | inl old ↦ let was : (q : Key) × (accepted (ph q) ≡ Some e) × IsTrue (has_accept q rs) = x.0 old in (was.0, stays was.0 e was.2 was.1, has_accept-more was.0 rs (Accept k ∷ []) was.2)
    | inr new ↦ (k, here ∙ ap (λ m. Some m) (sym new), has_accept-last k rs)
  ]),
  excused_give_up ph ph2 k n q rs x.1 fewer stays here,
)
excused_give_up ph ph2 k n q (Accept a ∷ rs) x fewer stays here = excused_give_up ph ph2 k n q rs x fewer (λ x e h. stays x e (elim (same_key x a) as (λ b. cond b true (has_accept x rs) ≡ true) [ true ↦ refl | false ↦ h ])) here
excused_give_up ph ph2 k n q (Refuse a ∷ rs) x fewer stays here = excused_give_up ph ph2 k n q rs x fewer stays here
excused_give_up ph ph2 k n q (Ask a ∷ rs) x fewer stays here = excused_give_up ph ph2 k n q rs x fewer stays here
excused_give_up ph ph2 k n q (Yes a ∷ rs) x fewer stays here = excused_give_up ph ph2 k n q rs x fewer stays here
excused_give_up ph ph2 k n q (No a ∷ rs) x fewer stays here = excused_give_up ph ph2 k n q rs x fewer stays here
excused_give_up ph ph2 k n q (Begin ∷ rs) x fewer stays here = excused_give_up ph ph2 k n q rs x fewer stays here
excused_give_up ph ph2 k n q (Put a e ∷ rs) x fewer stays here = excused_give_up ph ph2 k n q rs x fewer stays here
excused_give_up ph ph2 k n q (Done ∷ rs) x fewer stays here = excused_give_up ph ph2 k n q rs x fewer stays here
excused_give_up ph ph2 k n q (Want ∷ rs) x fewer stays here = excused_give_up ph ph2 k n q rs x fewer stays here
excused_give_up ph ph2 k n q (Grant qs ∷ rs) x fewer stays here = excused_give_up ph ph2 k n q rs x fewer stays here
excused_give_up ph ph2 k n q (Owner fst lst ∷ rs) x fewer stays here = excused_give_up ph ph2 k n q rs x fewer stays here
excused_give_up ph ph2 k n q (Tell t m ∷ rs) x fewer stays here = excused_give_up ph ph2 k n q rs x fewer stays here

-- an Accept of a port is among those on the port
pub accept_on : (k : Key) (rs : List MachineRecord) → has_accept k rs ≡ has_accept k (on k rs)
accept_on k [] = refl
accept_on k (Install q e ∷ rs) = elim (same_key k q) as (λ b. has_accept k rs ≡ has_accept k (cond b (Install q e ∷ on k rs) (on k rs))) [ true ↦ accept_on k rs | false ↦ accept_on k rs ]
accept_on k (Accept q ∷ rs) = elim (cases_key k q) [
  | inl h ↦ ap (λ b. cond b true (has_accept k rs)) (key-true k q h) ∙ sym (ap (λ b. cond b true (has_accept k (on k rs))) (key-true k q h)) ∙ ap (λ b. has_accept k (cond b (Accept q ∷ on k rs) (on k rs))) (sym (key-true k q h))
  | inr h ↦ ap (λ b. cond b true (has_accept k rs)) (key-false k q h) ∙ accept_on k rs ∙ ap (λ b. has_accept k (cond b (Accept q ∷ on k rs) (on k rs))) (sym (key-false k q h))
]
accept_on k (Refuse q ∷ rs) = elim (same_key k q) as (λ b. has_accept k rs ≡ has_accept k (cond b (Refuse q ∷ on k rs) (on k rs))) [ true ↦ accept_on k rs | false ↦ accept_on k rs ]
accept_on k (Ask q ∷ rs) = elim (same_key k q) as (λ b. has_accept k rs ≡ has_accept k (cond b (Ask q ∷ on k rs) (on k rs))) [ true ↦ accept_on k rs | false ↦ accept_on k rs ]
accept_on k (Yes q ∷ rs) = elim (same_key k q) as (λ b. has_accept k rs ≡ has_accept k (cond b (Yes q ∷ on k rs) (on k rs))) [ true ↦ accept_on k rs | false ↦ accept_on k rs ]
accept_on k (No q ∷ rs) = elim (same_key k q) as (λ b. has_accept k rs ≡ has_accept k (cond b (No q ∷ on k rs) (on k rs))) [ true ↦ accept_on k rs | false ↦ accept_on k rs ]
accept_on k (Begin ∷ rs) = accept_on k rs
accept_on k (Put q e ∷ rs) = accept_on k rs
accept_on k (Done ∷ rs) = accept_on k rs
accept_on k (Want ∷ rs) = accept_on k rs
accept_on k (Grant qs ∷ rs) = accept_on k rs
accept_on k (Owner fst lst ∷ rs) = accept_on k rs
accept_on k (Tell q e ∷ rs) = elim (same_key k q) as (λ b. has_accept k rs ≡ has_accept k (cond b (Tell q e ∷ on k rs) (on k rs))) [ true ↦ accept_on k rs | false ↦ accept_on k rs ]

no_accept_out : (k : Key) (p : Phase) → has_accept k (from_owner k p) ≡ false
no_accept_out k Nothing = refl
no_accept_out k p = refl

no_accept_back : (k : Key) (p : Phase) → accepted p ≡ None → has_accept k (to_owner k p) ≡ false
no_accept_back k (Accepted m e) h = absurd (cc)
no_accept_back k p h = refl

calm_at : (b : Bool) (k : Key) (p : Phase) → accepted p ≡ None → has_accept k (flight_at b k p) ≡ false
calm_at true k p h = no_accept_out k p
calm_at false k p h = no_accept_back k p h

-- no Accept of a port is under way where the port's phase isn't Accepted
pub calm : (b : Bool) (k : Key) (p : Phase) (rs : List MachineRecord) → on k rs ≡ flight_at b k p → accepted p ≡ None → has_accept k rs ≡ true → ⊥
calm b k p rs h off yes_accept = let none : has_accept k (flight_at b k p) ≡ false = calm_at b k p off in let e : has_accept k rs ≡ has_accept k (flight_at b k p) = accept_on k rs ∙ ap (has_accept k) h in both_ways (has_accept k rs) (e ∙ none) yes_accept
