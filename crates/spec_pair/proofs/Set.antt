-- A function with another value at one place, and the records of a list that are on one port.
use Rattle.std.proofs.Common.{◌≡◌, true, false, not, cond, List, [], ◌∷◌, ◌++◌, refl, sym, ap, subst, ◌∙◌, inl, inr, ◌⊎◌}
use Rattle.std.proofs.lemmas.Bool.{cases_Bool, both_ways}
use Rattle.nat_types.proofs.Offered.{key-eq, key-true, key-false, endpoint-eq, endpoint-true}
use Rattle.nat_types.specs.Same.{same, other, same_key, same_endpoint}
use Rattle.nat_types.specs.declared.gateways.GatewayId.{GatewayId}
use Rattle.nat_types.specs.declared.gateways.GatewayId.TheVariants.{Zero, One}
use Rattle.nat_types.specs.declared.pairs.Endpoint.{Endpoint}
use Rattle.nat_types.specs.declared.pairs.Key.{Key}
use Rattle.spec_pair.proofs.Phase.{owns, has_accept}
use Rattle.spec_pair.specs.Talk.{MachineRecord, Install, Accept, Refuse, Ask, Yes, No, Begin, Put, Done, Want, Grant, Owner, Tell, is_on, on, set_at}

pub cases_key : (a b : Key) → (a ≡ b) ⊎ (a ≡ b → ⊥)
cases_key a b = elim (cases_Bool (same_key a b)) [ inl e ↦ inl (key-eq a b e) | inr e ↦ inr (λ h. both_ways (same_key a b) e (key-true a b h)) ]

pub cases_endpoint : (a b : Endpoint) → (a ≡ b) ⊎ (a ≡ b → ⊥)
cases_endpoint a b = elim (cases_Bool (same_endpoint a b)) [ inl e ↦ inl (endpoint-eq a b e) | inr e ↦ inr (λ h. both_ways (same_endpoint a b) e (endpoint-true a b h)) ]

pub set_same : {A : Type 0} (f : Key → A) (k : Key) (v : A) (q : Key) → k ≡ q → set_at f k v q ≡ v
set_same f k v q e = ap (λ b. cond b v (f q)) (key-true k q e)

pub set_other : {A : Type 0} (f : Key → A) (k : Key) (v : A) (q : Key) → (k ≡ q → ⊥) → set_at f k v q ≡ f q
set_other f k v q ne = ap (λ b. cond b v (f q)) (key-false k q ne)

-- what follows at each port from another function still follows after both change at one port
pub moved : {A B : Type 0} (g : Key → B → A) (f f2 : Key → A) (p : Key → B) (k : Key) (v : B) → ((q : Key) → f q ≡ g q (p q)) → f2 k ≡ g k v → ((q : Key) → (k ≡ q → ⊥) → f2 q ≡ f q) → (q : Key) → f2 q ≡ g q (set_at p k v q)
moved g f f2 p k v was here else_where q =
    elim (cases_key k q) [
      | inl e ↦ subst (λ (x : Key). f2 x ≡ g x (set_at p k v x)) e (here ∙ ap (g k) (sym (set_same p k v k refl)))
      | inr ne ↦ else_where q ne ∙ was q ∙ ap (g q) (sym (set_other p k v q ne))
    ]

-- the records on a port of two lists joined are those of the one, then those of the other
pub on-append : (k : Key) (xs ys : List MachineRecord) → on k (xs ++ ys) ≡ on k xs ++ on k ys
on-append k [] ys = refl
on-append k (x ∷ xs) ys = elim (is_on k x) as (λ b. cond b (x ∷ on k (xs ++ ys)) (on k (xs ++ ys)) ≡ cond b (x ∷ on k xs) (on k xs) ++ on k ys) [
  | true ↦ ap (λ zs. x ∷ zs) (on-append k xs ys)
  | false ↦ on-append k xs ys
]

pub on_here : (k : Key) (r : MachineRecord) (rs : List MachineRecord) → is_on k r ≡ true → on k (r ∷ rs) ≡ r ∷ on k rs
on_here k r rs e = ap (λ b. cond b (r ∷ on k rs) (on k rs)) e

pub on_elsewhere : (k : Key) (r : MachineRecord) (rs : List MachineRecord) → is_on k r ≡ false → on k (r ∷ rs) ≡ on k rs
on_elsewhere k r rs e = ap (λ b. cond b (r ∷ on k rs) (on k rs)) e

-- where no record is on the port, no Accept of it is under way
pub no_accept : (k : Key) (rs : List MachineRecord) → on k rs ≡ [] → has_accept k rs ≡ false
no_accept k [] e = refl
no_accept k (Install q n ∷ rs) e = elim (cases_key k q) [ inl h ↦ cc (on_here k (Install q n) rs (key-true k q h)) | inr h ↦ no_accept k rs (sym (on_elsewhere k (Install q n) rs (key-false k q h)) ∙ e) ]
no_accept k (Accept q ∷ rs) e = elim (cases_key k q) [ inl h ↦ cc (on_here k (Accept q) rs (key-true k q h)) | inr h ↦ ap (λ b. cond b true (has_accept k rs)) (key-false k q h) ∙ no_accept k rs (sym (on_elsewhere k (Accept q) rs (key-false k q h)) ∙ e) ]
no_accept k (Refuse q ∷ rs) e = elim (cases_key k q) [ inl h ↦ cc (on_here k (Refuse q) rs (key-true k q h)) | inr h ↦ no_accept k rs (sym (on_elsewhere k (Refuse q) rs (key-false k q h)) ∙ e) ]
no_accept k (Ask q ∷ rs) e = elim (cases_key k q) [ inl h ↦ cc (on_here k (Ask q) rs (key-true k q h)) | inr h ↦ no_accept k rs (sym (on_elsewhere k (Ask q) rs (key-false k q h)) ∙ e) ]
no_accept k (Yes q ∷ rs) e = elim (cases_key k q) [ inl h ↦ cc (on_here k (Yes q) rs (key-true k q h)) | inr h ↦ no_accept k rs (sym (on_elsewhere k (Yes q) rs (key-false k q h)) ∙ e) ]
no_accept k (No q ∷ rs) e = elim (cases_key k q) [ inl h ↦ cc (on_here k (No q) rs (key-true k q h)) | inr h ↦ no_accept k rs (sym (on_elsewhere k (No q) rs (key-false k q h)) ∙ e) ]
no_accept k (Begin ∷ rs) e = no_accept k rs e
no_accept k (Put q n ∷ rs) e = no_accept k rs e
no_accept k (Done ∷ rs) e = no_accept k rs e
no_accept k (Want ∷ rs) e = no_accept k rs e
no_accept k (Grant qs ∷ rs) e = no_accept k rs e
no_accept k (Owner fst lst ∷ rs) e = no_accept k rs e
no_accept k (Tell q n ∷ rs) e = elim (cases_key k q) [ inl h ↦ cc (on_here k (Tell q n) rs (key-true k q h)) | inr h ↦ no_accept k rs (sym (on_elsewhere k (Tell q n) rs (key-false k q h)) ∙ e) ]

pub same-other : (i j : GatewayId) → same (other i) j ≡ not (same i j)
same-other Zero Zero = refl
same-other Zero One = refl
same-other One Zero = refl
same-other One One = refl

pub other-owns : (owner : Key → GatewayId) (i : GatewayId) (k : Key) → owns owner (other i) k ≡ not (owns owner i k)
other-owns owner i k = same-other i (owner k)

pub cases_gateway : (i j : GatewayId) → (i ≡ j) ⊎ (i ≡ j → ⊥)
cases_gateway Zero Zero = inl refl
cases_gateway Zero One = inr (λ h. cc)
cases_gateway One Zero = inr (λ h. cc)
cases_gateway One One = inl refl

same-apart : (i a b : GatewayId) → (a ≡ b → ⊥) → same i b ≡ not (same i a)
same-apart Zero Zero Zero ne = absurd (ne refl)
same-apart Zero Zero One ne = refl
same-apart Zero One Zero ne = refl
same-apart Zero One One ne = absurd (ne refl)
same-apart One Zero Zero ne = absurd (ne refl)
same-apart One Zero One ne = refl
same-apart One One Zero ne = refl
same-apart One One One ne = absurd (ne refl)

-- of two keys of different gateways a gateway owns the one that it doesn't own the other of
pub apart_owns : (owner : Key → GatewayId) (i : GatewayId) (k q : Key) → (owner k ≡ owner q → ⊥) → owns owner i q ≡ not (owns owner i k)
apart_owns owner i k q ne = same-apart i (owner k) (owner q) ne

pub alike_owns : (owner : Key → GatewayId) (i : GatewayId) (k q : Key) → owner k ≡ owner q → owns owner i q ≡ owns owner i k
alike_owns owner i k q e = ap (same i) (sym e)
