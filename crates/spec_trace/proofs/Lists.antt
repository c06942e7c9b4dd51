-- The list of open pairs that the checker keeps, and the notes that it has seen.
use Rattle.std.proofs.Common.{◌≡◌, ℕ, ◌+◌, ◌<◌, inl, inr, Bool, true, false, not, ◌&&◌, cond, List, [], ◌∷◌, ◌++◌, length, take, get_or, filter, reverse, IsTrue, ◌↔◌, refl, sym, ap, subst, ◌∙◌, arith}
use Rattle.std.specs.Bool.{MatchBool}
use Rattle.std.specs.List.{All, AllWithin, Contains}
use Rattle.std.proofs.lemmas.Bool.{cases_Bool, both_ways, and_from, not-true}
use Rattle.std.proofs.lemmas.List.{take_more, reverse-append}
use Rattle.std.proofs.lemmas.List.Elements.{All-contains, All-from_all_within, All-filter, All-contains_itself, filter_passes, Contains-push_cases, Contains-append_cases, Contains-append_left, Contains-append_right, Contains-push}
use Rattle.nat_types.specs.declared.gateways.GatewayId.{GatewayId}
use Rattle.nat_types.specs.declared.pairs.Pair.{Pair}
use Rattle.nat_types.specs.declared.notes.Note.{Note}
use Rattle.nat_types.specs.Same.{same, same_pair}
use Rattle.nat_types.proofs.Offered.{same-eq, same-true, pair-eq, pair-true}

iff_same : (a b : Bool) (P : Type 0) → (IsTrue a ↔ P) → (IsTrue b ↔ P) → a ≡ b
iff_same true b P f g = sym (g.1 (f.0 refl))
iff_same false true P f g = f.1 (g.0 refl)
iff_same false false P f g = refl

pub same_iff : (b : Bool) (i j : GatewayId) → (IsTrue b ↔ (i ≡ j)) → b ≡ same i j
same_iff b i j f = iff_same b (same i j) (i ≡ j) f (same-eq i j, same-true i j)

pub pair_iff : (b : Bool) (p q : Pair) → (IsTrue b ↔ (p ≡ q)) → b ≡ same_pair p q
pair_iff b p q f = iff_same b (same_pair p q) (p ≡ q) f (pair-eq p q, pair-true p q)

-- where `all` answers true, P holds of every pair of the list
pub all_if : (P : Pair → Type 0) (Z : Type 0) (r : Bool) (xs : List Pair) → MatchBool r (AllWithin P xs 0 (length xs)) Z → IsTrue r → All P xs
all_if P Z true xs m e = All-from_all_within P xs m
all_if P Z false xs m e = absurd (cc)

-- a list with one more pair at its end has the pairs that are open after a use of that pair
pub push_iff : (q p : Pair) (xs : List Pair) (b : Bool) → (Contains xs q ↔ IsTrue b) → (Contains (xs ++ p ∷ []) q ↔ IsTrue (cond (same_pair q p) true b))
push_iff q p xs b f = elim (cases_Bool (same_pair q p)) [
  | inl s ↦ subst (λ k. Contains (xs ++ p ∷ []) q ↔ IsTrue (cond k true b)) (sym s) (λ c. refl, λ h. subst (λ (x : Pair). Contains (xs ++ p ∷ []) x) (sym (pair-eq q p s)) (Contains-push xs p))
  | inr s ↦ subst (λ k. Contains (xs ++ p ∷ []) q ↔ IsTrue (cond k true b)) (sym s) (λ c. elim (Contains-push_cases xs p q c) [ inl old ↦ f.0 old | inr e ↦ absurd (both_ways (same_pair q p) s (pair-true q p (sym e))) ], λ h. Contains-append_left xs (p ∷ []) q (f.1 h))
]

-- a list that has the pair already has the pairs that are open after a use of that pair
pub has_iff : (q p : Pair) (xs : List Pair) (b : Bool) → Contains xs p → (Contains xs q ↔ IsTrue b) → (Contains xs q ↔ IsTrue (cond (same_pair q p) true b))
has_iff q p xs b had f = elim (cases_Bool (same_pair q p)) [
  | inl s ↦ subst (λ k. Contains xs q ↔ IsTrue (cond k true b)) (sym s) (λ c. refl, λ h. subst (λ (x : Pair). Contains xs x) (sym (pair-eq q p s)) had)
  | inr s ↦ subst (λ k. Contains xs q ↔ IsTrue (cond k true b)) (sym s) f
]

stays_after : (b : Bool) (x q : Pair) (ys : List Pair) → Contains ys q → Contains (cond b (x ∷ ys) ys) q
stays_after true x q ys c = Contains-append_right (x ∷ []) ys q c
stays_after false x q ys c = c

kept_by : (test : Pair → Bool) (xs : List Pair) (q : Pair) → Contains xs q → test q ≡ true → Contains (filter test xs) q
kept_by test [] q c passes = absurd (let none : c.0 < 0 = c.1 in omega arith)
kept_by test (x ∷ xs) q c passes = elim (Contains-append_cases (x ∷ []) xs q c) [
  | inl here ↦ elim (Contains-push_cases [] x q here) [
    | inl nowhere ↦ absurd (let none : nowhere.0 < 0 = nowhere.1 in omega arith)
    | inr e ↦ subst (λ b. Contains (cond b (x ∷ filter test xs) (filter test xs)) q) (sym (ap test e ∙ passes)) (Contains-append_left (x ∷ []) (filter test xs) q here)
  ]
  | inr later ↦ stays_after (test x) x q (filter test xs) (kept_by test xs q later passes)
]

-- a list without a pair has the pairs that are open after an agreed deletion of that pair
pub without_iff : (q p : Pair) (xs : List Pair) (agreed b : Bool) → (same_pair q p ≡ true → agreed ≡ true) → (Contains xs q ↔ IsTrue b) → (Contains (filter (λ x. not (same_pair x p)) xs) q ↔ IsTrue (cond (same_pair q p && agreed) false b))
without_iff q p xs agreed b if_same f =
    let test : Pair → Bool = λ x. not (same_pair x p) in
    let had : Contains (filter test xs) q → Contains xs q = λ c. All-contains (Contains xs) (filter test xs) q (All-filter test (Contains xs) xs (All-contains_itself xs)) c in
    let passed : Contains (filter test xs) q → test q ≡ true = λ c. All-contains (λ x. test x ≡ true) (filter test xs) q (filter_passes test xs) c in
    elim (cases_Bool (same_pair q p)) [
      | inl s ↦ subst (λ k. Contains (filter test xs) q ↔ IsTrue (cond k false b)) (sym (and_from (same_pair q p) agreed s (if_same s))) (λ c. absurd (both_ways (same_pair q p) (not-true (same_pair q p) (passed c)) s), λ h. absurd (cc))
      | inr s ↦ subst (λ k. Contains (filter test xs) q ↔ IsTrue (cond (k && agreed) false b)) (sym s) (λ c. f.0 (had c), λ h. kept_by test xs q (f.1 h) (ap not s))
    ]

-- a list without the pairs that are lost has the pairs that are open after a crash
pub less_iff : (q : Pair) (xs : List Pair) (lost : Pair → Bool) (b : Bool) → (Contains xs q ↔ IsTrue b) → (Contains (filter (λ x. not (lost x)) xs) q ↔ IsTrue (cond (lost q) false b))
less_iff q xs lost b f =
    let test : Pair → Bool = λ x. not (lost x) in
    let had : Contains (filter test xs) q → Contains xs q = λ c. All-contains (Contains xs) (filter test xs) q (All-filter test (Contains xs) xs (All-contains_itself xs)) c in
    let passed : Contains (filter test xs) q → test q ≡ true = λ c. All-contains (λ x. test x ≡ true) (filter test xs) q (filter_passes test xs) c in
    elim (cases_Bool (lost q)) [
      | inl s ↦ subst (λ k. Contains (filter test xs) q ↔ IsTrue (cond k false b)) (sym s) (λ c. absurd (both_ways (lost q) (not-true (lost q) (passed c)) s), λ h. absurd (cc))
      | inr s ↦ subst (λ k. Contains (filter test xs) q ↔ IsTrue (cond k false b)) (sym s) (λ c. f.0 (had c), λ h. kept_by test xs q (f.1 h) (ap not s))
    ]

-- the first i + 1 notes, reversed, are note i before the first i notes, reversed
pub reverse_take : (xs : List Note) (i : ℕ) (n : Note) → i < length xs → n ≡ get_or xs i n → reverse (take (i + 1) xs) ≡ n ∷ reverse (take i xs)
reverse_take xs i n h e = ap reverse (take_more xs i n h) ∙ reverse-append (take i xs) (get_or xs i n ∷ []) ∙ ap (λ (x : Note). x ∷ reverse (take i xs)) (sym e)
