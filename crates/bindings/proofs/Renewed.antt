-- The lives of a table after each of them begins anew.
use Rattle.std.proofs.Common.{◌≡◌, ℕ, suc, ◌<◌, Bool, true, false, cond, Option, Some, None, List, [], ◌∷◌, length, map, refl, sym, ap, ◌∙◌, arith}
use Rattle.std.specs.Option.{option_map}
use Rattle.std.proofs.lemmas.Bool.{cond-true, cond-false, le-ltb}
use Rattle.nat_types.specs.declared.pairs.Key.{Key}
use Rattle.nat_types.specs.Same.{same_key}
use Rattle.nat_types.proofs.Offered.{key-true, key-false}
use Rattle.activity.specs.Lives.{Activity, History, renewed, life_renewed}
use Rattle.activity.proofs.Offered.{agrees-renewed}
use Rattle.bindings.specs.declared.entries.Entry.{Entry}
use Rattle.bindings.specs.Entries.{has_key, place_of}
use Rattle.bindings.specs.Lists.{stands_behind, after_key, key_place, RisesUp}
use Rattle.bindings.specs.Lives.{life_in, lives_with, HasPast}
use Rattle.bindings.proofs.Found.{cond_none}
use Rattle.bindings.proofs.Walks.{is-behind, below-last, found-above}

-- ---- one after the other

-- the lives, of which those of entries after a key are changed
abbrev pub lives_behind : (Activity → Activity) → Option Key → List Entry → List Activity → List Activity
lives_behind g last [] ls = ls
lives_behind g last (e ∷ es) [] = []
lives_behind g last (e ∷ es) (l ∷ ls) = cond (stands_behind last e) (g l) l ∷ lives_behind g last es ls

pub lives-all : (g : Activity → Activity) (es : List Entry) (ls : List Activity) → length ls ≡ length es → lives_behind g None es ls ≡ map g ls
lives-all g [] [] same = refl
lives-all g [] (l ∷ ls) same = absurd (omega (arith, same))
lives-all g (e ∷ es) [] same = refl
lives-all g (e ∷ es) (l ∷ ls) same = ap (λ ms. g l ∷ ms) (lives-all g es ls (omega (arith, same)))

pub lives-end : (g : Activity → Activity) (last : Option Key) (es : List Entry) (ls : List Activity) → after_key last es ≡ None → lives_behind g last es ls ≡ ls
lives-end g last [] ls h = refl
lives-end g last (e ∷ es) [] h = refl
lives-end g last (e ∷ es) (l ∷ ls) h =
    let n = cond_none (stands_behind last e) e (after_key last es) h in
    ap (λ b. cond b (g l) l ∷ lives_behind g last es ls) n.0 ∙ ap (λ ms. l ∷ ms) (lives-end g last es ls n.1)

-- all entries are after a key of a lower place
lives-rest : (g : Activity → Activity) (low : ℕ) (last : Option Key) (es : List Entry) (ls : List Activity) → RisesUp low es → ((key : Key) → last ≡ Some key → key_place key < low) → lives_behind g last es ls ≡ lives_behind g None es ls
lives-rest g low last [] ls r h = refl
lives-rest g low last (e ∷ es) [] r h = refl
lives-rest g low last (e ∷ es) (l ∷ ls) r h =
    let s = r.0 in
    ap (λ b. cond b (g l) l ∷ lives_behind g last es ls) (is-behind last e (λ key k. (let n = h key k in omega (arith, n, s))))
    ∙ ap (λ ms. g l ∷ ms) (lives-rest g (suc (place_of e.pair)) last es ls r.1 (λ key k. (let n = h key k in omega (arith, n, s))))

pub lives-next : (g : Activity → Activity) (low : ℕ) (last : Option Key) (es : List Entry) (ls : List Activity) (e : Entry) → RisesUp low es → after_key last es ≡ Some e
    → lives_behind g (Some e.pair.key) es (lives_with g e.pair.key es ls) ≡ lives_behind g last es ls
lives-next g low last [] ls e r h = refl
lives-next g low last (x ∷ xs) [] e r h = refl
lives-next g low last (x ∷ xs) (l ∷ ls) e r h = by (stands_behind last x) refl h (lives-next g (suc (place_of x.pair)) last xs ls e r.1)
  where
    by : (b : Bool) → stands_behind last x ≡ b → cond b (Some x) (after_key last xs) ≡ Some e
        → (after_key last xs ≡ Some e → lives_behind g (Some e.pair.key) xs (lives_with g e.pair.key xs ls) ≡ lives_behind g last xs ls)
        → lives_behind g (Some e.pair.key) (x ∷ xs) (lives_with g e.pair.key (x ∷ xs) (l ∷ ls)) ≡ cond b (g l) l ∷ lives_behind g last xs ls
    by true f h ih =
        let same : x ≡ e = cc in
        let place = ap (λ (y : Entry). place_of y.pair) same in
        let own : same_key x.pair.key e.pair.key ≡ true = key-true x.pair.key e.pair.key (ap (λ (y : Entry). y.pair.key) same) in
        let out = le-ltb (place_of e.pair) (place_of x.pair) (omega (arith, place)) in
        let rest = lives-rest g (suc (place_of x.pair)) (Some e.pair.key) xs ls r.1 (λ key k. (let one : e.pair.key ≡ key = cc in let p = ap key_place one in omega (arith, p, place))) in
        let here = lives-rest g (suc (place_of x.pair)) last xs ls r.1 (λ key k. (let b = below-last last x f key k in omega (arith, b))) in
        ap (lives_behind g (Some e.pair.key) (x ∷ xs)) (cond-true (has_key e.pair.key x) (g l ∷ ls) (l ∷ lives_with g e.pair.key xs ls) own)
        ∙ ap (λ b. cond b (g (g l)) (g l) ∷ lives_behind g (Some e.pair.key) xs ls) out
        ∙ ap (λ ms. g l ∷ ms) (rest ∙ sym here)
    by false f h ih =
        let above = found-above (suc (place_of x.pair)) (stands_behind last) xs e r.1 h in
        let other : same_key x.pair.key e.pair.key ≡ false = key-false x.pair.key e.pair.key (λ k. (let p = ap key_place k in omega (arith, p, above))) in
        let out = le-ltb (place_of e.pair) (place_of x.pair) (omega (arith, above)) in
        ap (lives_behind g (Some e.pair.key) (x ∷ xs)) (cond-false (has_key e.pair.key x) (g l ∷ ls) (l ∷ lives_with g e.pair.key xs ls) other)
        ∙ ap (λ b. cond b (g l) l ∷ lives_behind g (Some e.pair.key) xs (lives_with g e.pair.key xs ls)) out
        ∙ ap (λ ms. l ∷ ms) (ih h)

-- ---- all of them

-- the life of a key after all were changed
pub life-all : (g : Activity → Activity) (es : List Entry) (ls : List Activity) (q : Key) → life_in es (map g ls) q ≡ option_map g (life_in es ls q)
life-all g [] ls q = refl
life-all g (e ∷ es) [] q = refl
life-all g (e ∷ es) (l ∷ ls) q = by (has_key q e) (life-all g es ls q)
  where
    by : (b : Bool) → life_in es (map g ls) q ≡ option_map g (life_in es ls q) → cond b (Some (g l)) (life_in es (map g ls) q) ≡ option_map g (cond b (Some l) (life_in es ls q))
    by true ih = refl
    by false ih = ih

-- a key agrees with the renewed past after its life begins anew
pub past-renewed : (es : List Entry) (ls : List Activity) (q : Key) (past : History) (now : ℕ) → HasPast es ls q past → HasPast es (map (life_renewed now) ls) q (renewed now past)
past-renewed es ls q past now has = (
  life_renewed now has.0,
  life-all (life_renewed now) es ls q ∙ ap (option_map (life_renewed now)) has.1,
  agrees-renewed q.protocol past has.0 now has.2,
)
