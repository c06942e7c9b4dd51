-- The lives of the entries after a change of the list.
use Rattle.std.proofs.Common.{◌≡◌, ℕ, zero, suc, Bool, true, false, cond, not, nat_lt, Some, None, List, [], ◌∷◌, length, get_or, refl, sym, ap, ◌∙◌, arith}
use Rattle.std.specs.List.{insert}
use Rattle.std.proofs.lemmas.Bool.{cond-true, cond-false, both_ways}
use Rattle.nat_types.specs.declared.pairs.EntryState.{EntryState}
use Rattle.nat_types.specs.declared.pairs.Key.{Key}
use Rattle.nat_types.specs.declared.pairs.Pair.{Pair}
use Rattle.nat_types.specs.Same.{same_key}
use Rattle.nat_types.proofs.Offered.{key-eq, key-true, key-self}
use Rattle.activity.specs.Lives.{Activity, History, Agrees}
use Rattle.bindings.specs.declared.entries.Entry.{Entry}
use Rattle.bindings.specs.Entries.{has_key, slot_of, place_of, HasDistinctKeys}
use Rattle.bindings.specs.Lists.{place_in, put_in, without, with_state}
use Rattle.bindings.specs.Lives.{life_in, lives_without, HasPast, KeepsOthers}
use Rattle.bindings.proofs.Found.{find-none}
use Rattle.bindings.proofs.Slots.{swap_choices}
use Rattle.bindings.proofs.Orders.{turned-pair}
use Rattle.bindings.proofs.Places.{IsAt, at-rest, at-not_first, rest-none, without-none}

-- ---- one more entry

pub life-put : (e : Entry) (l : Activity) (es : List Entry) (ls : List Activity) (q : Key) → length ls ≡ length es → slot_of es e.pair.key ≡ None → life_in (put_in e es) (insert ls (place_in e.pair es) l) q ≡ cond (same_key e.pair.key q) (Some l) (life_in es ls q)
life-put e l [] [] q same h = refl
life-put e l [] (m ∷ ms) q same h = absurd (omega (arith, same))
life-put e l (x ∷ xs) [] q same h = absurd (omega (arith, same))
life-put e l (x ∷ xs) (m ∷ ms) q same h = at (nat_lt (place_of e.pair) (place_of x.pair)) (life-put e l xs ms q (omega (arith, same)) parts.1)
  where
    parts : (has_key e.pair.key x ≡ false) × (slot_of xs e.pair.key ≡ None)
    parts = find-none (has_key e.pair.key) x xs h

    clash : same_key x.pair.key q ≡ true → same_key e.pair.key q ≡ true → ⊥
    clash a b = both_ways (same_key x.pair.key e.pair.key) parts.0 (key-true x.pair.key e.pair.key (key-eq x.pair.key q a ∙ sym (key-eq e.pair.key q b)))

    at : (b : Bool) → life_in (put_in e xs) (insert ms (place_in e.pair xs) l) q ≡ cond (same_key e.pair.key q) (Some l) (life_in xs ms q) → life_in (cond b (e ∷ x ∷ xs) (x ∷ put_in e xs)) (insert (m ∷ ms) (let n : ℕ = cond b 0 (suc (place_in e.pair xs)) in n) l) q ≡ cond (same_key e.pair.key q) (Some l) (life_in (x ∷ xs) (m ∷ ms) q)
    at true ih = refl
    at false ih =
        ap (cond (same_key x.pair.key q) (Some m)) ih
        ∙ swap_choices (same_key x.pair.key q) (same_key e.pair.key q) (Some m) (Some l) (life_in xs ms q) clash

-- a key without an entry has no life
pub no-life : (key : Key) (es : List Entry) (ls : List Activity) → slot_of es key ≡ None → life_in es ls key ≡ None
no-life key [] ls h = refl
no-life key (x ∷ xs) [] h = refl
no-life key (x ∷ xs) (l ∷ ls) h = let parts = find-none (has_key key) x xs h in cond-false (has_key key x) (Some l) (life_in xs ls key) parts.0 ∙ no-life key xs ls parts.1

-- ---- a life changed

-- ---- an entry less

pub life-without : (key : Key) (es : List Entry) (ls : List Activity) (q : Key) → HasDistinctKeys es → length ls ≡ length es → same_key key q ≡ false → life_in (without key es) (lives_without key es ls) q ≡ life_in es ls q
life-without key [] ls q keys same other = refl
life-without key (x ∷ xs) [] q keys same other = absurd (omega (arith, same))
life-without key (x ∷ xs) (l ∷ ls) q keys same other = at (has_key key x) refl (life-without key xs ls q keys.1 (omega (arith, same)) other)
  where
    at : (b : Bool) → has_key key x ≡ b → life_in (without key xs) (lives_without key xs ls) q ≡ life_in xs ls q → life_in (cond (not b) (x ∷ without key xs) (without key xs)) (cond b ls (l ∷ lives_without key xs ls)) q ≡ cond (has_key q x) (Some l) (life_in xs ls q)
    at true here ih =
        let one : x.pair.key ≡ key = key-eq x.pair.key key here in
        ap (λ zs. life_in zs ls q) (without-none key xs (rest-none key x xs here keys.0))
        ∙ sym (cond-false (has_key q x) (Some l) (life_in xs ls q) (ap (λ k. same_key k q) one ∙ other))
    at false here ih = ap (cond (has_key q x) (Some l)) ih

pub length-lives_without : (key : Key) (es : List Entry) (ls : List Activity) → HasDistinctKeys es → length ls ≡ length es → length (lives_without key es ls) ≡ length (without key es)
length-lives_without key [] ls keys same = same
length-lives_without key (x ∷ xs) [] keys same = absurd (omega (arith, same))
length-lives_without key (x ∷ xs) (l ∷ ls) keys same = at (has_key key x) refl (length-lives_without key xs ls keys.1 (omega (arith, same)))
  where
    at : (b : Bool) → has_key key x ≡ b → length (lives_without key xs ls) ≡ length (without key xs) → length (cond b ls (l ∷ lives_without key xs ls)) ≡ length (cond (not b) (x ∷ without key xs) (without key xs))
    at true here ih = let e : length ls ≡ length xs = omega (arith, same) in e ∙ ap length (sym (without-none key xs (rest-none key x xs here keys.0)))
    at false here ih = ap suc ih

-- ---- an entry in another state

pub life-turned : (key : Key) (s : EntryState) (es : List Entry) (ls : List Activity) (q : Key) → life_in (with_state key s es) ls q ≡ life_in es ls q
life-turned key s [] ls q = refl
life-turned key s (x ∷ xs) [] q = refl
life-turned key s (x ∷ xs) (l ∷ ls) q =
    ap (λ (p : Pair). cond (same_key p.key q) (Some l) (life_in (with_state key s xs) ls q)) (turned-pair key s x)
    ∙ ap (cond (has_key q x) (Some l)) (life-turned key s xs ls q)

-- ---- another life for an entry

pub life-at : (key : Key) (es : List Entry) (ls : List Activity) (i : ℕ) (d : Entry) (m : Activity) → IsAt key es i d → length ls ≡ length es → life_in es ls key ≡ Some (get_or ls i m)
life-at key [] ls i d m at same = absurd (let h = at.low in omega (arith, h))
life-at key (x ∷ xs) [] i d m at same = absurd (omega (arith, same))
life-at key (x ∷ xs) (l ∷ ls) zero d m at same = cond-true (has_key key x) (Some l) (life_in xs ls key) at.here
life-at key (x ∷ xs) (l ∷ ls) (suc i) d m at same =
    cond-false (has_key key x) (Some l) (life_in xs ls key) (at-not_first key x xs i d at)
    ∙ life-at key xs ls i d m (at-rest key x xs i d at) (omega (arith, same))

-- ---- pasts

-- where the lives at other keys stay, their pasts do
pub others-keep : (key : Key) (es : List Entry) (ls : List Activity) (es2 : List Entry) (ls2 : List Activity) → ((q : Key) → same_key key q ≡ false → life_in es2 ls2 q ≡ life_in es ls q) → KeepsOthers key es ls es2 ls2
others-keep key es ls es2 ls2 same q past other has = (has.0, same q other ∙ has.1, has.2)

pub put-keeps : (e : Entry) (l : Activity) (es : List Entry) (ls : List Activity) → length ls ≡ length es → slot_of es e.pair.key ≡ None → KeepsOthers e.pair.key es ls (put_in e es) (insert ls (place_in e.pair es) l)
put-keeps e l es ls same h = others-keep e.pair.key es ls (put_in e es) (insert ls (place_in e.pair es) l) (λ q other. life-put e l es ls q same h ∙ cond-false (same_key e.pair.key q) (Some l) (life_in es ls q) other)

pub put-begins : (e : Entry) (l : Activity) (es : List Entry) (ls : List Activity) (past : History) → length ls ≡ length es → slot_of es e.pair.key ≡ None → Agrees e.pair.key.protocol past l → HasPast (put_in e es) (insert ls (place_in e.pair es) l) e.pair.key past
put-begins e l es ls past same h agrees = (l, life-put e l es ls e.pair.key same h ∙ cond-true (same_key e.pair.key e.pair.key) (Some l) (life_in es ls e.pair.key) (key-self e.pair.key), agrees)

pub without-keeps : (key : Key) (es : List Entry) (ls : List Activity) → HasDistinctKeys es → length ls ≡ length es → KeepsOthers key es ls (without key es) (lives_without key es ls)
without-keeps key es ls keys same = others-keep key es ls (without key es) (lives_without key es ls) (λ q other. life-without key es ls q keys same other)

-- a key with no entry agrees with no past
pub no-past : (key : Key) (es : List Entry) (ls : List Activity) (past : History) → slot_of es key ≡ None → HasPast es ls key past → ⊥
no-past key es ls past h has = let none : None ≡ Some has.0 = sym (no-life key es ls h) ∙ has.1 in cc
