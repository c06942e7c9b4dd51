-- The lives of a table after that of one key was changed.
use Rattle.std.proofs.Common.{◌≡◌, suc, Bool, true, false, cond, Some, None, List, [], ◌∷◌, length, refl, sym, ap, ◌∙◌}
use Rattle.std.specs.Option.{option_map}
use Rattle.std.proofs.lemmas.Bool.{both_ways}
use Rattle.nat_types.specs.declared.pairs.Key.{Key}
use Rattle.nat_types.specs.Same.{same_key}
use Rattle.nat_types.proofs.Offered.{key-eq, key-true, key-self}
use Rattle.activity.specs.Lives.{Activity, History, Agrees}
use Rattle.bindings.specs.declared.entries.Entry.{Entry}
use Rattle.bindings.specs.Entries.{has_key}
use Rattle.bindings.specs.Lives.{life_in, lives_with, HasPast, KeepsOthers}
use Rattle.bindings.proofs.Pasts.{others-keep}

pub life-changed : (g : Activity → Activity) (key : Key) (es : List Entry) (ls : List Activity) (q : Key) → life_in es (lives_with g key es ls) q ≡ cond (same_key key q) (option_map g (life_in es ls q)) (life_in es ls q)
life-changed g key [] ls q = by (same_key key q)
  where
    by : (b : Bool) → None ≡ cond b (option_map g None) None
    by true = refl
    by false = refl
life-changed g key (e ∷ es) [] q = by (same_key key q)
  where
    by : (b : Bool) → None ≡ cond b (option_map g None) None
    by true = refl
    by false = refl
life-changed g key (e ∷ es) (l ∷ ls) q = by (has_key key e) (has_key q e) (same_key key q) refl refl refl (life-changed g key es ls q)
  where
    by : (a b k : Bool) → has_key key e ≡ a → has_key q e ≡ b → same_key key q ≡ k → life_in es (lives_with g key es ls) q ≡ cond (same_key key q) (option_map g (life_in es ls q)) (life_in es ls q)
        → life_in (e ∷ es) (cond a (g l ∷ ls) (l ∷ lives_with g key es ls)) q ≡ cond k (option_map g (cond b (Some l) (life_in es ls q))) (cond b (Some l) (life_in es ls q))
    by true true true f h k ih = ap (λ c. cond c (Some (g l)) (life_in es ls q)) h
    by true true false f h k ih = absurd (both_ways (same_key key q) k (key-true key q (sym (key-eq e.pair.key key f) ∙ key-eq e.pair.key q h)))
    by true false true f h k ih = absurd (both_ways (has_key q e) h (ap (same_key e.pair.key) (sym (key-eq key q k)) ∙ f))
    by true false false f h k ih = ap (λ c. cond c (Some (g l)) (life_in es ls q)) h
    by false true true f h k ih = absurd (both_ways (has_key key e) f (ap (same_key e.pair.key) (key-eq key q k) ∙ h))
    by false true false f h k ih = ap (λ c. cond c (Some l) (life_in es (lives_with g key es ls) q)) h
    by false false b f h k ih =
        ap (λ c. cond c (Some l) (life_in es (lives_with g key es ls) q)) h
        ∙ ih ∙ ap (λ c. cond c (option_map g (life_in es ls q)) (life_in es ls q)) k

pub length-changed : (g : Activity → Activity) (key : Key) (es : List Entry) (ls : List Activity) → length (lives_with g key es ls) ≡ length ls
length-changed g key [] ls = refl
length-changed g key (e ∷ es) [] = refl
length-changed g key (e ∷ es) (l ∷ ls) = by (has_key key e) (length-changed g key es ls)
  where
    by : (b : Bool) → length (lives_with g key es ls) ≡ length ls → length (cond b (g l ∷ ls) (l ∷ lives_with g key es ls)) ≡ suc (length ls)
    by true ih = refl
    by false ih = ap suc ih

-- a key agrees with its next past after its life was changed
pub goes-on : (g : Activity → Activity) (key : Key) (es : List Entry) (ls : List Activity) (past past2 : History) → ((life : Activity) → life_in es ls key ≡ Some life → Agrees key.protocol past life → Agrees key.protocol past2 (g life))
    → HasPast es ls key past → HasPast es (lives_with g key es ls) key past2
goes-on g key es ls past past2 agrees has = (
  g has.0,
  life-changed g key es ls key ∙ ap (λ b. cond b (option_map g (life_in es ls key)) (life_in es ls key)) (key-self key) ∙ ap (option_map g) has.1,
  agrees has.0 has.1 has.2,
)

-- the other keys keep their pasts
pub others-stay : (g : Activity → Activity) (key : Key) (es : List Entry) (ls : List Activity) → KeepsOthers key es ls es (lives_with g key es ls)
others-stay g key es ls = others-keep key es ls es (lives_with g key es ls) (λ q differs. life-changed g key es ls q ∙ ap (λ b. cond b (option_map g (life_in es ls q)) (life_in es ls q)) differs)
