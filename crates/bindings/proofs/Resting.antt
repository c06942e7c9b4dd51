-- Which entries are idle.
use Rattle.std.proofs.Common.{◌≡◌, ℕ, suc, ◌≤◌, Bool, true, false, cond, ◌&&◌, ◌||◌, Some, None, List, [], ◌∷◌, length, refl, sym, ap, ◌∙◌, arith}
use Rattle.std.specs.List.{filter}
use Rattle.nat_types.specs.declared.pairs.Key.{Key}
use Rattle.activity.specs.Lives.{Activity, History, is_idle, looks_idle}
use Rattle.activity.proofs.Offered.{looks-is}
use Rattle.bindings.specs.declared.entries.Entry.{Entry}
use Rattle.bindings.specs.declared.watches.Watch.{Watch}
use Rattle.bindings.specs.Dues.{watch_of, watched_keys}
use Rattle.bindings.specs.Entries.{has_key, slot_of, HasDistinctKeys}
use Rattle.bindings.specs.Lives.{life_in, HasPast, may_go, is_idle_row, idle_keys_in, is_among}
use Rattle.bindings.proofs.Found.{find-none}
use Rattle.bindings.proofs.Places.{rest-none}

-- no more keys are idle than there are entries
pub few-idle : (lone : Bool) (now : ℕ) (es : List Entry) (ls : List Activity) → length (idle_keys_in lone now es ls) ≤ length es
few-idle lone now [] ls = omega arith
few-idle lone now (e ∷ es) [] = omega arith
few-idle lone now (e ∷ es) (l ∷ ls) = at (is_idle_row lone now e l) (few-idle lone now es ls)
  where
    at : (b : Bool) → length (idle_keys_in lone now es ls) ≤ length es → length (cond b (e.pair.key ∷ idle_keys_in lone now es ls) (idle_keys_in lone now es ls)) ≤ suc (length es)
    at true h = omega arith
    at false h = omega arith

passing : (p : Key → Bool) (ks : List Key) → length (filter p ks) ≤ length ks
passing p [] = omega arith
passing p (k ∷ ks) = at (p k) (passing p ks)
  where
    at : (b : Bool) → length (filter p ks) ≤ length ks → length (cond b (k ∷ filter p ks) (filter p ks)) ≤ suc (length ks)
    at true h = omega arith
    at false h = omega arith

-- no more of their keys pass a test than there are entries
pub few-passing : (p : Key → Bool) (lone : Bool) (now : ℕ) (es : List Entry) (ls : List Activity) → length (filter p (idle_keys_in lone now es ls)) ≤ length es
few-passing p lone now es ls = let all = few-idle lone now es ls in let left = passing p (idle_keys_in lone now es ls) in omega (arith, all, left)

-- the keys of the idle entries that may be released are those of the watch of such entries
pub watched-all : (lone : Bool) (watch : Watch) (now : ℕ) (es : List Entry) (ls : List Activity) → watch ≡ watch_of lone → watched_keys watch now es ls ≡ idle_keys_in lone now es ls
watched-all true watch now es ls h = ap (λ (w : Watch). watched_keys w now es ls) h
watched-all false watch now es ls h = ap (λ (w : Watch). watched_keys w now es ls) h

-- ---- as a relation

-- a key without an entry isn't listed
not-listed : (lone : Bool) (now : ℕ) (es : List Entry) (ls : List Activity) (key : Key) → slot_of es key ≡ None → is_among key (idle_keys_in lone now es ls) ≡ false
not-listed lone now [] ls key h = refl
not-listed lone now (x ∷ xs) [] key h = refl
not-listed lone now (x ∷ xs) (m ∷ ms) key h = at (is_idle_row lone now x m) (not-listed lone now xs ms key parts.1)
  where
    parts : (has_key key x ≡ false) × (slot_of xs key ≡ None)
    parts = find-none (has_key key) x xs h

    at : (b : Bool) → is_among key (idle_keys_in lone now xs ms) ≡ false → is_among key (cond b (x.pair.key ∷ idle_keys_in lone now xs ms) (idle_keys_in lone now xs ms)) ≡ false
    at true ih = ap (λ b. b || is_among key (idle_keys_in lone now xs ms)) parts.0 ∙ ih
    at false ih = ih

listed-row : (lone : Bool) (now : ℕ) (es : List Entry) (ls : List Activity) (key : Key) (e : Entry) (l : Activity) → HasDistinctKeys es → slot_of es key ≡ Some e → life_in es ls key ≡ Some l → is_among key (idle_keys_in lone now es ls) ≡ is_idle_row lone now e l
listed-row lone now [] ls key e l keys he hl = cc
listed-row lone now (x ∷ xs) [] key e l keys he hl = cc
listed-row lone now (x ∷ xs) (m ∷ ms) key e l keys he hl = at (has_key key x) (is_idle_row lone now x m) refl refl he hl (λ se sl. listed-row lone now xs ms key e l keys.1 se sl)
  where
    at : (h b : Bool) → has_key key x ≡ h → is_idle_row lone now x m ≡ b → cond h (Some x) (slot_of xs key) ≡ Some e → cond h (Some m) (life_in xs ms key) ≡ Some l → (slot_of xs key ≡ Some e → life_in xs ms key ≡ Some l → is_among key (idle_keys_in lone now xs ms) ≡ is_idle_row lone now e l) → is_among key (cond b (x.pair.key ∷ idle_keys_in lone now xs ms) (idle_keys_in lone now xs ms)) ≡ is_idle_row lone now e l
    at true true here is he hl ih =
        let ex : x ≡ e = cc in
        let lx : m ≡ l = cc in
        ap (λ h. h || is_among key (idle_keys_in lone now xs ms)) here ∙ sym is ∙ ap (λ (y : Entry). is_idle_row lone now y m) ex ∙ ap (is_idle_row lone now e) lx
    at true false here is he hl ih =
        let ex : x ≡ e = cc in
        let lx : m ≡ l = cc in
        not-listed lone now xs ms key (rest-none key x xs here keys.0) ∙ sym is ∙ ap (λ (y : Entry). is_idle_row lone now y m) ex ∙ ap (is_idle_row lone now e) lx
    at false true here is he hl ih = ap (λ h. h || is_among key (idle_keys_in lone now xs ms)) here ∙ ih he hl
    at false false here is he hl ih = ih he hl

-- a key with an entry is listed exactly where that entry is idle and may be released
pub listed-is : (lone : Bool) (now : ℕ) (es : List Entry) (ls : List Activity) (key : Key) (e : Entry) (past : History) → HasDistinctKeys es → slot_of es key ≡ Some e → e.pair.key ≡ key → HasPast es ls key past → is_among key (idle_keys_in lone now es ls) ≡ (may_go lone e.state && is_idle key.protocol past now)
listed-is lone now es ls key e past keys held at has =
    listed-row lone now es ls key e has.0 keys held has.1
    ∙ ap (λ (k : Key). may_go lone e.state && looks_idle k.protocol has.0 now) at
    ∙ ap (λ b. may_go lone e.state && b) (looks-is key.protocol past has.0 now has.2)
