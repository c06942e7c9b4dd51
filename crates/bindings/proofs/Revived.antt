-- The lists of a table after the peer began anew.
use Rattle.std.proofs.Common.{◌≡◌, suc, Bool, true, false, cond, ◌&&◌, not, is_none, Some, None, List, [], ◌∷◌, map, length, refl, sym, ap, ◌∙◌, arith}
use Rattle.std.specs.List.{find, filter}
use Rattle.std.proofs.lemmas.Bool.{both_ways, cond-true, cond-false}
use Rattle.nat_types.specs.declared.pairs.EntryState.{EntryState}
use Rattle.nat_types.specs.declared.pairs.EntryState.TheVariants.{Pending, Doomed, Live, Closing, Alone, Held}
use Rattle.nat_types.specs.declared.pairs.Endpoint.{Endpoint}
use Rattle.nat_types.specs.declared.pairs.Key.{Key}
use Rattle.nat_types.specs.Same.{same_endpoint}
use Rattle.activity.specs.Lives.{Activity}
use Rattle.bindings.specs.declared.entries.Entry.{Entry}
use Rattle.slots.specs.declared.ranks.Rank.{Rank}
use Rattle.bindings.specs.Entries.{is_of_rank, is_pair, has_key, serves, slot_of, entry_on, HasDistinctKeys, HasDistinctEndpoints}
use Rattle.bindings.specs.Lists.{without}
use Rattle.bindings.specs.Lives.{life_in, lives_without}
use Rattle.bindings.specs.Revivals.{woken, woken_entry, revived_entries, revived_slot, lives_of_pairs}
use Rattle.bindings.proofs.Found.{find-none}
use Rattle.bindings.proofs.Places.{rest-none, without-none}

abbrev pub pairs_of : List Entry → List Entry
pairs_of es = filter (λ e. is_pair e.state) es

-- ---- a Doomed entry less

-- the pairs stay where a Doomed entry is removed
pub pairs-without : (key : Key) (es : List Entry) (x : Entry) → HasDistinctKeys es → slot_of es key ≡ Some x → is_pair x.state ≡ false → pairs_of (without key es) ≡ pairs_of es
pairs-without key [] x keys held doomed = refl
pairs-without key (e ∷ es) x keys held doomed = at (has_key key e) refl held (λ rest. pairs-without key es x keys.1 rest doomed)
  where
    at : (b : Bool) → has_key key e ≡ b → cond b (Some e) (slot_of es key) ≡ Some x → (slot_of es key ≡ Some x → pairs_of (without key es) ≡ pairs_of es) → pairs_of (cond (not b) (e ∷ without key es) (without key es)) ≡ pairs_of (e ∷ es)
    at true here held ih =
        let one : e ≡ x = cc in
        ap pairs_of (without-none key es (rest-none key e es here keys.0))
        ∙ sym (cond-false (is_pair e.state) (e ∷ pairs_of es) (pairs_of es) (ap (λ (y : Entry). is_pair y.state) one ∙ doomed))
    at false other held ih = ap (λ zs. cond (is_pair e.state) (e ∷ zs) zs) (ih held)

-- the lives of the pairs stay where a Doomed entry is removed
pub kept-without : (key : Key) (es : List Entry) (ls : List Activity) (x : Entry) → HasDistinctKeys es → length ls ≡ length es → slot_of es key ≡ Some x → is_pair x.state ≡ false → lives_of_pairs (without key es) (lives_without key es ls) ≡ lives_of_pairs es ls
kept-without key [] ls x keys same held doomed = refl
kept-without key (e ∷ es) [] x keys same held doomed = absurd (omega (arith, same))
kept-without key (e ∷ es) (l ∷ ls) x keys same held doomed = at (has_key key e) refl held (λ rest. kept-without key es ls x keys.1 (omega (arith, same)) rest doomed)
  where
    at : (b : Bool) → has_key key e ≡ b → cond b (Some e) (slot_of es key) ≡ Some x → (slot_of es key ≡ Some x → lives_of_pairs (without key es) (lives_without key es ls) ≡ lives_of_pairs es ls) → lives_of_pairs (cond (not b) (e ∷ without key es) (without key es)) (cond b ls (l ∷ lives_without key es ls)) ≡ lives_of_pairs (e ∷ es) (l ∷ ls)
    at true here held ih =
        let one : e ≡ x = cc in
        ap (λ zs. lives_of_pairs zs ls) (without-none key es (rest-none key e es here keys.0))
        ∙ sym (cond-false (is_pair e.state) (l ∷ lives_of_pairs es ls) (lives_of_pairs es ls) (ap (λ (y : Entry). is_pair y.state) one ∙ doomed))
    at false other held ih = ap (λ zs. cond (is_pair e.state) (l ∷ zs) zs) (ih held)

not-doomed : (b : Bool) → not b ≡ false → b ≡ true
not-doomed true h = refl
not-doomed false h = cc

-- where no entry is Doomed, all are pairs
pub all-pairs : (es : List Entry) → find (λ e. not (is_pair e.state)) es ≡ None → pairs_of es ≡ es
all-pairs [] h = refl
all-pairs (e ∷ es) h =
    let parts = find-none (λ x. not (is_pair x.state)) e es h in
    cond-true (is_pair e.state) (e ∷ pairs_of es) (pairs_of es) (not-doomed (is_pair e.state) parts.0) ∙ ap (λ zs. e ∷ zs) (all-pairs es parts.1)

pub all-kept : (es : List Entry) (ls : List Activity) → length ls ≡ length es → find (λ e. not (is_pair e.state)) es ≡ None → lives_of_pairs es ls ≡ ls
all-kept [] [] same h = refl
all-kept [] (l ∷ ls) same h = absurd (omega (arith, same))
all-kept (e ∷ es) [] same h = absurd (omega (arith, same))
all-kept (e ∷ es) (l ∷ ls) same h =
    let parts = find-none (λ x. not (is_pair x.state)) e es h in
    cond-true (is_pair e.state) (l ∷ lives_of_pairs es ls) (lives_of_pairs es ls) (not-doomed (is_pair e.state) parts.0)
    ∙ ap (λ zs. l ∷ zs) (all-kept es ls (omega (arith, same)) parts.1)

-- ---- all entries once they are woken

pub woken-rank : (rank : Rank) (s : EntryState) → is_of_rank rank (woken s) ≡ is_of_rank rank s
woken-rank rank (Pending marked) = refl
woken-rank rank Doomed = refl
woken-rank rank Live = refl
woken-rank rank (Closing marked) = refl
woken-rank rank Alone = refl
woken-rank rank Held = refl

pub woken-pair : (s : EntryState) → is_pair (woken s) ≡ is_pair s
woken-pair (Pending marked) = refl
woken-pair Doomed = refl
woken-pair Live = refl
woken-pair (Closing marked) = refl
woken-pair Alone = refl
woken-pair Held = refl

pub length-revived : (es : List Entry) (ls : List Activity) → length ls ≡ length es → length (lives_of_pairs es ls) ≡ length (revived_entries es)
length-revived [] ls same = refl
length-revived (e ∷ es) [] same = absurd (omega (arith, same))
length-revived (e ∷ es) (l ∷ ls) same = at (is_pair e.state) (length-revived es ls (omega (arith, same)))
  where
    at : (b : Bool) → length (lives_of_pairs es ls) ≡ length (revived_entries es) → length (cond b (l ∷ lives_of_pairs es ls) (lives_of_pairs es ls)) ≡ length (map woken_entry (cond b (e ∷ pairs_of es) (pairs_of es)))
    at true ih = ap suc ih
    at false ih = ih

none-woken : (rank : Rank) (q : Endpoint) (es : List Entry) → entry_on rank es q ≡ None → entry_on rank (map woken_entry es) q ≡ None
none-woken rank q [] h = refl
none-woken rank q (e ∷ es) h =
    let parts = find-none (serves rank q) e es h in
    cond-false (serves rank q (woken_entry e)) (Some (woken_entry e)) (entry_on rank (map woken_entry es) q) (ap (λ b. b && same_endpoint e.pair.endpoint q) (woken-rank rank e.state) ∙ parts.0)
    ∙ none-woken rank q es parts.1

pub endpoints-woken : (es : List Entry) → HasDistinctEndpoints es → HasDistinctEndpoints (map woken_entry es)
endpoints-woken [] d = tt
endpoints-woken (e ∷ es) d = (λ rank live. none-woken rank e.pair.endpoint es (d.0 rank (sym (woken-rank rank e.state) ∙ live)), endpoints-woken es d.1)

-- the same keys have no entry after all entries were woken
pub none-kept : (es : List Entry) (q : Key) → is_none (slot_of (map woken_entry es) q) ≡ is_none (slot_of es q)
none-kept [] q = refl
none-kept (e ∷ es) q = at (has_key q e) (none-kept es q)
  where
    at : (b : Bool) → is_none (slot_of (map woken_entry es) q) ≡ is_none (slot_of es q) → is_none (cond b (Some (woken_entry e)) (slot_of (map woken_entry es) q)) ≡ is_none (cond b (Some e) (slot_of es q))
    at true ih = refl
    at false ih = ih

-- the slot of a key after the peer began anew
pub slot-revived : (es : List Entry) (q : Key) → HasDistinctKeys es → slot_of (revived_entries es) q ≡ revived_slot (slot_of es q)
slot-revived [] q keys = refl
slot-revived (e ∷ es) q keys = at (is_pair e.state) (has_key q e) refl refl (slot-revived es q keys.1)
  where
    at : (p h : Bool) → is_pair e.state ≡ p → has_key q e ≡ h → slot_of (revived_entries es) q ≡ revived_slot (slot_of es q) → slot_of (map woken_entry (cond p (e ∷ pairs_of es) (pairs_of es))) q ≡ revived_slot (cond h (Some e) (slot_of es q))
    at true true pair here ih =
        cond-true (has_key q e) (Some (woken_entry e)) (slot_of (revived_entries es) q) here ∙ sym (cond-true (is_pair e.state) (Some (woken_entry e)) None pair)
    at true false pair other ih = cond-false (has_key q e) (Some (woken_entry e)) (slot_of (revived_entries es) q) other ∙ ih
    at false true doomed here ih =
        ih ∙ ap revived_slot (rest-none q e es here keys.0) ∙ sym (cond-false (is_pair e.state) (Some (woken_entry e)) None doomed)
    at false false doomed other ih = ih

-- the life of a pair stays where the peer begins anew
pub life-revived : (es : List Entry) (ls : List Activity) (q : Key) (x : Entry) → HasDistinctKeys es → length ls ≡ length es → slot_of es q ≡ Some x → is_pair x.state ≡ true → life_in (revived_entries es) (lives_of_pairs es ls) q ≡ life_in es ls q
life-revived [] ls q x keys same held pair = refl
life-revived (e ∷ es) [] q x keys same held pair = absurd (omega (arith, same))
life-revived (e ∷ es) (l ∷ ls) q x keys same held pair = at (is_pair e.state) (has_key q e) refl refl held (λ rest. life-revived es ls q x keys.1 (omega (arith, same)) rest pair)
  where
    at : (p h : Bool) → is_pair e.state ≡ p → has_key q e ≡ h → cond h (Some e) (slot_of es q) ≡ Some x → (slot_of es q ≡ Some x → life_in (revived_entries es) (lives_of_pairs es ls) q ≡ life_in es ls q) → life_in (map woken_entry (cond p (e ∷ pairs_of es) (pairs_of es))) (cond p (l ∷ lives_of_pairs es ls) (lives_of_pairs es ls)) q ≡ cond h (Some l) (life_in es ls q)
    at true true is here held ih = cond-true (has_key q e) (Some l) (life_in (revived_entries es) (lives_of_pairs es ls) q) here
    at true false is other held ih = cond-false (has_key q e) (Some l) (life_in (revived_entries es) (lives_of_pairs es ls) q) other ∙ ih held
    at false true is here held ih =
        let one : e ≡ x = cc in
        absurd (both_ways (is_pair e.state) is (ap (λ (y : Entry). is_pair y.state) one ∙ pair))
    at false false is other held ih = ih held
