-- What entries with their lives know of the uses of their pairs, after each change of both.
use Rattle.std.proofs.Common.{◌≡◌, ℕ, suc, ◌+◌, ◌≤◌, nat_le, Bool, true, false, cond, Option, Some, None, inl, inr, List, [], ◌∷◌, length, map, refl, sym, ap, subst, ◌∙◌, arith}
use Rattle.std.specs.List.{insert}
use Rattle.std.specs.Option.{option_map}
use Rattle.std.proofs.lemmas.Bool.{both_ways, cases_Bool, cond-true, cond-false, false_from_ne_true, le-leb, leb-true}
use Rattle.std.proofs.lemmas.List.{length-map}
use Rattle.nat_types.specs.Same.{same_key}
use Rattle.nat_types.proofs.Offered.{key-eq, key-true}
use Rattle.nat_types.specs.declared.pairs.EntryState.{EntryState}
use Rattle.nat_types.specs.declared.pairs.EntryState.TheVariants as state
use Rattle.nat_types.specs.declared.pairs.Key.{Key}
use Rattle.nat_types.specs.declared.pairs.Pair.{Pair}
use Rattle.activity.specs.declared.packets.Packet.{Packet}
use Rattle.activity.specs.Lives.{Activity, came, life_begun, life_carried, life_renewed, renewed, with_packet}
use Rattle.activity.specs.Rests.{HaveRested}
use Rattle.activity.specs.Lives.{least_rest}
use Rattle.activity.proofs.Offered.{agrees-came, agrees-renewed, agrees-carried, accounts-came, accounts-renewed, accounts-anew, accounts-later, accounts-kept, rested-later}
use Rattle.bindings.specs.declared.entries.Entry.{Entry}
use Rattle.bindings.specs.Entries.{has_key, slot_of, entry_in, is_pair, translates, HasDistinctKeys}
use Rattle.bindings.specs.Lists.{place_in, put_in, with_state, without}
use Rattle.bindings.specs.Lives.{life_in, lives_with, lives_without, use_counts_at, use_counts_by}
use Rattle.bindings.specs.Revivals.{lives_of_pairs, revived_entries, revived_slot, woken, woken_entry}
use Rattle.bindings.proofs.Offered.{either_slot, restated, slot-without, find-some, length-insert, length-lives_without, life-turned, put-begins, put-keeps, without-keeps, length-put, length-revived, life-revived, slot-revived, slot-key, slot-put, length-turn}
use Rattle.spec_binding.specs.Uses.{IsTranslated, KnowUses, Knows}

-- ---- an order of numbers holds where it can't fail to hold

stable : (a b : ℕ) → ((a ≤ b → ⊥) → ⊥) → a ≤ b
stable a b h = elim (cases_Bool (nat_le a b)) [
  | inl le ↦ leb-true a b le
  | inr more ↦ absurd (h (λ le. both_ways (nat_le a b) more (le-leb a b le)))
]

-- uses have rested, where they have whether a fact holds or not
rested-by : (rest now : ℕ) (uses : List ℕ) (A : Type 0) → ((A → ⊥) → HaveRested rest now uses) → (A → HaveRested rest now uses) → HaveRested rest now uses
rested-by rest now uses A without_it with_it use_at among =
    stable (use_at + rest) now (λ bad. bad (without_it (λ a. bad (with_it a use_at among)) use_at among))

-- ---- lives

length-with : (f : Activity → Activity) (k : Key) (es : List Entry) (ls : List Activity) → length ls ≡ length es → length (lives_with f k es ls) ≡ length es
length-with f k [] ls same = same
length-with f k (e ∷ es) [] same = same
length-with f k (e ∷ es) (l ∷ ls) same = at (has_key k e) (length-with f k es ls (omega (arith, same)))
  where
    at : (b : Bool) → length (lives_with f k es ls) ≡ length es → length (let zs : List Activity = cond b (f l ∷ ls) (l ∷ lives_with f k es ls) in zs) ≡ suc (length es)
    at true rest = same
    at false rest = ap suc rest

-- the life of another key stays the same
life-beside : (f : Activity → Activity) (k : Key) (es : List Entry) (ls : List Activity) (q : Key) → same_key k q ≡ false → life_in es (lives_with f k es ls) q ≡ life_in es ls q
life-beside f k [] ls q other = refl
life-beside f k (e ∷ es) [] q other = refl
life-beside f k (e ∷ es) (l ∷ ls) q other = at (has_key k e) refl (life-beside f k es ls q other)
  where
    at : (b : Bool) → has_key k e ≡ b → life_in es (lives_with f k es ls) q ≡ life_in es ls q → life_in (e ∷ es) (cond b (f l ∷ ls) (l ∷ lives_with f k es ls)) q ≡ life_in (e ∷ es) (l ∷ ls) q
    at true here rest =
        let off : has_key q e ≡ false = ap (λ (z : Key). same_key z q) (key-eq e.pair.key k here) ∙ other in
        cond-false (has_key q e) (Some (f l)) (life_in es ls q) off ∙ sym (cond-false (has_key q e) (Some l) (life_in es ls q) off)
    at false here rest = ap (cond (has_key q e) (Some l)) rest

-- the life of the key itself is changed
life-here : (f : Activity → Activity) (k : Key) (es : List Entry) (ls : List Activity) (life : Activity) → life_in es ls k ≡ Some life → life_in es (lives_with f k es ls) k ≡ Some (f life)
life-here f k [] ls life h = cc
life-here f k (e ∷ es) [] life h = cc
life-here f k (e ∷ es) (l ∷ ls) life h = at (has_key k e) refl h (life-here f k es ls life)
  where
    at : (b : Bool) → has_key k e ≡ b → cond b (Some l) (life_in es ls k) ≡ Some life → (life_in es ls k ≡ Some life → life_in es (lives_with f k es ls) k ≡ Some (f life)) → life_in (e ∷ es) (cond b (f l ∷ ls) (l ∷ lives_with f k es ls)) k ≡ Some (f life)
    at true here is rest = cond-true (has_key k e) (Some (f l)) (life_in es ls k) here ∙ ap (λ (z : Activity). Some (f z)) (let both : Some l ≡ Some life = is in let one : l ≡ life = cc in one)
    at false here is rest = cond-false (has_key k e) (Some l) (life_in es (lives_with f k es ls) k) here ∙ rest is

-- ---- what is known is still known after the lists change

pub know-later : (since now : ℕ) (es : List Entry) (ls : List Activity) (u : Pair → List ℕ) → since ≤ now → KnowUses since es ls u → KnowUses now es ls u
know-later since now es ls u le w = record {
  alike = w.alike;
  known = λ k x h. let a = w.known k x h in (a.0, a.1, accounts-later k.protocol a.0 since now (u x.pair) le a.2);
  rested = λ p no_. rested-later (least_rest p.key.protocol) since now (u p) le (w.rested p no_);
}

pub know-as : (now : ℕ) (es : List Entry) (ls : List Activity) (u v : Pair → List ℕ) → ((p : Pair) → v p ≡ u p) → KnowUses now es ls u → KnowUses now es ls v
know-as now es ls u v same w = record {
  alike = w.alike;
  known = λ k x h. subst (λ (z : List ℕ). Knows now es ls k z) (sym (same x.pair)) (w.known k x h);
  rested = λ p no_. subst (λ (z : List ℕ). HaveRested (least_rest p.key.protocol) now z) (sym (same p)) (w.rested p no_);
}

-- entries know of their uses, where each entry does, and each pair that translates no more has
-- rested
know-then : (now : ℕ) (es es2 : List Entry) (ls ls2 : List Activity) (u : Pair → List ℕ) → length ls2 ≡ length es2 → ((k : Key) (x : Entry) → slot_of es2 k ≡ Some x → Knows now es2 ls2 k (u x.pair))
    → ((p : Pair) → IsTranslated es p → (IsTranslated es2 p → ⊥) → HaveRested (least_rest p.key.protocol) now (u p)) → KnowUses now es ls u → KnowUses now es2 ls2 u
know-then now es es2 ls ls2 u alike known lets w = record {
  alike = alike;
  known = known;
  rested = λ p no_. rested-by (least_rest p.key.protocol) now (u p) (IsTranslated es p) (w.rested p) (λ t. lets p t no_);
}

pub know-none : (now : ℕ) (u : Pair → List ℕ) → ((p : Pair) → u p ≡ []) → KnowUses now [] [] u
know-none now u none = record {
  alike = refl;
  known = λ k x h. absurd (cc);
  rested = λ p no_. subst (λ (z : List ℕ). HaveRested (least_rest p.key.protocol) now z) (sym (none p)) (λ use_at among. absurd among);
}

free-untranslated : (es : List Entry) (p : Pair) → slot_of es p.key ≡ None → IsTranslated es p → ⊥
free-untranslated es p free t = let there = t.found in cc

pub know-add : (now : ℕ) (es : List Entry) (ls : List Activity) (u : Pair → List ℕ) (e : Entry) (by_install : Bool) → slot_of es e.pair.key ≡ None → KnowUses now es ls u
    → KnowUses now (put_in e es) (insert ls (place_in e.pair es) (life_begun by_install now)) u
know-add now es ls u e by_install free w =
    know-then now es (put_in e es) ls (insert ls (place_in e.pair es) (life_begun by_install now)) u
    (length-insert ls (place_in e.pair es) (life_begun by_install now) ∙ ap suc w.alike ∙ sym (length-put e es))
    (λ k x h. elim (cases_Bool (same_key e.pair.key k)) [
      | inl here ↦
          (let both : Some e ≡ Some x = sym (slot-put e es k free ∙ cond-true (same_key e.pair.key k) (Some e) (slot_of es k) here) ∙ h in
          let one : e ≡ x = cc in
          subst (λ (z : Key). Knows now (put_in e es) (insert ls (place_in e.pair es) (life_begun by_install now)) z (u x.pair)) (key-eq e.pair.key k here)
          (subst (λ (z : Entry). Knows now (put_in e es) (insert ls (place_in e.pair es) (life_begun by_install now)) e.pair.key (u z.pair)) one new))
      | inr other ↦
          (let a = w.known k x (sym (slot-put e es k free ∙ cond-false (same_key e.pair.key k) (Some e) (slot_of es k) other) ∙ h) in
          (a.0, put-keeps e (life_begun by_install now) es ls w.alike free k a.0 other a.1, a.2))
    ])
    (λ p t no_. absurd (no_ record {
      entry = t.entry;
      found = slot-put e es p.key free ∙ cond-false (same_key e.pair.key p.key) (Some e) (slot_of es p.key) (false_from_ne_true (same_key e.pair.key p.key) (λ here. let there = t.found in let gone : slot_of es p.key ≡ None = ap (slot_of es) (sym (key-eq e.pair.key p.key here)) ∙ free in cc)) ∙ t.found;
      pair = t.pair;
      translates = t.translates;
    }))
    w
  where
    new : Knows now (put_in e es) (insert ls (place_in e.pair es) (life_begun by_install now)) e.pair.key (u e.pair)
    new = (
      came by_install now,
      put-begins e (life_begun by_install now) es ls (came by_install now) w.alike free (agrees-came e.pair.key.protocol by_install now),
      accounts-came e.pair.key.protocol by_install now (u e.pair) (w.rested e.pair (free-untranslated es e.pair free)),
    )

-- the entry that the key had before, of the same pair
pub record WasAt (es : List Entry) (q : Key) (y : Entry) : Type 0 where
  pub entry : Entry
  pub found : slot_of es q ≡ Some entry
  pub pair : entry.pair ≡ y.pair

pub was-at : (es : List Entry) (k : Key) (s : EntryState) (q : Key) (y : Entry) → slot_of (with_state k s es) q ≡ Some y → WasAt es q y
was-at es k s q y h = at (same_key k q) (slot_of es q) refl (sym (either_slot k s es q) ∙ h)
  where
    at : (b : Bool) (o : Option Entry) → slot_of es q ≡ o → cond b (option_map (restated s) o) o ≡ Some y → WasAt es q y
    at true None there is = cc
    at false None there is = cc
    at true (Some z) there is = record { entry = z; found = there; pair = (let both : Some (entry_in s z.pair) ≡ Some y = is in let one : entry_in s z.pair ≡ y = cc in ap (λ (v : Entry). v.pair) one) }
    at false (Some z) there is = record { entry = z; found = there; pair = (let one : z ≡ y = cc in ap (λ (v : Entry). v.pair) one) }

pub know-turn : (now : ℕ) (es : List Entry) (ls : List Activity) (u : Pair → List ℕ) (k : Key) (x : Entry) (s : EntryState) → slot_of es k ≡ Some x
    → (translates x.state ≡ true → translates s ≡ false → HaveRested (least_rest x.pair.key.protocol) now (u x.pair)) → KnowUses now es ls u → KnowUses now (with_state k s es) ls u
know-turn now es ls u k x s found lets w =
    know-then now es (with_state k s es) ls ls u (w.alike ∙ sym (length-turn k s es))
    (λ q y h.
    let was = was-at es k s q y h in
    let a = w.known q was.entry was.found in
    subst (λ (z : Pair). Knows now (with_state k s es) ls q (u z)) was.pair (a.0, (a.1.0, life-turned k s es ls q ∙ a.1.1, a.1.2), a.2))
    (λ p t no_. elim (cases_Bool (same_key k p.key)) [
      | inl here ↦
          (let both : Some x ≡ Some t.entry = sym found ∙ ap (slot_of es) (key-eq k p.key here) ∙ t.found in
          let one : x ≡ t.entry = cc in
          let pair : x.pair ≡ p = ap (λ (z : Entry). z.pair) one ∙ t.pair in
          elim (cases_Bool (translates s)) [
            | inl still ↦ absurd (no_ record {
              entry = entry_in s t.entry.pair;
              found = either_slot k s es p.key ∙ cond-true (same_key k p.key) (option_map (restated s) (slot_of es p.key)) (slot_of es p.key) here ∙ ap (option_map (restated s)) t.found;
              pair = t.pair;
              translates = still;
            })
            | inr stops ↦ subst (λ (z : Pair). HaveRested (least_rest z.key.protocol) now (u z)) pair (lets (ap (λ (z : Entry). translates z.state) one ∙ t.translates) stops)
          ])
      | inr other ↦ absurd (no_ record {
        entry = t.entry;
        found = either_slot k s es p.key ∙ cond-false (same_key k p.key) (option_map (restated s) (slot_of es p.key)) (slot_of es p.key) other ∙ t.found;
        pair = t.pair;
        translates = t.translates;
      })
    ])
    w

pub know-drop : (now : ℕ) (es : List Entry) (ls : List Activity) (u : Pair → List ℕ) (k : Key) (x : Entry) → HasDistinctKeys es → slot_of es k ≡ Some x
    → (translates x.state ≡ true → HaveRested (least_rest x.pair.key.protocol) now (u x.pair)) → KnowUses now es ls u → KnowUses now (without k es) (lives_without k es ls) u
know-drop now es ls u k x keys found lets w =
    know-then now es (without k es) ls (lives_without k es ls) u (length-lives_without k es ls keys w.alike)
    (λ q y h. elim (cases_Bool (same_key k q)) [
      | inl here ↦ absurd (let bad : None ≡ Some y = sym (slot-without k es q ∙ cond-true (same_key k q) None (slot_of es q) here) ∙ h in cc)
      | inr other ↦
          (let a = w.known q y (sym (slot-without k es q ∙ cond-false (same_key k q) None (slot_of es q) other) ∙ h) in
          (a.0, without-keeps k es ls keys w.alike q a.0 other a.1, a.2))
    ])
    (λ p t no_. elim (cases_Bool (same_key k p.key)) [
      | inl here ↦
          (let both : Some x ≡ Some t.entry = sym found ∙ ap (slot_of es) (key-eq k p.key here) ∙ t.found in
          let one : x ≡ t.entry = cc in
          subst (λ (z : Pair). HaveRested (least_rest z.key.protocol) now (u z)) (ap (λ (z : Entry). z.pair) one ∙ t.pair) (lets (ap (λ (z : Entry). translates z.state) one ∙ t.translates)))
      | inr other ↦ absurd (no_ record {
        entry = t.entry;
        found = slot-without k es p.key ∙ cond-false (same_key k p.key) None (slot_of es p.key) other ∙ t.found;
        pair = t.pair;
        translates = t.translates;
      })
    ])
    w

-- a life may begin anew at a pair that has rested
pub know-renew : (now : ℕ) (es : List Entry) (ls : List Activity) (u : Pair → List ℕ) (k : Key) (x : Entry) → slot_of es k ≡ Some x → HaveRested (least_rest k.protocol) now (u x.pair)
    → KnowUses now es ls u → KnowUses now es (lives_with (life_renewed now) k es ls) u
know-renew now es ls u k x found rested w =
    know-then now es es ls (lives_with (life_renewed now) k es ls) u (length-with (life_renewed now) k es ls w.alike)
    (λ q y h. elim (cases_Bool (same_key k q)) [
      | inl here ↦
          (let both : Some x ≡ Some y = sym found ∙ ap (slot_of es) (key-eq k q here) ∙ h in
          let one : x ≡ y = cc in
          subst (λ (z : Key). Knows now es (lives_with (life_renewed now) k es ls) z (u y.pair)) (key-eq k q here)
          (subst (λ (z : Entry). Knows now es (lives_with (life_renewed now) k es ls) k (u z.pair)) one anew))
      | inr other ↦ (let a = w.known q y h in (a.0, (a.1.0, life-beside (life_renewed now) k es ls q other ∙ a.1.1, a.1.2), a.2))
    ])
    (λ p t no_. absurd (no_ t))
    w
  where
    anew : Knows now es (lives_with (life_renewed now) k es ls) k (u x.pair)
    anew =
        let a = w.known k x found in
        (renewed now a.0, (life_renewed now a.1.0, life-here (life_renewed now) k es ls a.1.0 a.1.1, agrees-renewed k.protocol a.0 a.1.0 now a.1.2), accounts-renewed k.protocol a.0 now (u x.pair) rested)

-- a life may begin anew at a pair that may be in use
pub know-again : (now : ℕ) (es : List Entry) (ls : List Activity) (u : Pair → List ℕ) (k : Key) (x : Entry) → slot_of es k ≡ Some x
    → KnowUses now es ls u → KnowUses now es (lives_with (life_renewed now) k es ls) u
know-again now es ls u k x found w =
    know-then now es es ls (lives_with (life_renewed now) k es ls) u (length-with (life_renewed now) k es ls w.alike)
    (λ q y h. elim (cases_Bool (same_key k q)) [
      | inl here ↦
          (let both : Some x ≡ Some y = sym found ∙ ap (slot_of es) (key-eq k q here) ∙ h in
          let one : x ≡ y = cc in
          subst (λ (z : Key). Knows now es (lives_with (life_renewed now) k es ls) z (u y.pair)) (key-eq k q here)
          (subst (λ (z : Entry). Knows now es (lives_with (life_renewed now) k es ls) k (u z.pair)) one anew))
      | inr other ↦ (let a = w.known q y h in (a.0, (a.1.0, life-beside (life_renewed now) k es ls q other ∙ a.1.1, a.1.2), a.2))
    ])
    (λ p t no_. absurd (no_ t))
    w
  where
    anew : Knows now es (lives_with (life_renewed now) k es ls) k (u x.pair)
    anew =
        let a = w.known k x found in
        (renewed now a.0, (life_renewed now a.1.0, life-here (life_renewed now) k es ls a.1.0 a.1.1, agrees-renewed k.protocol a.0 a.1.0 now a.1.2), accounts-anew k.protocol a.0 now (u x.pair) a.2)

-- where each life is changed, the life of each key is
life-each : (f : Activity → Activity) (es : List Entry) (ls : List Activity) (k : Key) (life : Activity) → life_in es ls k ≡ Some life → life_in es (map f ls) k ≡ Some (f life)
life-each f [] ls k life h = cc
life-each f (e ∷ es) [] k life h = cc
life-each f (e ∷ es) (l ∷ ls) k life h = at (has_key k e) refl h (life-each f es ls k life)
  where
    at : (b : Bool) → has_key k e ≡ b → cond b (Some l) (life_in es ls k) ≡ Some life → (life_in es ls k ≡ Some life → life_in es (map f ls) k ≡ Some (f life)) → life_in (e ∷ es) (f l ∷ map f ls) k ≡ Some (f life)
    at true here is rest = cond-true (has_key k e) (Some (f l)) (life_in es (map f ls) k) here ∙ ap (λ (z : Activity). Some (f z)) (let both : Some l ≡ Some life = is in let one : l ≡ life = cc in one)
    at false here is rest = cond-false (has_key k e) (Some (f l)) (life_in es (map f ls) k) here ∙ rest is

-- each life may begin anew, where its pair is taken to be in use
pub know-anew : (now : ℕ) (es : List Entry) (ls : List Activity) (u : Pair → List ℕ) → KnowUses now es ls u → KnowUses now es (map (life_renewed now) ls) u
know-anew now es ls u w = record {
  alike = length-map ls (life_renewed now) ∙ w.alike;
  known = λ q y h.
      let a = w.known q y h in
      (renewed now a.0, (life_renewed now a.1.0, life-each (life_renewed now) es ls q a.1.0 a.1.1, agrees-renewed q.protocol a.0 a.1.0 now a.1.2), accounts-anew q.protocol a.0 now (u y.pair) a.2);
  rested = w.rested;
}

-- a pair that translates carries a packet: `v` has one use of it more than `u`, where that use counts
pub know-carry : (since : ℕ) (es : List Entry) (ls : List Activity) (u v : Pair → List ℕ) (k : Key) (x : Entry) (p : Packet) → slot_of es k ≡ Some x → translates x.state ≡ true → since ≤ p.at
    → v x.pair ≡ cond (use_counts_at es ls k p) (p.at ∷ u x.pair) (u x.pair) → ((q : Pair) → (q ≡ x.pair → ⊥) → v q ≡ u q) → KnowUses since es ls u → KnowUses p.at es (lives_with (life_carried k.protocol p) k es ls) v
know-carry since es ls u v k x p found live le more others w = record {
  alike = length-with (life_carried k.protocol p) k es ls w.alike;
  known = λ q y h. elim (cases_Bool (same_key k q)) [
    | inl here ↦
        (let both : Some x ≡ Some y = sym found ∙ ap (slot_of es) (key-eq k q here) ∙ h in
        let one : x ≡ y = cc in
        subst (λ (z : Key). Knows p.at es (lives_with (life_carried k.protocol p) k es ls) z (v y.pair)) (key-eq k q here)
        (subst (λ (z : Entry). Knows p.at es (lives_with (life_carried k.protocol p) k es ls) k (v z.pair)) one longer))
    | inr other ↦
        (let a = w.known q y h in
        let apart : v y.pair ≡ u y.pair = others y.pair (λ same. both_ways (same_key k q) other (key-true k q (sym (slot-key es k x found) ∙ ap (λ (z : Pair). z.key) (sym same) ∙ slot-key es q y h))) in
        subst (λ (z : List ℕ). Knows p.at es (lives_with (life_carried k.protocol p) k es ls) q z) (sym apart)
        (a.0, (a.1.0, life-beside (life_carried k.protocol p) k es ls q other ∙ a.1.1, a.1.2), accounts-later q.protocol a.0 since p.at (u y.pair) le a.2))
  ];
  rested = λ q no_.
      let apart : v q ≡ u q = others q (λ same. no_ record {
        entry = x;
        found = ap (λ (z : Pair). slot_of es z.key) same ∙ ap (slot_of es) (slot-key es k x found) ∙ found;
        pair = sym same;
        translates = live;
      }) in
      subst (λ (z : List ℕ). HaveRested (least_rest q.key.protocol) p.at z) (sym apart) (rested-later (least_rest q.key.protocol) since p.at (u q) le (w.rested q no_));
}
  where
    longer : Knows p.at es (lives_with (life_carried k.protocol p) k es ls) k (v x.pair)
    longer =
        let a = w.known k x found in
        subst (λ (z : List ℕ). Knows p.at es (lives_with (life_carried k.protocol p) k es ls) k z) (sym (more ∙ ap (λ (o : Option Activity). cond (use_counts_by k p o) (p.at ∷ u x.pair) (u x.pair)) a.1.1))
        (with_packet p a.0, (life_carried k.protocol p a.1.0, life-here (life_carried k.protocol p) k es ls a.1.0 a.1.1, agrees-carried k.protocol a.0 a.1.0 p a.1.2), accounts-kept k.protocol since a.0 a.1.0 (u x.pair) p le a.1.2 a.2)

pub translating-pair : (s : EntryState) → translates s ≡ true → (is_pair s ≡ true) × (translates (woken s) ≡ true)
translating-pair (state.Pending true) h = (refl, refl)
translating-pair (state.Pending false) h = cc
translating-pair state.Doomed h = cc
translating-pair state.Live h = (refl, refl)
translating-pair (state.Closing true) h = (refl, refl)
translating-pair (state.Closing false) h = cc
translating-pair state.Alone h = (refl, refl)
translating-pair state.Held h = (refl, refl)

-- entries whose pairs are revived know of the same uses
pub know-revived : (now : ℕ) (es : List Entry) (ls : List Activity) (u : Pair → List ℕ) → HasDistinctKeys es → KnowUses now es ls u → KnowUses now (revived_entries es) (lives_of_pairs es ls) u
know-revived now es ls u keys w =
    know-then now es (revived_entries es) ls (lives_of_pairs es ls) u (length-revived es ls w.alike)
    (λ q y h. at q y (slot_of es q) refl (sym (slot-revived es q keys) ∙ h))
    (λ p t no_. absurd (
    let parts = translating-pair t.entry.state t.translates in
    no_ record {
      entry = woken_entry t.entry;
      found = slot-revived es p.key keys ∙ ap revived_slot t.found ∙ cond-true (is_pair t.entry.state) (Some (woken_entry t.entry)) None parts.0;
      pair = t.pair;
      translates = parts.1;
    }))
    w
  where
    at : (q : Key) (y : Entry) (o : Option Entry) → slot_of es q ≡ o → revived_slot o ≡ Some y → Knows now (revived_entries es) (lives_of_pairs es ls) q (u y.pair)
    at q y None there is = cc
    at q y (Some z) there is =
        elim (find-some (is_pair z.state) (woken_entry z) None y is) [
          | inl w2 ↦
              (let a = w.known q z there in
              subst (λ (v : Entry). Knows now (revived_entries es) (lives_of_pairs es ls) q (u v.pair)) w2.1
              (a.0, (a.1.0, life-revived es ls q z keys w.alike there w2.0 ∙ a.1.1, a.1.2), a.2))
          | inr w2 ↦ absurd (let bad : None ≡ Some y = w2.1 in cc)
        ]
