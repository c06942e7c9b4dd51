-- A payload into which fragments are written one after another, the last of the list first.
use Rattle.std.proofs.Common.{◌≡◌, ◌⊎◌, inl, inr, ℕ, ◌+◌, ◌-◌, ◌<◌, ◌≤◌, Bool, true, false, cond, ◌&&◌, nat_lt, nat_le, List, [], ◌∷◌, ◌++◌, length, take, drop, get_or, refl, ap, ◌∙◌, sym, subst, arith, append_assoc, length-append}
use Rattle.std.specs.List.{AllByRecursion, count_by}
use Rattle.std.proofs.lemmas.Bool.{cases_lt, and_from, and_left, and_right, lt-ltb, le-ltb, le-leb, lt-leb}
use Rattle.std.proofs.lemmas.List.{get_or_append_left, get_or-append_right, get_or-take, get_or-drop, length-take-le, length-drop, drop_all, drop_at, take-append-drop, take_all, take_at}
use Rattle.std.proofs.lemmas.List.FromFn.{fill_by_all, get_or-map-range_with_len, length-map-range_with_len}
use Rattle.frames.specs.Bytes.{Puts}
use Rattle.fragments.specs.Fragment.{carried, carries, end_of, first_of}
use Rattle.fragments.specs.Over.{byte_over, written_over}
use Rattle.fragments.specs.Whole.{IsReady, byte_at, payload_again, payload_end}
use Rattle.fragments.proofs.Counting.{count-cons, tally}

-- bytes written at a place: what stands where
put-get : (at k : ℕ) (bytes old : List ℕ) → at + length bytes ≤ length old
    → get_or (take at old ++ bytes ++ drop (at + length bytes) old) k 0 ≡ cond (nat_le at k && nat_lt k (at + length bytes)) (get_or bytes (k - at) 0) (get_or old k 0)
put-get at k bytes old fits = by (cases_lt k at) (cases_lt k (at + length bytes))
  where
    Goal : ℕ → Type 0
    Goal x = x ≡ cond (nat_le at k && nat_lt k (at + length bytes)) (get_or bytes (k - at) 0) (get_or old k 0)

    front : length (take at old) ≡ at
    front = length-take-le at old (omega (arith, fits))

    two : length (take at old ++ bytes) ≡ at + length bytes
    two = length-append (take at old) bytes ∙ ap (λ (n : ℕ). n + length bytes) front

    rest : List ℕ
    rest = drop (at + length bytes) old

    outside : (nat_le at k && nat_lt k (at + length bytes)) ≡ false → get_or (take at old ++ bytes ++ rest) k 0 ≡ get_or old k 0 → Goal (get_or (take at old ++ bytes ++ rest) k 0)
    outside isnt same = same ∙ sym (ap (λ (b : Bool). cond b (get_or bytes (k - at) 0) (get_or old k 0)) isnt)

    inside : (nat_le at k && nat_lt k (at + length bytes)) ≡ true → get_or (take at old ++ bytes ++ rest) k 0 ≡ get_or bytes (k - at) 0 → Goal (get_or (take at old ++ bytes ++ rest) k 0)
    inside is same = same ∙ sym (ap (λ (b : Bool). cond b (get_or bytes (k - at) 0) (get_or old k 0)) is)

    by : (k < at) ⊎ (at ≤ k) → (k < at + length bytes) ⊎ (at + length bytes ≤ k) → Goal (get_or (take at old ++ bytes ++ rest) k 0)
    by (inl before) _ =
        outside (and_left _ _ (lt-leb at k before))
        (get_or_append_left (take at old ++ bytes) rest 0 k (omega (arith, two, before))
        ∙ (get_or_append_left (take at old) bytes 0 k (omega (arith, front, before)) ∙ get_or-take at old k 0 before))
    by (inr from) (inl here) =
        inside (and_from _ _ (le-leb at k from) (lt-ltb k (at + length bytes) here))
        (get_or_append_left (take at old ++ bytes) rest 0 k (omega (arith, two, here))
        ∙ get_or-append_right (take at old) bytes at k 0 front from)
    by (inr from) (inr behind) =
        outside (and_right _ _ (le-ltb k (at + length bytes) behind))
        (get_or-append_right (take at old ++ bytes) rest (at + length bytes) k 0 two behind
        ∙ (get_or-drop (at + length bytes) old (k - (at + length bytes)) 0
        ∙ ap (λ (n : ℕ). get_or old n 0) (let n : at + length bytes + (k - (at + length bytes)) ≡ k = omega (arith, behind) in n)))

pub length-put : (at : ℕ) (bytes old : List ℕ) → at + length bytes ≤ length old → length (take at old ++ bytes ++ drop (at + length bytes) old) ≡ length old
length-put at bytes old fits = omega (
  arith,
  length-append (take at old ++ bytes) (drop (at + length bytes) old),
  length-append (take at old) bytes,
  length-take-le at old (omega (arith, fits)),
  length-drop (at + length bytes) old,
  fits,
)

length-over : (old : List ℕ) (fs : List (List ℕ)) → length (written_over old fs) ≡ length old
length-over old fs = length-map-range_with_len (byte_over old fs) 0 (length old)

-- one more fragment is written before the others
pub filled-more : (was : List ℕ) (f : List ℕ) (fs : List (List ℕ)) (old new : List ℕ) → end_of f ≤ length was → old ≡ written_over was fs → Puts (first_of f) (carried f) old new → new ≡ written_over was (f ∷ fs)
unfolding carries
filled-more was f fs old new within is put =
    let size : length old ≡ length was = ap length is ∙ length-over was fs in
    let fits : first_of f + length (carried f) ≤ length old = omega (arith, within, size) in
    let long : length new ≡ length was = ap length put ∙ length-put (first_of f) (carried f) old fits ∙ size in
    fill_by_all (byte_over was (f ∷ fs)) new (length was) 0 long
    (λ k below. ap (λ (xs : List ℕ). get_or xs k 0) put
    ∙ (put-get (first_of f) k (carried f) old fits
    ∙ ap (λ (x : ℕ). cond (carries k f) (get_or (carried f) (k - first_of f) 0) x)
    (ap (λ (xs : List ℕ). get_or xs k 0) is ∙ get_or-map-range_with_len (byte_over was fs) 0 (length was) k k 0 below (omega arith))))

-- no fragment is written yet
pub filled-none : (was : List ℕ) → was ≡ written_over was []
filled-none was = fill_by_all (byte_over was []) was (length was) 0 refl (λ k below. refl)

-- ---- a loop that writes the fragments of a list, the last one first
pub record Filled (was : List ℕ) (all left : List (List ℕ)) (payload : List ℕ) : Type 0 where
  pub front : left ≡ take (length left) all
  pub written : payload ≡ written_over was (drop (length left) all)

pub fill-begins : (was : List ℕ) (all : List (List ℕ)) → Filled was all all was
fill-begins was all = record {
  front = sym (take_all (length all) all (omega arith));
  written = filled-none was ∙ ap (written_over was) (sym (drop_all (length all) all (omega arith)));
}

-- the list, around the last one of what is left
split : (all left before : List (List ℕ)) (f : List ℕ) → left ≡ take (length left) all → left ≡ before ++ f ∷ [] → all ≡ before ++ (f ∷ drop (length left) all)
split all left before f front last =
    sym (take-append-drop (length left) all)
    ∙ ap (λ (xs : List (List ℕ)). xs ++ drop (length left) all) (sym front ∙ last)
    ∙ append_assoc before (f ∷ []) (drop (length left) all)

one-of-all : (P : List ℕ → Type 0) (xs ys : List (List ℕ)) (x : List ℕ) → AllByRecursion P (xs ++ (x ∷ ys)) → P x
one-of-all P [] ys x all = all.0
one-of-all P (y ∷ xs) ys x all = one-of-all P xs ys x all.1

pub fill-within : (was : List ℕ) (all left before : List (List ℕ)) (f payload : List ℕ) → AllByRecursion (λ (g : List ℕ). end_of g ≤ length was) all → Filled was all left payload → left ≡ before ++ f ∷ [] → end_of f ≤ length was
fill-within was all left before f payload within is last =
    one-of-all (λ (g : List ℕ). end_of g ≤ length was) before (drop (length left) all) f
    (subst (λ (xs : List (List ℕ)). AllByRecursion (λ (g : List ℕ). end_of g ≤ length was) xs) (split all left before f is.front last) within)

pub fill-long : (was : List ℕ) (all left : List (List ℕ)) (payload : List ℕ) → Filled was all left payload → length payload ≡ length was
fill-long was all left payload is = ap length is.written ∙ length-over was (drop (length left) all)

pub fill-goes : (was : List ℕ) (all left before : List (List ℕ)) (f old new : List ℕ) → AllByRecursion (λ (g : List ℕ). end_of g ≤ length was) all → Filled was all left old → left ≡ before ++ f ∷ [] → Puts (first_of f) (carried f) old new → Filled was all before new
fill-goes was all left before f old new within is last put =
    let around = split all left before f is.front last in
    let ahead : take (length before) all ≡ before = ap (take (length before)) around ∙ take_at before (f ∷ drop (length left) all) (length before) refl in
    let behind : drop (length before) all ≡ f ∷ drop (length left) all = ap (drop (length before)) around ∙ drop_at before (f ∷ drop (length left) all) (length before) refl in
    record {
      front = sym ahead;
      written = filled-more was f (drop (length left) all) old new (fill-within was all left before f old within is last) is.written put ∙ ap (written_over was) (sym behind);
    }

pub fill-ends : (was : List ℕ) (all left : List (List ℕ)) (payload : List ℕ) → Filled was all left payload → length left ≡ 0 → payload ≡ written_over was all
fill-ends was all left payload is none = is.written ∙ ap (λ (k : ℕ). written_over was (drop k all)) none

-- ---- what was there before doesn't count where each place is carried
over-last : (was mid new : List ℕ) (there : List (List ℕ)) (k : ℕ) → end_of new ≤ length was → Puts (first_of new) (carried new) was mid → byte_over mid there k ≡ byte_over was (there ++ new ∷ []) k
unfolding carries
over-last was mid new [] k within put =
    ap (λ (xs : List ℕ). get_or xs k 0) put ∙ put-get (first_of new) k (carried new) was within
over-last was mid new (f ∷ fs) k within put =
    ap (λ (x : ℕ). cond (carries k f) (get_or (carried f) (k - first_of f) 0) x) (over-last was mid new fs k within put)

over-carried : (was : List ℕ) (fs : List (List ℕ)) (k : ℕ) → count_by (carries k) fs ≡ 1 → byte_over was fs k ≡ byte_at fs k
over-carried was [] k once = absurd (omega (arith, once))
over-carried was (f ∷ fs) k once = by (carries k f) refl (λ rest. over-carried was fs k rest)
  where
    by : (b : Bool) → carries k f ≡ b → (count_by (carries k) fs ≡ 1 → byte_over was fs k ≡ byte_at fs k)
        → cond b (get_or (carried f) (k - first_of f) 0) (byte_over was fs k) ≡ cond b (get_or (carried f) (k - first_of f) 0) (byte_at fs k)
    by true is rest = refl
    by false is rest = rest (omega (arith, once, count-cons (carries k) f fs, ap tally is))

-- the payload, where the one that completes them was written first
pub filled-all : (was mid payload new : List ℕ) (there : List (List ℕ)) → IsReady (there ++ new ∷ []) → length was ≡ payload_end (there ++ new ∷ []) → end_of new ≤ length was → Puts (first_of new) (carried new) was mid → payload ≡ written_over mid there → payload ≡ payload_again (there ++ new ∷ [])
filled-all was mid payload new there ready long within put is =
    let all : List (List ℕ) = there ++ new ∷ [] in
    let size : length mid ≡ payload_end (there ++ new ∷ []) = ap length put ∙ length-put (first_of new) (carried new) was within ∙ long in
    fill_by_all (byte_at (there ++ new ∷ [])) payload (payload_end (there ++ new ∷ [])) 0 (ap length is ∙ length-over mid there ∙ size)
    (λ k below. ap (λ (xs : List ℕ). get_or xs k 0) is
    ∙ (get_or-map-range_with_len (byte_over mid there) 0 (length mid) k k 0 (omega (arith, below, size)) (omega arith)
    ∙ (over-last was mid new there k within put
    ∙ over-carried was (there ++ new ∷ []) k (ready.complete.each k below))))

-- none ends behind the end of the payload: of these, and of the one that completes them
pub record AreWithin (n : ℕ) (there : List (List ℕ)) (new : List ℕ) : Type 0 where
  pub each : AllByRecursion (λ (f : List ℕ). end_of f ≤ n) there
  pub last : end_of new ≤ n

pub within-both : (n : ℕ) (there : List (List ℕ)) (new : List ℕ) → AllByRecursion (λ (f : List ℕ). end_of f ≤ n) (there ++ new ∷ []) → AreWithin n there new
within-both n [] new all = record { each = tt; last = all.0 }
within-both n (f ∷ fs) new all =
    let rest = within-both n fs new all.1 in
    record { each = (all.0, rest.each); last = rest.last }
