-- What is kept at a side stays within its bounds.
use Rattle.std.proofs.Common.{◌≡◌, ℕ, suc, ◌+◌, ◌*◌, ◌-◌, ◌<◌, ◌≤◌, Bool, true, false, not, cond, ◌&&◌, ◌||◌, ◌==◌, nat_lt, nat_le, Option, Some, None, unwrap_or, List, [], ◌∷◌, ◌++◌, length, drop, refl, ap, ◌∙◌, sym, subst, arith, length-append}
use Rattle.std.specs.List.{AllByRecursion, IsDistinct, count_by, filter, find, list_any}
use Rattle.std.proofs.lemmas.Bool.{and_parts, or_parts, leb-true, leb-false, ltb-false, eqb-true, ne_eqb}
use Rattle.std.proofs.lemmas.Bool.Decides.{nat_tests}
use Rattle.std.proofs.lemmas.List.Sums.{sum_by-cons, sum_by_push}
use Rattle.std.proofs.lemmas.Option.{same_Some}
use Rattle.std.proofs.lemmas.Slice.Eq.{bytes_eq-Decides}
use Rattle.std.specs.Str.{bytes_eq}
use Rattle.ipv4.specs.Header.{header_of}
use Rattle.fragments.specs.Fragment.{IsFragment, carried, contradicts, end_of, first_of, ipv4_in, is_broken, is_last, more_of, trimmed}
use Rattle.fragments.specs.Gathered.{AreApart, AreKept, Datagram, IsOf, IsPartial, arrived, begun, dropped_old, effect_of, is_from, is_named, is_young, joined, refused, taken, with_first, with_fragments, with_place, without_first}
use Rattle.fragments.specs.Name.{name_of, same_name}
use Rattle.fragments.specs.Whole.{carried_by, is_whole, payload_end, whole_length}
use Rattle.fragments.proofs.Counting.{found-all, found-passes, tally}
use Rattle.fragments.proofs.Trimming.{trimmed-fragment}
use Rattle.fragments.specs.declared.names.Name.{Name}
use Rattle.fragments.specs.declared.datagrams.Effect.{Effect}
use Rattle.fragments.specs.declared.datagrams.Effect.TheVariants.{Repeats, Contradicts, Waits, TooLong, Completes}

-- ---- a list without its first item that passes, and without its first item
pub all-without : {X : Type 0} (P : X → Type 0) (p : X → Bool) (xs : List X) → AllByRecursion P xs → AllByRecursion P (without_first p xs)
all-without P p [] all = tt
all-without {X} P p (x ∷ xs) all = by (p x) (all-without P p xs all.1)
  where
    by : (b : Bool) → AllByRecursion P (without_first p xs) → AllByRecursion P (cond b xs (x ∷ without_first p xs))
    by true rest = all.1
    by false rest = (all.0, rest)

distinct-without : {X : Type 0} (e : X → X → Bool) (p : X → Bool) (xs : List X) → IsDistinct e xs → IsDistinct e (without_first p xs)
unfolding IsDistinct
distinct-without e p [] d = tt
distinct-without {X} e p (x ∷ xs) d = by (p x) (distinct-without e p xs d.1)
  where
    by : (b : Bool) → IsDistinct e (without_first p xs) → IsDistinct e (cond b xs (x ∷ without_first p xs))
    by true rest = d.1
    by false rest = (all-without (λ y. e x y ≡ false) p xs d.0, rest)

pub count-cons : {X : Type 0} (q : X → Bool) (x : X) (xs : List X) → count_by q (x ∷ xs) ≡ cond (q x) 1 0 + count_by q xs
count-cons q x xs = sum_by-cons (λ y. cond (q y) 1 0) x xs

pub count-without : {X : Type 0} (q p : X → Bool) (xs : List X) → count_by q (without_first p xs) ≤ count_by q xs
count-without q p [] = omega arith
count-without {X} q p (x ∷ xs) = by (p x) (count-without q p xs)
  where
    by : (b : Bool) → count_by q (without_first p xs) ≤ count_by q xs → count_by q (cond b xs (x ∷ without_first p xs)) ≤ count_by q (x ∷ xs)
    by true rest = omega (arith, count-cons q x xs)
    by false rest = omega (arith, count-cons q x xs, count-cons q x (without_first p xs), rest)

pub length-without : {X : Type 0} (p : X → Bool) (xs : List X) → length (without_first p xs) ≤ length xs
length-without p [] = omega arith
length-without {X} p (x ∷ xs) = by (p x) (length-without p xs)
  where
    by : (b : Bool) → length (without_first p xs) ≤ length xs → length (cond b xs (x ∷ without_first p xs)) ≤ length (x ∷ xs)
    by true rest = omega arith
    by false rest = omega (arith, rest)

-- where one passes, one less is there
abbrev Fewer : {X : Type 0} → (X → Bool) → List X → List X → Type 0
Fewer p less xs = (count_by p less + 1 ≡ count_by p xs) × (length less + 1 ≡ length xs)

fewer-without : {X : Type 0} (p : X → Bool) (xs : List X) → 1 ≤ count_by p xs → Fewer p (without_first p xs) xs
fewer-without p [] some = absurd (omega arith)
fewer-without {X} p (x ∷ xs) some = by (p x) refl (λ there. fewer-without p xs there)
  where
    by : (b : Bool) → p x ≡ b → (1 ≤ count_by p xs → Fewer p (without_first p xs) xs) → Fewer p (cond b xs (x ∷ without_first p xs)) (x ∷ xs)
    by true is rest = (omega (arith, count-cons p x xs, ap tally is), omega arith)
    by false is rest =
        let none = ap tally is in
        let less = rest (omega (arith, some, count-cons p x xs, none)) in
        (omega (arith, count-cons p x xs, count-cons p x (without_first p xs), none, less.0), omega (arith, less.1))

all-rest : {X : Type 0} (P : X → Type 0) (xs : List X) → AllByRecursion P xs → AllByRecursion P (drop 1 xs)
all-rest P [] all = tt
all-rest P (x ∷ xs) all = all.1

distinct-rest : {X : Type 0} (e : X → X → Bool) (xs : List X) → IsDistinct e xs → IsDistinct e (drop 1 xs)
unfolding IsDistinct
distinct-rest e [] d = tt
distinct-rest e (x ∷ xs) d = d.1

count-rest : {X : Type 0} (q : X → Bool) (xs : List X) → count_by q (drop 1 xs) ≤ count_by q xs
count-rest q [] = omega arith
count-rest q (x ∷ xs) = omega (arith, count-cons q x xs)

length-rest : {X : Type 0} (xs : List X) → length (drop 1 xs) ≡ length xs - 1
length-rest [] = refl
length-rest (x ∷ xs) = omega arith

-- ---- a list with one item more
pub all-push : {X : Type 0} (P : X → Type 0) (xs : List X) (y : X) → AllByRecursion P xs → P y → AllByRecursion P (xs ++ y ∷ [])
all-push P [] y all one = (one, tt)
all-push P (x ∷ xs) y all one = (all.0, all-push P xs y all.1 one)

distinct-push : {X : Type 0} (e : X → X → Bool) (xs : List X) (y : X) → IsDistinct e xs → AllByRecursion (λ x. e x y ≡ false) xs → IsDistinct e (xs ++ y ∷ [])
unfolding IsDistinct
distinct-push e [] y d new = (tt, tt)
distinct-push e (x ∷ xs) y d new = (all-push (λ z. e x z ≡ false) xs y d.0 new.0, distinct-push e xs y d.1 new.1)

count-push : {X : Type 0} (q : X → Bool) (xs : List X) (y : X) → count_by q (xs ++ y ∷ []) ≡ count_by q xs + cond (q y) 1 0
count-push q xs y = sum_by_push (λ x. cond (q x) 1 0) xs y

apart-push : (fs : List (List ℕ)) (g : List ℕ) → AreApart fs → AllByRecursion (λ f. contradicts f g ≡ false) fs → AreApart (fs ++ g ∷ [])
apart-push [] g apart new = (tt, tt)
apart-push (f ∷ fs) g apart new = (all-push (λ h. contradicts f h ≡ false) fs g apart.0 new.0, apart-push fs g apart.1 new.1)

-- none passes
none-any : {X : Type 0} (p : X → Bool) (xs : List X) → list_any p xs ≡ false → AllByRecursion (λ x. p x ≡ false) xs
none-any p [] none = tt
none-any p (x ∷ xs) none = let parts = or_parts (p x) (list_any p xs) none in (parts.0, none-any p xs parts.1)

none-found : {X : Type 0} (p : X → Bool) (xs : List X) → find p xs ≡ None → AllByRecursion (λ x. p x ≡ false) xs
none-found p [] none = tt
none-found {X} p (x ∷ xs) none = by (p x) refl none (λ behind. none-found p xs behind)
  where
    by : (b : Bool) → p x ≡ b → (let o : Option X = cond b (Some x) (find p xs) in o) ≡ None → (find p xs ≡ None → AllByRecursion (λ y. p y ≡ false) xs) → AllByRecursion (λ y. p y ≡ false) (x ∷ xs)
    by true is none rest = cc
    by false is none rest = (is, rest none)

-- ---- a datagram begins
pub same-name : (a b : Name) → same_name a b ≡ true → a ≡ b
unfolding same_name
same-name a b same =
    let five = and_parts _ (a.identification == b.identification) same in
    let four = and_parts _ (a.protocol == b.protocol) five.0 in
    let three = and_parts _ (a.destination.0 == b.destination.0) four.0 in
    let two = and_parts (bytes_eq a.to.0 b.to.0) (a.source.0 == b.source.0) three.0 in
    let to : a.to.0 ≡ b.to.0 = (bytes_eq-Decides a.to.0 b.to.0).0 two.0 in
    let source : a.source.0 ≡ b.source.0 = eqb-true _ _ two.1 in
    let destination : a.destination.0 ≡ b.destination.0 = eqb-true _ _ three.1 in
    let protocol : a.protocol ≡ b.protocol = eqb-true _ _ four.1 in
    let identification : a.identification ≡ b.identification = eqb-true _ _ five.1 in
    made a.to.0 b.to.0 a.source.0 b.source.0 a.destination.0 b.destination.0 a.protocol b.protocol a.identification b.identification to source destination protocol identification
  where
    name : List ℕ → ℕ → ℕ → ℕ → ℕ → Name
    name t s d p i = record { to = record { 0 = t }; source = record { 0 = s }; destination = record { 0 = d }; protocol = p; identification = i }

    made : (t u : List ℕ) (s r d e p q i j : ℕ) → t ≡ u → s ≡ r → d ≡ e → p ≡ q → i ≡ j → name t s d p i ≡ name u r e q j
    made t u s r d e p q i j a1 a2 a3 a4 a5 = cc

-- a fragment by itself leaves something missing
alone-missing : (more offset size : ℕ) → (not (more == 0) || not (offset == 0)) ≡ true → (more == 0) ≡ true → size ≡ 8 * offset + size → ⊥
alone-missing more offset size part last same = grind (arith, nat_tests)

not-whole : (f : List ℕ) → IsFragment f → is_whole (f ∷ []) ≡ false
unfolding first_of more_of is_whole payload_end
not-whole f is = by (is_last f) refl
  where
    by : (b : Bool) → is_last f ≡ b → ((b || false) && (carried_by (f ∷ []) == end_of (unwrap_or (cond b (Some f) None) []))) ≡ false
    by false isnt = refl
    by true last = ne_eqb _ _ (λ same. alone-missing (more_of f) (header_of (ipv4_in f)).fragment_offset (length (carried f)) is.part last (omega (arith, same)))

-- the fragments of a datagram that begins
partial-begun : (now : ℕ) (f : List ℕ) → IsFragment f → is_broken f ≡ false → IsPartial (record { name = name_of f; since = now; fragments = f ∷ [] })
partial-begun now f is fine = record {
  few = omega arith;
  each = (record { fragment_is = is; unbroken = fine; named = refl }, tt);
  apart = (tt, tt);
  missing = not-whole f is;
}

kept-placed : (source : ℕ) (ds : List Datagram) → AreKept ds → AreKept (with_place source ds)
unfolding with_place
kept-placed source ds kept = by (nat_le 16 (count_by (is_from source) ds))
  where
    out : AreKept (without_first (is_from source) ds)
    out = record {
      few = omega (arith, length-without (is_from source) ds, kept.few);
      sources = λ s. omega (arith, count-without (is_from s) (is_from source) ds, kept.sources s);
      distinct = distinct-without _ (is_from source) ds kept.distinct;
      each = all-without IsPartial (is_from source) ds kept.each;
    }

    first_out : AreKept (drop 1 ds)
    first_out = record {
      few = omega (arith, length-rest ds, kept.few);
      sources = λ s. omega (arith, count-rest (is_from s) ds, kept.sources s);
      distinct = distinct-rest _ ds kept.distinct;
      each = all-rest IsPartial ds kept.each;
    }

    in-full : (b : Bool) → AreKept (cond b (drop 1 ds) ds)
    in-full true = first_out
    in-full false = kept

    by : (b : Bool) → AreKept (cond b (without_first (is_from source) ds) (cond (nat_le 64 (length ds)) (drop 1 ds) ds))
    by true = out
    by false = in-full (nat_le 64 (length ds))

-- there is a place then: fewer than 64 are there, and of the source fewer than 16
room-placed : (source : ℕ) (ds : List Datagram) → AreKept ds → (length (with_place source ds) < 64) × (count_by (is_from source) (with_place source ds) < 16)
unfolding with_place
room-placed source ds kept = by (nat_le 16 (count_by (is_from source) ds)) refl
  where
    Room : List Datagram → Type 0
    Room xs = (length xs < 64) × (count_by (is_from source) xs < 16)

    in-full : (b : Bool) → nat_le 64 (length ds) ≡ b → count_by (is_from source) ds < 16 → (length (cond b (drop 1 ds) ds) < 64) × (count_by (is_from source) (cond b (drop 1 ds) ds) < 16)
    in-full true is few = (omega (arith, length-rest ds, kept.few, leb-true 64 (length ds) is), omega (arith, count-rest (is_from source) ds, few))
    in-full false is few = (omega (arith, leb-false 64 (length ds) is), few)

    by : (b : Bool) → nat_le 16 (count_by (is_from source) ds) ≡ b
        → (length (cond b (without_first (is_from source) ds) (cond (nat_le 64 (length ds)) (drop 1 ds) ds)) < 64)
        × (count_by (is_from source) (cond b (without_first (is_from source) ds) (cond (nat_le 64 (length ds)) (drop 1 ds) ds)) < 16)
    by true is =
        let many = leb-true 16 (count_by (is_from source) ds) is in
        let less = fewer-without (is_from source) ds (omega (arith, many)) in
        (omega (arith, less.1, kept.few), omega (arith, less.0, kept.sources source))
    by false is = in-full (nat_le 64 (length ds)) refl (leb-false 16 (count_by (is_from source) ds) is)

pub all-placed : (P : Datagram → Type 0) (source : ℕ) (ds : List Datagram) → AllByRecursion P ds → AllByRecursion P (with_place source ds)
unfolding with_place
all-placed P source ds all = by (nat_le 16 (count_by (is_from source) ds)) (nat_le 64 (length ds))
  where
    by : (b c : Bool) → AllByRecursion P (cond b (without_first (is_from source) ds) (cond c (drop 1 ds) ds))
    by true c = all-without P (is_from source) ds all
    by false true = all-rest P ds all
    by false false = all

kept-begun : (now : ℕ) (f : List ℕ) (ds : List Datagram) → IsFragment f → is_broken f ≡ false → find (is_named (name_of f)) ds ≡ None → AreKept ds → AreKept (begun now f ds)
kept-begun now f ds is fine new kept =
    let name = name_of f in
    let d : Datagram = record { name = name; since = now; fragments = f ∷ [] } in
    let placed = with_place name.source.0 ds in
    let were = kept-placed name.source.0 ds kept in
    let room = room-placed name.source.0 ds kept in
    let none = all-placed (λ (e : Datagram). is_named name e ≡ false) name.source.0 ds (none-found (is_named name) ds new) in
    record {
      few = omega (arith, length-append placed (d ∷ []), room.0);
      sources = λ s. one-more s placed d room.1 (were.sources s);
      distinct = distinct-push _ placed d were.distinct none;
      each = all-push IsPartial placed d were.each (partial-begun now f is fine);
    }
  where
    one-more : (s : ℕ) (placed : List Datagram) (d : Datagram) → count_by (is_from d.name.source.0) placed < 16 → count_by (is_from s) placed ≤ 16 → count_by (is_from s) (placed ++ d ∷ []) ≤ 16
    one-more s placed d few most = by (d.name.source.0 == s) refl
      where
        by : (b : Bool) → (d.name.source.0 == s) ≡ b → count_by (is_from s) (placed ++ d ∷ []) ≤ 16
        by true same =
            let is_s : d.name.source.0 ≡ s = eqb-true d.name.source.0 s same in
            let fewer : count_by (is_from s) placed < 16 = subst (λ (n : ℕ). count_by (is_from n) placed < 16) is_s few in
            omega (arith, count-push (is_from s) placed d, ap tally same, fewer)
        by false other = omega (arith, count-push (is_from s) placed d, ap tally other, most)

-- ---- the first datagram of a name gets other fragments
length-with : {X : Type 0} (p : X → Bool) (g : X → X) (xs : List X) → length (with_first p g xs) ≡ length xs
length-with p g [] = refl
length-with {X} p g (x ∷ xs) = by (p x) (length-with p g xs)
  where
    by : (b : Bool) → length (with_first p g xs) ≡ length xs → length (cond b (g x ∷ xs) (x ∷ with_first p g xs)) ≡ length (x ∷ xs)
    by true rest = refl
    by false rest = ap suc rest

count-with : {X : Type 0} (q p : X → Bool) (g : X → X) → ((x : X) → q (g x) ≡ q x) → (xs : List X) → count_by q (with_first p g xs) ≡ count_by q xs
count-with q p g same [] = refl
count-with {X} q p g same (x ∷ xs) = by (p x) (count-with q p g same xs)
  where
    by : (b : Bool) → count_by q (with_first p g xs) ≡ count_by q xs → count_by q (cond b (g x ∷ xs) (x ∷ with_first p g xs)) ≡ count_by q (x ∷ xs)
    by true rest = count-cons q (g x) xs ∙ ap (λ (c : Bool). cond c 1 0 + count_by q xs) (same x) ∙ sym (count-cons q x xs)
    by false rest = count-cons q x (with_first p g xs) ∙ ap (λ (n : ℕ). cond (q x) 1 0 + n) rest ∙ sym (count-cons q x xs)

all-with-same : {X : Type 0} (q : X → Bool) (p : X → Bool) (g : X → X) → ((x : X) → q (g x) ≡ q x) → (xs : List X) → AllByRecursion (λ x. q x ≡ false) xs → AllByRecursion (λ x. q x ≡ false) (with_first p g xs)
all-with-same q p g same [] all = tt
all-with-same {X} q p g same (x ∷ xs) all = by (p x) (all-with-same q p g same xs all.1)
  where
    by : (b : Bool) → AllByRecursion (λ y. q y ≡ false) (with_first p g xs) → AllByRecursion (λ y. q y ≡ false) (cond b (g x ∷ xs) (x ∷ with_first p g xs))
    by true rest = (same x ∙ all.0, all.1)
    by false rest = (all.0, rest)

distinct-with : {X : Type 0} (e : X → X → Bool) (p : X → Bool) (g : X → X) → ((x y : X) → e x (g y) ≡ e x y) → ((x y : X) → e (g x) y ≡ e x y) → (xs : List X) → IsDistinct e xs → IsDistinct e (with_first p g xs)
unfolding IsDistinct
distinct-with e p g right left [] d = tt
distinct-with {X} e p g right left (x ∷ xs) d = by (p x) (distinct-with e p g right left xs d.1)
  where
    heads : (ys : List X) → AllByRecursion (λ y. e x y ≡ false) ys → AllByRecursion (λ y. e (g x) y ≡ false) ys
    heads [] all = tt
    heads (y ∷ ys) all = (left x y ∙ all.0, heads ys all.1)

    by : (b : Bool) → IsDistinct e (with_first p g xs) → IsDistinct e (cond b (g x ∷ xs) (x ∷ with_first p g xs))
    by true rest = (heads xs d.0, d.1)
    by false rest = (all-with-same (e x) p g (right x) xs d.0, rest)

-- what is found is changed, and what holds of all holds of it then
pub all-with : {X : Type 0} (P : X → Type 0) (p : X → Bool) (g : X → X) (xs : List X) (x : X) → find p xs ≡ Some x → AllByRecursion P xs → P (g x) → AllByRecursion P (with_first p g xs)
all-with P p g [] x found all new = cc
all-with {X} P p g (y ∷ xs) x found all new = by (p y) found (λ there. all-with P p g xs x there all.1 new)
  where
    by : (b : Bool) → (let o : Option X = cond b (Some y) (find p xs) in o) ≡ Some x → (find p xs ≡ Some x → AllByRecursion P (with_first p g xs)) → AllByRecursion P (cond b (g y ∷ xs) (y ∷ with_first p g xs))
    by true here rest = (subst (λ (z : X). P (g z)) (sym (same_Some y x here)) new, all.1)
    by false here rest = (all.0, rest here)

kept-with : (name : Name) (fragments : List (List ℕ)) (ds : List Datagram) (d : Datagram) → find (is_named name) ds ≡ Some d → IsPartial (record d { fragments = fragments }) → AreKept ds → AreKept (with_fragments name fragments ds)
kept-with name fragments ds d found new kept =
    let g : Datagram → Datagram = λ e. record e { fragments = fragments } in
    record {
      few = omega (arith, length-with (is_named name) g ds, kept.few);
      sources = λ s. omega (arith, count-with (is_from s) (is_named name) g (λ e. refl) ds, kept.sources s);
      distinct = distinct-with (λ a b. is_named b.name a) (is_named name) g (λ x y. refl) (λ x y. refl) ds kept.distinct;
      each = all-with IsPartial (is_named name) g ds d found kept.each new;
    }

pub kept-without : (name : Name) (ds : List Datagram) → AreKept ds → AreKept (without_first (is_named name) ds)
kept-without name ds kept = record {
  few = omega (arith, length-without (is_named name) ds, kept.few);
  sources = λ s. omega (arith, count-without (is_from s) (is_named name) ds, kept.sources s);
  distinct = distinct-without _ (is_named name) ds kept.distinct;
  each = all-without IsPartial (is_named name) ds kept.each;
}

-- ---- old datagrams are given up
pub all-filter : {X : Type 0} (P : X → Type 0) (p : X → Bool) (xs : List X) → AllByRecursion P xs → AllByRecursion P (filter p xs)
all-filter P p [] all = tt
all-filter {X} P p (x ∷ xs) all = by (p x) (all-filter P p xs all.1)
  where
    by : (b : Bool) → AllByRecursion P (filter p xs) → AllByRecursion P (cond b (x ∷ filter p xs) (filter p xs))
    by true rest = (all.0, rest)
    by false rest = rest

distinct-filter : {X : Type 0} (e : X → X → Bool) (p : X → Bool) (xs : List X) → IsDistinct e xs → IsDistinct e (filter p xs)
unfolding IsDistinct
distinct-filter e p [] d = tt
distinct-filter {X} e p (x ∷ xs) d = by (p x) (distinct-filter e p xs d.1)
  where
    by : (b : Bool) → IsDistinct e (filter p xs) → IsDistinct e (cond b (x ∷ filter p xs) (filter p xs))
    by true rest = (all-filter (λ y. e x y ≡ false) p xs d.0, rest)
    by false rest = rest

count-filter : {X : Type 0} (q p : X → Bool) (xs : List X) → count_by q (filter p xs) ≤ count_by q xs
count-filter q p [] = omega arith
count-filter {X} q p (x ∷ xs) = by (p x) (count-filter q p xs)
  where
    by : (b : Bool) → count_by q (filter p xs) ≤ count_by q xs → count_by q (cond b (x ∷ filter p xs) (filter p xs)) ≤ count_by q (x ∷ xs)
    by true rest = omega (arith, count-cons q x xs, count-cons q x (filter p xs), rest)
    by false rest = omega (arith, count-cons q x xs, rest)

length-filtered : {X : Type 0} (p : X → Bool) (xs : List X) → length (filter p xs) ≤ length xs
length-filtered p [] = omega arith
length-filtered {X} p (x ∷ xs) = by (p x) (length-filtered p xs)
  where
    by : (b : Bool) → length (filter p xs) ≤ length xs → length (cond b (x ∷ filter p xs) (filter p xs)) ≤ length (x ∷ xs)
    by true rest = omega (arith, rest)
    by false rest = omega (arith, rest)

pub kept-young : (now : ℕ) (ds : List Datagram) → AreKept ds → AreKept (dropped_old now ds)
kept-young now ds kept = record {
  few = omega (arith, length-filtered (is_young now) ds, kept.few);
  sources = λ s. omega (arith, count-filter (is_from s) (is_young now) ds, kept.sources s);
  distinct = distinct-filter _ (is_young now) ds kept.distinct;
  each = all-filter IsPartial (is_young now) ds kept.each;
}

all-pass : {X : Type 0} (p : X → Bool) (xs : List X) → AllByRecursion (λ x. p x ≡ true) (filter p xs)
all-pass p [] = tt
all-pass {X} p (x ∷ xs) = by (p x) refl (all-pass p xs)
  where
    by : (b : Bool) → p x ≡ b → AllByRecursion (λ y. p y ≡ true) (filter p xs) → AllByRecursion (λ y. p y ≡ true) (cond b (x ∷ filter p xs) (filter p xs))
    by true is rest = (is, rest)
    by false isnt rest = rest

pub all-young : (now : ℕ) (ds : List Datagram) → AllByRecursion (λ d. is_young now d ≡ true) (dropped_old now ds)
all-young now ds = all-pass (is_young now) ds

pub kept-none : AreKept []
unfolding IsDistinct
kept-none = record { few = omega arith; sources = λ s. omega arith; distinct = tt; each = tt }

-- ---- what an effect says
pub record NoneContradicts (there : List (List ℕ)) (f : List ℕ) : Type 0 where
  pub apart : AllByRecursion (λ g. contradicts g f ≡ false) there
  pub few : length there < 64

waits-says : (a b c d : Bool) → (let e : Effect = cond a Repeats (cond b Contradicts (cond (not c) Waits (cond d TooLong Completes))) in e) ≡ Waits → (b ≡ false) × (c ≡ false)
waits-says true b c d is = cc
waits-says false true c d is = cc
waits-says false false false d is = (refl, refl)
waits-says false false true true is = cc
waits-says false false true false is = cc

completes-says : (a b c d : Bool) → (let e : Effect = cond a Repeats (cond b Contradicts (cond (not c) Waits (cond d TooLong Completes))) in e) ≡ Completes → (b ≡ false) × (c ≡ true) × (d ≡ false)
completes-says true b c d is = cc
completes-says false true c d is = cc
completes-says false false false d is = cc
completes-says false false true true is = cc
completes-says false false true false is = (refl, refl, refl)

beside-all : (there : List (List ℕ)) (f : List ℕ) → (list_any (λ g. contradicts g f) there || nat_le 64 (length there)) ≡ false → NoneContradicts there f
beside-all there f isnt =
    let parts = or_parts (list_any (λ g. contradicts g f) there) (nat_le 64 (length there)) isnt in
    record { apart = none-any (λ g. contradicts g f) there parts.0; few = leb-false 64 (length there) parts.1 }

pub waits : (there : List (List ℕ)) (f : List ℕ) → effect_of there f ≡ Waits → NoneContradicts there f × (is_whole (there ++ f ∷ []) ≡ false)
unfolding effect_of
waits there f is =
    let says = waits-says _ _ (is_whole (there ++ f ∷ [])) _ is in
    (beside-all there f says.0, says.1)

pub completes : (there : List (List ℕ)) (f : List ℕ) → effect_of there f ≡ Completes → NoneContradicts there f × (is_whole (there ++ f ∷ []) ≡ true) × (whole_length (there ++ f ∷ []) ≤ 65535)
unfolding effect_of
completes there f is =
    let says = completes-says _ _ (is_whole (there ++ f ∷ [])) (nat_lt 65535 (whole_length (there ++ f ∷ []))) is in
    (beside-all there f says.0, says.1, ltb-false 65535 (whole_length (there ++ f ∷ [])) says.2)

-- the fragments of a datagram and a further one that contradicts none
pub apart-more : (there : List (List ℕ)) (f : List ℕ) → AreApart there → NoneContradicts there f → AreApart (there ++ f ∷ [])
apart-more there f apart new = apart-push there f apart new.apart

pub each-more : (name : Name) (there : List (List ℕ)) (f : List ℕ) → AllByRecursion (IsOf name) there → IsOf name f → AllByRecursion (IsOf name) (there ++ f ∷ [])
each-more name there f each new = all-push (IsOf name) there f each new

pub unbroken-each : (name : Name) (fs : List (List ℕ)) → AllByRecursion (IsOf name) fs → AllByRecursion (λ f. is_broken f ≡ false) fs
unbroken-each name [] all = tt
unbroken-each name (f ∷ fs) all = (all.0.unbroken, unbroken-each name fs all.1)

kept-taken : (now : ℕ) (f : List ℕ) (ds : List Datagram) → IsFragment f → is_broken f ≡ false → AreKept ds → AreKept (arrived now f (find (is_named (name_of f)) ds) ds).left
kept-taken now f ds is fine kept = at (find (is_named (name_of f)) ds) refl
  where
    on : (d : Datagram) → find (is_named (name_of f)) ds ≡ Some d → (e : Effect) → effect_of d.fragments f ≡ e → AreKept (joined e (name_of f) (d.fragments ++ f ∷ []) ds).left
    on d found Repeats effect = kept
    on d found Contradicts effect = kept-without (name_of f) ds kept
    on d found TooLong effect = kept-without (name_of f) ds kept
    on d found Completes effect = kept-without (name_of f) ds kept
    on d found Waits effect =
        let new = waits d.fragments f effect in
        let was = found-all IsPartial (is_named (name_of f)) ds d kept.each found in
        let named = same-name (name_of f) d.name (found-passes (is_named (name_of f)) ds d found) in
        kept-with (name_of f) (d.fragments ++ f ∷ []) ds d found
        (record {
          few = omega (arith, length-append d.fragments (f ∷ []), new.0.few);
          each = each-more d.name d.fragments f was.each (record { fragment_is = is; unbroken = fine; named = named });
          apart = apart-more d.fragments f was.apart new.0;
          missing = new.1;
        }) kept

    at : (o : Option Datagram) → find (is_named (name_of f)) ds ≡ o → AreKept (arrived now f o ds).left
    at None new = kept-begun now f ds is fine new kept
    at (Some d) found = on d found (effect_of d.fragments f) refl

pub taken-kept : (now : ℕ) (frame : List ℕ) (ds : List Datagram) → IsFragment frame → AreKept ds → AreKept (taken now frame ds).left
unfolding taken
taken-kept now frame ds is kept = by (is_broken (trimmed frame)) refl
  where
    by : (b : Bool) → is_broken (trimmed frame) ≡ b → AreKept (cond b (refused None ds) (arrived now (trimmed frame) (find (is_named (name_of (trimmed frame))) ds) ds)).left
    by true broken = kept
    by false fine = kept-taken now (trimmed frame) ds (trimmed-fragment frame is) fine kept
