-- Lists of packets from which some are removed, and the packets at hand, each once.
use Rattle.std.proofs.Common.{◌≡◌, Bool, true, false, cond, not, ◌&&◌, ◌||◌, List, [], ◌∷◌, ◌++◌, filter, IsPermutation, refl, sym, ap, subst, ◌∙◌, append_assoc}
use Rattle.std.proofs.lemmas.List.{append-nil, map-append}
use Rattle.std.proofs.lemmas.List.Elements.{filter-append}
use Rattle.std.proofs.lemmas.List.Sorted.{IsPermutation-append_comm, IsPermutation-append_left, IsPermutation-append_right, IsPermutation-filter_both, IsPermutation-map, IsPermutation-trans}
use Rattle.waiting.specs.Packets.{HeldPacket}
use Rattle.spec_step.specs.Truly.{AtHand, packets_of}
use Rattle.spec_step.proofs.Telling.{at_hand, shuffled}

-- ---- filters

pub filter-same : {X : Type 0} (f g : X → Bool) → ((x : X) → f x ≡ g x) → (xs : List X) → filter f xs ≡ filter g xs
filter-same f g same [] = refl
filter-same f g same (x ∷ xs) =
    ap (λ b. cond b (x ∷ filter f xs) (filter f xs)) (same x) ∙ ap (λ ys. cond (g x) (x ∷ ys) ys) (filter-same f g same xs)

pub filter-both : {X : Type 0} (f g : X → Bool) (xs : List X) → filter g (filter f xs) ≡ filter (λ x. f x && g x) xs
filter-both f g [] = refl
filter-both f g (x ∷ xs) = at (f x) (g x) refl (filter-both f g xs)
  where
    at : (b c : Bool) → g x ≡ c → filter g (filter f xs) ≡ filter (λ y. f y && g y) xs → filter g (cond b (x ∷ filter f xs) (filter f xs)) ≡ cond (b && c) (x ∷ filter (λ y. f y && g y) xs) (filter (λ y. f y && g y) xs)
    at true true is rest = rw is (ap (λ ys. x ∷ ys) rest)
    at true false is rest = rw is rest
    at false c is rest = rest

pub filter-all : {X : Type 0} (xs : List X) → filter (λ x. true) xs ≡ xs
filter-all [] = refl
filter-all (x ∷ xs) = ap (λ ys. x ∷ ys) (filter-all xs)

pub filter-none : {X : Type 0} (xs : List X) → filter (λ x. false) xs ≡ []
filter-none [] = refl
filter-none (x ∷ xs) = filter-none xs

-- two filters one after the other leave what neither test removes
pub filter-left : {X : Type 0} (f g : X → Bool) (xs : List X) → filter (λ x. not (g x)) (filter (λ x. not (f x)) xs) ≡ filter (λ x. not (f x || g x)) xs
filter-left f g xs =
    filter-both (λ x. not (f x)) (λ x. not (g x)) xs
    ∙ filter-same (λ x. not (f x) && not (g x)) (λ x. not (f x || g x)) (λ x. nots (f x) (g x)) xs
  where
    nots : (a b : Bool) → (not a && not b) ≡ not (a || b)
    nots true b = refl
    nots false b = refl

-- what one of two tests removes is what the first removes, then what the second removes of the rest
filter-either : {X : Type 0} (f g : X → Bool) (xs : List X) → IsPermutation (filter (λ x. f x || g x) xs) (filter f xs ++ filter g (filter (λ x. not (f x)) xs))
filter-either f g xs =
    let all = filter (λ x. f x || g x) xs in
    let one : filter f all ≡ filter f xs =
    filter-both (λ x. f x || g x) f xs ∙ filter-same (λ x. (f x || g x) && f x) f (λ x. first (f x) (g x)) xs in
    let two : filter (λ x. not (f x)) all ≡ filter g (filter (λ x. not (f x)) xs) =
    filter-both (λ x. f x || g x) (λ x. not (f x)) xs
    ∙ filter-same (λ x. (f x || g x) && not (f x)) (λ x. not (f x) && g x) (λ x. second (f x) (g x)) xs
    ∙ sym (filter-both (λ x. not (f x)) g xs) in
    subst (λ ys. IsPermutation all (ys ++ filter g (filter (λ x. not (f x)) xs))) one
    (subst (λ ys. IsPermutation all (filter f all ++ ys)) two (IsPermutation-filter_both f (λ x. not (f x)) (λ x. refl) all))
  where
    first : (a b : Bool) → ((a || b) && a) ≡ a
    first true b = refl
    first false true = refl
    first false false = refl

    second : (a b : Bool) → ((a || b) && not a) ≡ (not a && b)
    second true b = refl
    second false true = refl
    second false false = refl

-- ---- lists with the same elements

-- the middle part of a list goes to its end
moved : {X : Type 0} (l z g h y : List X) → IsPermutation (((l ++ z) ++ g) ++ (h ++ y)) ((l ++ g) ++ (h ++ (y ++ z)))
moved l z g h y =
    let start : ((l ++ z) ++ g) ++ (h ++ y) ≡ l ++ (z ++ (g ++ (h ++ y))) = append_assoc (l ++ z) g (h ++ y) ∙ append_assoc l z (g ++ (h ++ y)) in
    let end : l ++ ((g ++ (h ++ y)) ++ z) ≡ (l ++ g) ++ (h ++ (y ++ z)) =
    ap (λ xs. l ++ xs) (append_assoc g (h ++ y) z ∙ ap (λ xs. g ++ xs) (append_assoc h y z)) ∙ sym (append_assoc l g (h ++ (y ++ z))) in
    subst (λ xs. IsPermutation xs ((l ++ g) ++ (h ++ (y ++ z)))) (sym start)
    (subst (λ ys. IsPermutation (l ++ (z ++ (g ++ (h ++ y)))) ys) end (IsPermutation-append_right l _ _ (IsPermutation-append_comm z (g ++ (h ++ y)))))

view-both : (f : HeldPacket → Bool) (ws : List HeldPacket) → IsPermutation (packets_of ws) (packets_of (filter (λ w. not (f w)) ws) ++ packets_of (filter f ws))
view-both f ws =
    let view = λ (w : HeldPacket). at_hand w.side w.bytes in
    let both = IsPermutation-map view _ _ (IsPermutation-filter_both f (λ w. not (f w)) (λ w. refl) ws) in
    let parts = subst (λ ps. IsPermutation (packets_of ws) ps) (map-append view (filter f ws) (filter (λ w. not (f w)) ws)) both in
    IsPermutation-trans _ _ _ parts (IsPermutation-append_comm (packets_of (filter f ws)) (packets_of (filter (λ w. not (f w)) ws)))

-- Packets at hand, and kept ones that a test removes: some of these came to wait, and the others are gone. Two such
-- steps make one.
abbrev pub Comes-of : List AtHand → List HeldPacket → List HeldPacket → List AtHand → Type 0
Comes-of hand freed came gone = IsPermutation (hand ++ packets_of freed) (packets_of came ++ gone)

pub comes-then : (f g : HeldPacket → Bool) (old came came2 : List HeldPacket) (h h2 gone gone2 : List AtHand)
    → Comes-of h (filter f old) came gone → Comes-of h2 (filter g (filter (λ w. not (f w)) old ++ came)) came2 gone2
    → Comes-of (h ++ h2) (filter (λ w. f w || g w) old) (filter (λ w. not (g w)) came ++ came2) (gone ++ gone2)
comes-then f g old came came2 h h2 gone gone2 one two =
    let view = λ (w : HeldPacket). at_hand w.side w.bytes in
    let x = packets_of (filter f old) in
    let y = packets_of (filter g (filter (λ w. not (f w)) old)) in
    let z = packets_of (filter g came) in
    let l = packets_of (filter (λ w. not (g w)) came) in
    let split : IsPermutation (packets_of (filter (λ w. f w || g w) old)) (x ++ y) =
    subst (λ ps. IsPermutation (packets_of (filter (λ w. f w || g w) old)) ps) (map-append view (filter f old) (filter g (filter (λ w. not (f w)) old)))
    (IsPermutation-map view _ _ (filter-either f g old)) in
    let first : IsPermutation (h ++ x) ((l ++ z) ++ gone) = IsPermutation-trans _ _ _ one (IsPermutation-append_left gone _ _ (view-both g came)) in
    let same : packets_of (filter g (filter (λ w. not (f w)) old ++ came)) ≡ y ++ z =
    ap packets_of (filter-append g (filter (λ w. not (f w)) old) came) ∙ map-append view (filter g (filter (λ w. not (f w)) old)) (filter g came) in
    let second : IsPermutation (h2 ++ (y ++ z)) (packets_of came2 ++ gone2) = subst (λ ps. IsPermutation (h2 ++ ps) (packets_of came2 ++ gone2)) same two in
    let s1 = IsPermutation-append_right (h ++ h2) _ _ split in
    let s2 = shuffled h h2 x y in
    let s3 = IsPermutation-append_left (h2 ++ y) _ _ first in
    let s4 = moved l z gone h2 y in
    let s5 = IsPermutation-append_right (l ++ gone) _ _ second in
    let s6 = shuffled l gone (packets_of came2) gone2 in
    let all = IsPermutation-trans _ _ _ s1 (IsPermutation-trans _ _ _ s2 (IsPermutation-trans _ _ _ s3 (IsPermutation-trans _ _ _ s4 (IsPermutation-trans _ _ _ s5 s6)))) in
    subst (λ ps. IsPermutation ((h ++ h2) ++ packets_of (filter (λ w. f w || g w) old)) (ps ++ (gone ++ gone2))) (sym (map-append view (filter (λ w. not (g w)) came) came2)) all

-- packets that were removed from the list first are at hand from then on
pub comes-off : (freed old came : List HeldPacket) (gone : List AtHand) → Comes-of (packets_of freed) (filter (λ w. false) old) came gone → Comes-of [] freed came gone
comes-off freed old came gone is =
    subst (λ ps. IsPermutation ps (packets_of came ++ gone)) (append-nil (packets_of freed))
    (subst (λ (ws : List HeldPacket). IsPermutation (packets_of freed ++ packets_of ws) (packets_of came ++ gone)) (filter-none old) is)
