-- Noting that a next hop was asked for changes the time of one packet alone.
use Rattle.std.proofs.Common.{◌≡◌, ℕ, Bool, true, false, not, cond, nat_lt, List, [], ◌∷◌, length, get_or, map, refl, ◌∙◌, ap, arith}
use Rattle.std.specs.List.{AllByRecursion, filter, sum_by}
use Rattle.std.proofs.lemmas.List.{length-map, get_or-map}
use Rattle.std.proofs.lemmas.List.Sums.{sum_by-cons}
use Rattle.waiting.specs.declared.waits.Ended.{Ended}
use Rattle.waiting.specs.declared.waits.WaitsFor.{WaitsFor}
use Rattle.waiting.specs.declared.waits.WaitsFor.TheVariants.{Pair, Hop}
use Rattle.waiting.specs.Waits.{ends, is_for_host, is_for_pair, same_wait}
use Rattle.waiting.specs.Packets.{AreApart, HeldPacket, IsKept, asked_packet, ended_by, hop_count, is_young, left_by, with_asked, with_room, without_first_hop}

-- f doesn't depend on the time at which a next hop was asked for
abbrev pub Ignores : {X : Type 0} → (HeldPacket → X) → Type 0
Ignores f = (w : HeldPacket) (now : ℕ) → f (record w { asked = now }) ≡ f w

pub same-packet : {X : Type 0} (f : HeldPacket → X) → Ignores f → (now : ℕ) (wait : WaitsFor) (w : HeldPacket) → f (asked_packet now wait w) ≡ f w
same-packet {X} f ignores now wait w = by (same_wait wait w.wait)
  where
    by : (b : Bool) → f (cond b (record w { asked = now }) w) ≡ f w
    by true = ignores w now
    by false = refl

pub length-asked : (now : ℕ) (wait : WaitsFor) (ws : List HeldPacket) → length (with_asked now wait ws) ≡ length ws
length-asked now wait ws = length-map ws (asked_packet now wait)

-- a map that ignores the time of asking is unchanged
pub map-asked : {X : Type 0} (f : HeldPacket → X) → Ignores f → (now : ℕ) (wait : WaitsFor) (ws : List HeldPacket) → map f (with_asked now wait ws) ≡ map f ws
map-asked f ignores now wait [] = refl
map-asked {X} f ignores now wait (w ∷ ws) =
    ap (λ (x : X). x ∷ map f (with_asked now wait ws)) (same-packet f ignores now wait w)
    ∙ ap (λ (xs : List X). f w ∷ xs) (map-asked f ignores now wait ws)

pub sum-asked : (f : HeldPacket → ℕ) → Ignores f → (now : ℕ) (wait : WaitsFor) (ws : List HeldPacket) → sum_by f (with_asked now wait ws) ≡ sum_by f ws
sum-asked f ignores now wait [] = refl
sum-asked f ignores now wait (w ∷ ws) =
    omega (
      arith,
      sum_by-cons f (asked_packet now wait w) (with_asked now wait ws),
      same-packet f ignores now wait w,
      sum-asked f ignores now wait ws,
      sum_by-cons f w ws,
    )

-- a filter that ignores the time of asking passes the same packets
pub filter-asked : (p : HeldPacket → Bool) → Ignores p → (now : ℕ) (wait : WaitsFor) (ws : List HeldPacket) → filter p (with_asked now wait ws) ≡ with_asked now wait (filter p ws)
filter-asked p ignores now wait [] = refl
filter-asked p ignores now wait (w ∷ ws) =
    let asked = asked_packet now wait w in
    let rest = filter-asked p ignores now wait ws in
    ap (λ (b : Bool). cond b (asked ∷ filter p (with_asked now wait ws)) (filter p (with_asked now wait ws))) (same-packet p ignores now wait w)
    ∙ ap (λ (vs : List HeldPacket). cond (p w) (asked ∷ vs) vs) rest
    ∙ by (p w)
  where
    by : (b : Bool) → cond b (asked_packet now wait w ∷ with_asked now wait (filter p ws)) (with_asked now wait (filter p ws)) ≡ with_asked now wait (cond b (w ∷ filter p ws) (filter p ws))
    by true = refl
    by false = refl

pub ended-asked : (ended : Ended) (now : ℕ) (wait : WaitsFor) (ws : List HeldPacket) → ended_by ended (with_asked now wait ws) ≡ with_asked now wait (ended_by ended ws)
ended-asked ended = filter-asked (λ (w : HeldPacket). ends ended w.wait) (λ w now. refl)

pub left-asked : (ended : Ended) (now : ℕ) (wait : WaitsFor) (ws : List HeldPacket) → left_by ended (with_asked now wait ws) ≡ with_asked now wait (left_by ended ws)
left-asked ended = filter-asked (λ (w : HeldPacket). not (ends ended w.wait)) (λ w now. refl)

pub young-asked : (moment now : ℕ) (wait : WaitsFor) (ws : List HeldPacket) → filter (is_young moment) (with_asked now wait ws) ≡ with_asked now wait (filter (is_young moment) ws)
young-asked moment = filter-asked (is_young moment) (λ w now. refl)

-- what holds of each packet, at whatever time it was asked for, holds still
pub all-asked : (P : HeldPacket → Type 0) → ((w : HeldPacket) (now : ℕ) → P w → P (record w { asked = now })) → (now : ℕ) (wait : WaitsFor) (ws : List HeldPacket) → AllByRecursion P ws → AllByRecursion P (with_asked now wait ws)
all-asked P more now wait [] all = tt
all-asked P more now wait (w ∷ ws) all = (by (same_wait wait w.wait), all-asked P more now wait ws all.1)
  where
    by : (b : Bool) → P (cond b (record w { asked = now }) w)
    by true = more w now all.0
    by false = all.0

all-left : (P : HeldPacket → Type 0) (ws : List HeldPacket) → AllByRecursion P ws → AllByRecursion P (without_first_hop ws)
all-left P [] all = tt
all-left P (w ∷ ws) all = by (is_for_pair w.wait) (all-left P ws all.1)
  where
    by : (b : Bool) → AllByRecursion P (without_first_hop ws) → AllByRecursion P (cond b (w ∷ without_first_hop ws) ws)
    by true rest = (all.0, rest)
    by false rest = all.1

pub all-room : (P : HeldPacket → Type 0) (wait : WaitsFor) (ws : List HeldPacket) → AllByRecursion P ws → AllByRecursion P (with_room wait ws)
all-room P (Pair endpoint) ws all = all
all-room P (Hop side host) ws all = by (nat_lt (hop_count ws) 64)
  where
    by : (b : Bool) → AllByRecursion P (cond b ws (without_first_hop ws))
    by true = all
    by false = all-left P ws all

-- no two wait for the same, still
pub apart-asked : (now : ℕ) (wait : WaitsFor) (ws : List HeldPacket) → AreApart ws → AreApart (with_asked now wait ws)
apart-asked now wait ws once i j d less within =
    let long = length-asked now wait ws in
    let g : HeldPacket → HeldPacket = asked_packet now wait in
    let one = get_or-map g ws i d d (omega (arith, long, less, within)) in
    let two = get_or-map g ws j d d (omega (arith, long, within)) in
    let same-one = same-packet (λ w. w.wait) (λ w n. refl) now wait (get_or ws i d) in
    let same-two = same-packet (λ w. w.wait) (λ w n. refl) now wait (get_or ws j d) in
    ap (λ (w : HeldPacket). same_wait w.wait (get_or (with_asked now wait ws) j d).wait) one
    ∙ ap (λ (w : HeldPacket). same_wait (asked_packet now wait (get_or ws i d)).wait w.wait) two
    ∙ ap (λ (a : WaitsFor). same_wait a (asked_packet now wait (get_or ws j d)).wait) same-one
    ∙ ap (same_wait (get_or ws i d).wait) same-two
    ∙ once i j d less (omega (arith, long, within))

pub kept-asked : (now : ℕ) (wait : WaitsFor) (ws : List HeldPacket) → IsKept ws → IsKept (with_asked now wait ws)
kept-asked now wait ws is = record {
  pairs = omega (arith, sum-asked (λ (w : HeldPacket). cond (is_for_pair w.wait) 1 0) (λ w n. refl) now wait ws, is.pairs);
  shares = λ address. omega (arith, sum-asked (λ (w : HeldPacket). cond (is_for_host address w.wait) 1 0) (λ w n. refl) now wait ws, is.shares address);
  hops = omega (arith, sum-asked (λ (w : HeldPacket). cond (not (is_for_pair w.wait)) 1 0) (λ w n. refl) now wait ws, is.hops);
  once = apart-asked now wait ws is.once;
}
