-- Lists of packets that wait: without those that a test removes, within the limit, and with requests noted.
use Rattle.std.proofs.Common.{◌≡◌, ◌≤◌, ◌<◌, ◌+◌, ◌-◌, ◌⊎◌, ℕ, zero, suc, Bool, true, false, cond, not, ◌&&◌, ◌||◌, inl, inr, nat_le, nat_lt, List, [], ◌∷◌, ◌++◌, filter, refl, sym, ap, ◌∙◌, arith}
use Rattle.std.specs.List.{AllByRecursion, list_any}
use Rattle.std.proofs.lemmas.Bool.{leb-true, ltb-true, ltb-false}
use Rattle.std.proofs.lemmas.List.{map-append}
use Rattle.std.proofs.lemmas.List.Filters.{sum_by-filter_both}
use Rattle.std.proofs.lemmas.List.Folds.{list_any-append}
use Rattle.std.proofs.lemmas.List.Sums.{sum_by-append, sum_by-cons}
use Rattle.addresses.specs.declared.internet.Ip.{Ip}
use Rattle.nat_types.specs.declared.gateways.Side.{Side}
use Rattle.waiting.specs.declared.waits.WaitsFor.{WaitsFor}
use Rattle.waiting.specs.declared.waits.WaitsFor.TheVariants as wait
use Rattle.waiting.specs.Packets.{HeldPacket, asked_packet, asks_again, hop_count, with_asked, with_room, without_first_hop}
use Rattle.waiting.specs.Waits.{is_for_pair, same_wait}
use Rattle.waiting.proofs.Offered.{Ignores, filter-asked, map-asked, same-packet}
use Rattle.spec_step.specs.Others.{Asking, Cause, Drops, Sends, Waits, all_noted, hops_of, noted_at, within_limit, without_hops}
use Rattle.spec_step.specs.Parts.{waiting}
use Rattle.spec_step.specs.Truly.{AtHand, packets_of}

-- three kinds of tests: one that keeps all packets that wait for next hops, one that takes none of them, and one that
-- doesn't look at when a hop was asked for
abbrev pub KeepsHops : (HeldPacket → Bool) → Type 0
KeepsHops f = (w : HeldPacket) → is_for_pair w.wait ≡ false → f w ≡ true

abbrev pub TakesNone : (HeldPacket → Bool) → Type 0
TakesNone f = (w : HeldPacket) → is_for_pair w.wait ≡ false → f w ≡ false

abbrev pub IsByWait : (HeldPacket → Bool) → Type 0
IsByWait f = Ignores f

-- ---- the first that wait for next hops

count-cons : (w : HeldPacket) (ws : List HeldPacket) → hop_count (w ∷ ws) ≡ cond (not (is_for_pair w.wait)) 1 0 + hop_count ws
count-cons w ws = sum_by-cons (λ (v : HeldPacket). cond (not (is_for_pair v.wait)) 1 0) w ws

count-hop : (w : HeldPacket) (ws : List HeldPacket) → is_for_pair w.wait ≡ false → hop_count (w ∷ ws) ≡ 1 + hop_count ws
count-hop w ws is = count-cons w ws ∙ ap (λ (b : Bool). cond (not b) 1 0 + hop_count ws) is

count-pair : (w : HeldPacket) (ws : List HeldPacket) → is_for_pair w.wait ≡ true → hop_count (w ∷ ws) ≡ hop_count ws
count-pair w ws is =
    let none : 0 + hop_count ws ≡ hop_count ws = omega arith in
    count-cons w ws ∙ ap (λ (b : Bool). cond (not b) 1 0 + hop_count ws) is ∙ none

pub count-append : (xs ys : List HeldPacket) → hop_count (xs ++ ys) ≡ hop_count xs + hop_count ys
count-append xs ys = sum_by-append (λ (w : HeldPacket). cond (not (is_for_pair w.wait)) 1 0) xs ys

pub count-left : (f : HeldPacket → Bool) (ws : List HeldPacket) → hop_count (filter f ws) ≤ hop_count ws
count-left f ws =
    omega (arith, sum_by-filter_both f (λ (w : HeldPacket). not (f w)) (λ _. refl) (λ (w : HeldPacket). cond (not (is_for_pair w.wait)) 1 0) ws)

first-count : (ws : List HeldPacket) → hop_count (without_first_hop ws) ≡ hop_count ws - 1
first-count [] = refl
first-count (w ∷ ws) = at (is_for_pair w.wait) refl (first-count ws)
  where
    at : (b : Bool) → is_for_pair w.wait ≡ b → hop_count (without_first_hop ws) ≡ hop_count ws - 1 → hop_count (let xs : List HeldPacket = cond b (w ∷ without_first_hop ws) ws in xs) ≡ hop_count (w ∷ ws) - 1
    at true is ih = omega (arith, ih, count-pair w (without_first_hop ws) is, count-pair w ws is)
    at false is ih = omega (arith, count-hop w ws is)

first-append : (xs ys : List HeldPacket) → 0 < hop_count xs → without_first_hop (xs ++ ys) ≡ without_first_hop xs ++ ys
first-append [] ys h = absurd (omega (arith, h))
first-append (w ∷ xs) ys h = at (is_for_pair w.wait) refl (λ few. first-append xs ys few)
  where
    less : is_for_pair w.wait ≡ true → 0 < hop_count xs
    less is = omega (arith, h, count-pair w xs is)

    at : (b : Bool) → is_for_pair w.wait ≡ b → (0 < hop_count xs → without_first_hop (xs ++ ys) ≡ without_first_hop xs ++ ys) → (let zs : List HeldPacket = cond b (w ∷ without_first_hop (xs ++ ys)) (xs ++ ys) in zs) ≡ (let zs : List HeldPacket = cond b (w ∷ without_first_hop xs) xs in zs) ++ ys
    at true is ih = ap (λ (zs : List HeldPacket). w ∷ zs) (ih (less is))
    at false is ih = refl

first-filter : (f : HeldPacket → Bool) → KeepsHops f → (ws : List HeldPacket) → filter f (without_first_hop ws) ≡ without_first_hop (filter f ws)
first-filter f keeps [] = refl
first-filter f keeps (w ∷ ws) = at (is_for_pair w.wait) (f w) refl refl (first-filter f keeps ws)
  where
    at : (b c : Bool) → is_for_pair w.wait ≡ b → f w ≡ c → filter f (without_first_hop ws) ≡ without_first_hop (filter f ws)
        → filter f (let xs : List HeldPacket = cond b (w ∷ without_first_hop ws) ws in xs) ≡ without_first_hop (let xs : List HeldPacket = cond c (w ∷ filter f ws) (filter f ws) in xs)
    at true true is to ih = rw (is, to) (ap (λ (ys : List HeldPacket). w ∷ ys) ih)
    at true false is to ih = rw to ih
    at false true is to ih = rw is refl
    at false false is to ih = let clash : true ≡ false = sym (keeps w is) ∙ to in absurd (cc)

first-taken : (g : HeldPacket → Bool) → TakesNone g → (ws : List HeldPacket) → filter g (without_first_hop ws) ≡ filter g ws
first-taken g none [] = refl
first-taken g none (w ∷ ws) = at (is_for_pair w.wait) refl (first-taken g none ws)
  where
    at : (b : Bool) → is_for_pair w.wait ≡ b → filter g (without_first_hop ws) ≡ filter g ws → filter g (let xs : List HeldPacket = cond b (w ∷ without_first_hop ws) ws in xs) ≡ filter g (w ∷ ws)
    at true is ih = ap (λ (ys : List HeldPacket). let xs : List HeldPacket = cond (g w) (w ∷ ys) ys in xs) ih
    at false is ih = rw (none w is) refl

count-filter : (f : HeldPacket → Bool) → KeepsHops f → (ws : List HeldPacket) → hop_count (filter f ws) ≡ hop_count ws
count-filter f keeps [] = refl
count-filter f keeps (w ∷ ws) = at (is_for_pair w.wait) (f w) refl refl (count-filter f keeps ws)
  where
    at : (b c : Bool) → is_for_pair w.wait ≡ b → f w ≡ c → hop_count (filter f ws) ≡ hop_count ws → hop_count (let xs : List HeldPacket = cond c (w ∷ filter f ws) (filter f ws) in xs) ≡ hop_count (w ∷ ws)
    at b true is to ih = count-cons w (filter f ws) ∙ ap (λ (n : ℕ). cond (not (is_for_pair w.wait)) 1 0 + n) ih ∙ sym (count-cons w ws)
    at true false is to ih = omega (arith, ih, count-pair w ws is)
    at false false is to ih = let clash : true ≡ false = sym (keeps w is) ∙ to in absurd (cc)

-- ---- the first `n` of them

hops-append : (n : ℕ) (xs ys : List HeldPacket) → n ≤ hop_count xs → without_hops n (xs ++ ys) ≡ without_hops n xs ++ ys
hops-append zero xs ys h = refl
hops-append (suc n) xs ys h =
    ap (without_hops n) (first-append xs ys (omega (arith, h))) ∙ hops-append n (without_first_hop xs) ys (omega (arith, h, first-count xs))

hops-count : (n : ℕ) (xs : List HeldPacket) → hop_count (without_hops n xs) ≡ hop_count xs - n
hops-count zero xs = omega arith
hops-count (suc n) xs = omega (arith, hops-count n (without_first_hop xs), first-count xs)

hops-hops : (m n : ℕ) (xs : List HeldPacket) → without_hops m (without_hops n xs) ≡ without_hops (n + m) xs
hops-hops m zero xs =
    let same : m ≡ 0 + m = omega arith in
    ap (λ (k : ℕ). without_hops k xs) same
hops-hops m (suc n) xs =
    let more : suc (n + m) ≡ suc n + m = omega arith in
    hops-hops m n (without_first_hop xs) ∙ ap (λ (k : ℕ). without_hops k xs) more

hops-filter : (f : HeldPacket → Bool) → KeepsHops f → (n : ℕ) (ws : List HeldPacket) → filter f (without_hops n ws) ≡ without_hops n (filter f ws)
hops-filter f keeps zero ws = refl
hops-filter f keeps (suc n) ws = hops-filter f keeps n (without_first_hop ws) ∙ ap (without_hops n) (first-filter f keeps ws)

hops-taken : (g : HeldPacket → Bool) → TakesNone g → (n : ℕ) (ws : List HeldPacket) → filter g (without_hops n ws) ≡ filter g ws
hops-taken g none zero ws = refl
hops-taken g none (suc n) ws = hops-taken g none n (without_first_hop ws) ∙ first-taken g none ws

-- ---- within the limit

pub limit-same : (xs : List HeldPacket) → hop_count xs ≤ 64 → within_limit xs ≡ xs
limit-same xs few =
    let none : hop_count xs - 64 ≡ 0 = omega (arith, few) in
    ap (λ (k : ℕ). without_hops k xs) none

pub limit-count : (xs : List HeldPacket) → hop_count (within_limit xs) ≤ 64
limit-count xs = omega (arith, hops-count (hop_count xs - 64) xs)

pub limit-limit : (xs ys : List HeldPacket) → within_limit (within_limit xs ++ ys) ≡ within_limit (xs ++ ys)
limit-limit xs ys =
    let n = hop_count xs - 64 in
    let cut = without_hops n xs in
    let n-least : n ≤ hop_count xs = omega arith in
    let m = hop_count (cut ++ ys) - 64 in
    let sum : n + m ≡ hop_count (xs ++ ys) - 64 = omega (arith, count-append cut ys, count-append xs ys, hops-count n xs) in
    ap (without_hops m) (sym (hops-append n xs ys n-least)) ∙ hops-hops m n (xs ++ ys) ∙ ap (λ (k : ℕ). without_hops k (xs ++ ys)) sum

pub limit-filter : (f : HeldPacket → Bool) → KeepsHops f → (xs : List HeldPacket) → filter f (within_limit xs) ≡ within_limit (filter f xs)
limit-filter f keeps xs =
    hops-filter f keeps (hop_count xs - 64) xs ∙ ap (λ (c : ℕ). without_hops (c - 64) (filter f xs)) (sym (count-filter f keeps xs))

pub limit-taken : (g : HeldPacket → Bool) → TakesNone g → (xs : List HeldPacket) → filter g (within_limit xs) ≡ filter g xs
limit-taken g none xs = hops-taken g none (hop_count xs - 64) xs

-- the list within the limit, with one packet more that waits
pub limit-more : (what : WaitsFor) (kept : List HeldPacket) (side : Side) (bytes : List ℕ) (now : ℕ) → hop_count kept ≤ 64
    → with_room what kept ++ waiting side bytes now what ∷ [] ≡ within_limit (kept ++ waiting side bytes now what ∷ [])
limit-more (wait.Pair e) kept side bytes now few =
    let w = waiting side bytes now (wait.Pair e) in
    sym (limit-same (kept ++ w ∷ []) (omega (arith, count-append kept (w ∷ []), few)))
limit-more (wait.Hop exit host) kept side bytes now few = at (nat_lt (hop_count kept) 64) refl
  where
    w : HeldPacket
    w = waiting side bytes now (wait.Hop exit host)

    at : (b : Bool) → nat_lt (hop_count kept) 64 ≡ b → (let xs : List HeldPacket = cond b kept (without_first_hop kept) in xs) ++ w ∷ [] ≡ within_limit (kept ++ w ∷ [])
    at true is = sym (limit-same (kept ++ w ∷ []) (omega (arith, count-append kept (w ∷ []), ltb-true (hop_count kept) 64 is)))
    at false is =
        let all = ltb-false (hop_count kept) 64 is in
        let one : 1 ≡ hop_count (kept ++ w ∷ []) - 64 = omega (arith, count-append kept (w ∷ []), few, all) in
        sym (first-append kept (w ∷ []) (omega (arith, all))) ∙ ap (λ (k : ℕ). without_hops k (kept ++ w ∷ [])) one

-- ---- a request that is noted

module _ (now : ℕ) (x : WaitsFor) where
  first-asked : (ws : List HeldPacket) → without_first_hop (with_asked now x ws) ≡ with_asked now x (without_first_hop ws)
  first-asked [] = refl
  first-asked (w ∷ ws) =
      ap (λ (b : Bool). let ys : List HeldPacket = cond b (asked_packet now x w ∷ without_first_hop (with_asked now x ws)) (with_asked now x ws) in ys) (same-packet (λ (v : HeldPacket). is_for_pair v.wait) (λ v n. refl) now x w)
      ∙ at (is_for_pair w.wait) (first-asked ws)
    where
      at : (b : Bool) → without_first_hop (with_asked now x ws) ≡ with_asked now x (without_first_hop ws)
          → (let ys : List HeldPacket = cond b (asked_packet now x w ∷ without_first_hop (with_asked now x ws)) (with_asked now x ws) in ys) ≡ with_asked now x (let ys : List HeldPacket = cond b (w ∷ without_first_hop ws) ws in ys)
      at true ih = ap (λ (ys : List HeldPacket). asked_packet now x w ∷ ys) ih
      at false ih = refl

  count-asked : (ws : List HeldPacket) → hop_count (with_asked now x ws) ≡ hop_count ws
  count-asked [] = refl
  count-asked (w ∷ ws) =
      count-cons (asked_packet now x w) (with_asked now x ws)
      ∙ ap (λ (b : Bool). cond (not b) 1 0 + hop_count (with_asked now x ws)) (same-packet (λ (v : HeldPacket). is_for_pair v.wait) (λ v n. refl) now x w)
      ∙ ap (λ (n : ℕ). cond (not (is_for_pair w.wait)) 1 0 + n) (count-asked ws)
      ∙ sym (count-cons w ws)

  hops-asked : (n : ℕ) (ws : List HeldPacket) → without_hops n (with_asked now x ws) ≡ with_asked now x (without_hops n ws)
  hops-asked zero ws = refl
  hops-asked (suc n) ws = ap (without_hops n) (first-asked ws) ∙ hops-asked n (without_first_hop ws)

  limit-asked : (ws : List HeldPacket) → within_limit (with_asked now x ws) ≡ with_asked now x (within_limit ws)
  limit-asked ws = ap (λ (c : ℕ). without_hops (c - 64) (with_asked now x ws)) (count-asked ws) ∙ hops-asked (hop_count ws - 64) ws

  packets-asked : (ws : List HeldPacket) → packets_of (with_asked now x ws) ≡ packets_of ws
  packets-asked ws = map-asked (λ (v : HeldPacket). let p : AtHand = record { side = v.side; bytes = v.bytes } in p) (λ v n. refl) now x ws

  -- packets whose hop was asked for at that time already stay as they are
  asked-new : (ws : List HeldPacket) → AllByRecursion (λ (w : HeldPacket). w.asked ≡ now) ws → with_asked now x ws ≡ ws
  asked-new [] all = refl
  asked-new (w ∷ ws) all =
      ap (λ (v : HeldPacket). v ∷ with_asked now x ws) (at (same_wait x w.wait)) ∙ ap (λ (ys : List HeldPacket). w ∷ ys) (asked-new ws all.1)
    where
      at : (b : Bool) → (let v : HeldPacket = cond b (record w { asked = now }) w in v) ≡ w
      at true = ap (λ (n : ℕ). let v : HeldPacket = record w { asked = n } in v) (sym all.0)
      at false = refl

-- ---- all that are noted

module _ (now : ℕ) where
  filter-noted : (f : HeldPacket → Bool) → IsByWait f → (qs : List Asking) (ws : List HeldPacket) → filter f (all_noted now qs ws) ≡ all_noted now qs (filter f ws)
  filter-noted f by [] ws = refl
  filter-noted f by (a ∷ qs) ws = filter-noted f by qs (noted_at now a.exit a.host a.cause ws) ∙ ap (all_noted now qs) (at a.exit a.host a.cause)
    where
      at : (exit : Side) (host : Ip) (c : Cause) → filter f (noted_at now exit host c ws) ≡ noted_at now exit host c (filter f ws)
      at exit host Waits = refl
      at exit host Sends = refl
      at exit host Drops = filter-asked f by now (wait.Hop exit host) ws

  limit-noted : (qs : List Asking) (ws : List HeldPacket) → within_limit (all_noted now qs ws) ≡ all_noted now qs (within_limit ws)
  limit-noted [] ws = refl
  limit-noted (a ∷ qs) ws = limit-noted qs (noted_at now a.exit a.host a.cause ws) ∙ ap (all_noted now qs) (at a.exit a.host a.cause)
    where
      at : (exit : Side) (host : Ip) (c : Cause) → within_limit (noted_at now exit host c ws) ≡ noted_at now exit host c (within_limit ws)
      at exit host Waits = refl
      at exit host Sends = refl
      at exit host Drops = limit-asked now (wait.Hop exit host) ws

  append-noted : (qs : List Asking) (xs ys : List HeldPacket) → all_noted now qs (xs ++ ys) ≡ all_noted now qs xs ++ all_noted now qs ys
  append-noted [] xs ys = refl
  append-noted (a ∷ qs) xs ys = ap (all_noted now qs) (at a.exit a.host a.cause) ∙ append-noted qs (noted_at now a.exit a.host a.cause xs) (noted_at now a.exit a.host a.cause ys)
    where
      at : (exit : Side) (host : Ip) (c : Cause) → noted_at now exit host c (xs ++ ys) ≡ noted_at now exit host c xs ++ noted_at now exit host c ys
      at exit host Waits = refl
      at exit host Sends = refl
      at exit host Drops = map-append (asked_packet now (wait.Hop exit host)) xs ys

  pub count-noted : (qs : List Asking) (ws : List HeldPacket) → hop_count (all_noted now qs ws) ≡ hop_count ws
  count-noted [] ws = refl
  count-noted (a ∷ qs) ws = count-noted qs (noted_at now a.exit a.host a.cause ws) ∙ at a.exit a.host a.cause
    where
      at : (exit : Side) (host : Ip) (c : Cause) → hop_count (noted_at now exit host c ws) ≡ hop_count ws
      at exit host Waits = refl
      at exit host Sends = refl
      at exit host Drops = count-asked now (wait.Hop exit host) ws

  packets-noted : (qs : List Asking) (ws : List HeldPacket) → packets_of (all_noted now qs ws) ≡ packets_of ws
  packets-noted [] ws = refl
  packets-noted (a ∷ qs) ws = packets-noted qs (noted_at now a.exit a.host a.cause ws) ∙ at a.exit a.host a.cause
    where
      at : (exit : Side) (host : Ip) (c : Cause) → packets_of (noted_at now exit host c ws) ≡ packets_of ws
      at exit host Waits = refl
      at exit host Sends = refl
      at exit host Drops = packets-asked now (wait.Hop exit host) ws

  noted-join : (qs bs : List Asking) (ws : List HeldPacket) → all_noted now (qs ++ bs) ws ≡ all_noted now bs (all_noted now qs ws)
  noted-join [] bs ws = refl
  noted-join (a ∷ qs) bs ws = noted-join qs bs (noted_at now a.exit a.host a.cause ws)

  noted-new : (qs : List Asking) (ws : List HeldPacket) → AllByRecursion (λ (w : HeldPacket). w.asked ≡ now) ws → all_noted now qs ws ≡ ws
  noted-new [] ws all = refl
  noted-new (a ∷ qs) ws all = ap (all_noted now qs) (at a.exit a.host a.cause) ∙ noted-new qs ws all
    where
      at : (exit : Side) (host : Ip) (c : Cause) → noted_at now exit host c ws ≡ ws
      at exit host Waits = refl
      at exit host Sends = refl
      at exit host Drops = asked-new now (wait.Hop exit host) ws all

  -- the packets that wait after two parts, where a test removes some in between
  pub noted-then : (qs bs : List Asking) (f : HeldPacket → Bool) (xs ys zs : List HeldPacket) → KeepsHops f → IsByWait f → AllByRecursion (λ (w : HeldPacket). w.asked ≡ now) zs
      → all_noted now bs (within_limit (filter f (all_noted now qs (within_limit (xs ++ ys))) ++ zs)) ≡ all_noted now (qs ++ bs) (within_limit (filter f (xs ++ ys) ++ zs))
  noted-then qs bs f xs ys zs keeps by all =
      let both = xs ++ ys in
      let one : filter f (all_noted now qs (within_limit both)) ++ zs ≡ all_noted now qs (within_limit (filter f both) ++ zs) =
      ap (λ (ws : List HeldPacket). ws ++ zs) (filter-noted f by qs (within_limit both) ∙ ap (all_noted now qs) (limit-filter f keeps both))
      ∙ ap (λ (ws : List HeldPacket). all_noted now qs (within_limit (filter f both)) ++ ws) (sym (noted-new qs zs all))
      ∙ sym (append-noted qs (within_limit (filter f both)) zs) in
      ap (λ (ws : List HeldPacket). all_noted now bs (within_limit ws)) one
      ∙ ap (all_noted now bs) (limit-noted qs (within_limit (filter f both) ++ zs))
      ∙ ap (λ (ws : List HeldPacket). all_noted now bs (all_noted now qs ws)) (limit-limit (filter f both) zs)
      ∙ sym (noted-join qs bs (within_limit (filter f both ++ zs)))

  -- the packets that the test removed are the same, with or without the requests noted
  pub noted-taken : (qs : List Asking) (g : HeldPacket → Bool) (xs : List HeldPacket) → TakesNone g → IsByWait g → packets_of (filter g (all_noted now qs (within_limit xs))) ≡ packets_of (filter g xs)
  noted-taken qs g xs none by =
      ap packets_of (filter-noted g by qs (within_limit xs)) ∙ packets-noted qs (filter g (within_limit xs)) ∙ ap packets_of (limit-taken g none xs)

-- ---- whom to ask for again

or-cases : (a b : Bool) → (a || b) ≡ true → (a ≡ true) ⊎ (b ≡ true)
or-cases true b is = inl refl
or-cases false b is = inr is

or-left : (a b : Bool) → a ≡ true → (a || b) ≡ true
or-left true b is = refl
or-left false b is = absurd (cc)

or-right : (a b : Bool) → b ≡ true → (a || b) ≡ true
or-right true b is = refl
or-right false b is = is

and-second : (a b : Bool) → (a && b) ≡ true → b ≡ true
and-second true b is = is
and-second false b is = absurd (cc)

module _ (now : ℕ) (x : WaitsFor) where
  abbrev asks : HeldPacket → Bool
  asks w = same_wait x w.wait && nat_le 100 (now - w.asked)

  just-asked : (a : Bool) (n : ℕ) → n ≡ now → (a && nat_le 100 (now - n)) ≡ true → ⊥
  just-asked a n is h = absurd (omega (arith, is, leb-true 100 (now - n) (and-second a (nat_le 100 (now - n)) h)))

  any-new : (ws : List HeldPacket) → AllByRecursion (λ (w : HeldPacket). w.asked ≡ now) ws → list_any asks ws ≡ true → ⊥
  any-new [] all h = absurd (cc)
  any-new (w ∷ ws) all h = at (or-cases (asks w) (list_any asks ws) h) (λ t. any-new ws all.1 t)
    where
      at : (asks w ≡ true) ⊎ (list_any asks ws ≡ true) → (list_any asks ws ≡ true → ⊥) → ⊥
      at (inl t) ih = just-asked (same_wait x w.wait) w.asked all.0 t
      at (inr t) ih = ih t

  any-asked : (y : WaitsFor) (ws : List HeldPacket) → list_any asks (with_asked now y ws) ≡ true → list_any asks ws ≡ true
  any-asked y [] h = h
  any-asked y (w ∷ ws) h = at (or-cases (asks (asked_packet now y w)) (list_any asks (with_asked now y ws)) h) (λ t. any-asked y ws t)
    where
      back : (b : Bool) → asks (let v : HeldPacket = cond b (record w { asked = now }) w in v) ≡ true → asks w ≡ true
      back true t = absurd (just-asked (same_wait x w.wait) now refl t)
      back false t = t

      at : (asks (asked_packet now y w) ≡ true) ⊎ (list_any asks (with_asked now y ws) ≡ true) → (list_any asks (with_asked now y ws) ≡ true → list_any asks ws ≡ true) → list_any asks (w ∷ ws) ≡ true
      at (inl t) ih = or-left (asks w) (list_any asks ws) (back (same_wait y w.wait) t)
      at (inr t) ih = or-right (asks w) (list_any asks ws) (ih t)

  any-noted : (qs : List Asking) (ws : List HeldPacket) → list_any asks (all_noted now qs ws) ≡ true → list_any asks ws ≡ true
  any-noted [] ws h = h
  any-noted (a ∷ qs) ws h = at a.exit a.host a.cause (any-noted qs (noted_at now a.exit a.host a.cause ws) h)
    where
      at : (exit : Side) (host : Ip) (c : Cause) → list_any asks (noted_at now exit host c ws) ≡ true → list_any asks ws ≡ true
      at exit host Waits t = t
      at exit host Sends t = t
      at exit host Drops t = any-asked (wait.Hop exit host) ws t

  any-first : (ws : List HeldPacket) → list_any asks (without_first_hop ws) ≡ true → list_any asks ws ≡ true
  any-first [] h = h
  any-first (w ∷ ws) h = at (λ t. any-first ws t) (is_for_pair w.wait) h
    where
      or : (list_any asks (without_first_hop ws) ≡ true → list_any asks ws ≡ true) → (asks w ≡ true) ⊎ (list_any asks (without_first_hop ws) ≡ true) → list_any asks (w ∷ ws) ≡ true
      or ih (inl t) = or-left (asks w) (list_any asks ws) t
      or ih (inr t) = or-right (asks w) (list_any asks ws) (ih t)

      at : (list_any asks (without_first_hop ws) ≡ true → list_any asks ws ≡ true) → (b : Bool) → list_any asks (let xs : List HeldPacket = cond b (w ∷ without_first_hop ws) ws in xs) ≡ true → list_any asks (w ∷ ws) ≡ true
      at ih true t = or ih (or-cases (asks w) (list_any asks (without_first_hop ws)) t)
      at ih false t = or-right (asks w) (list_any asks ws) t

  any-hops : (n : ℕ) (ws : List HeldPacket) → list_any asks (without_hops n ws) ≡ true → list_any asks ws ≡ true
  any-hops zero ws h = h
  any-hops (suc n) ws h = any-first ws (any-hops n (without_first_hop ws) h)

  any-filter : (f : HeldPacket → Bool) (ws : List HeldPacket) → list_any asks (filter f ws) ≡ true → list_any asks ws ≡ true
  any-filter f [] h = h
  any-filter f (w ∷ ws) h = at (λ t. any-filter f ws t) (f w) h
    where
      or : (list_any asks (filter f ws) ≡ true → list_any asks ws ≡ true) → (asks w ≡ true) ⊎ (list_any asks (filter f ws) ≡ true) → list_any asks (w ∷ ws) ≡ true
      or ih (inl t) = or-left (asks w) (list_any asks ws) t
      or ih (inr t) = or-right (asks w) (list_any asks ws) (ih t)

      at : (list_any asks (filter f ws) ≡ true → list_any asks ws ≡ true) → (b : Bool) → list_any asks (let xs : List HeldPacket = cond b (w ∷ filter f ws) (filter f ws) in xs) ≡ true → list_any asks (w ∷ ws) ≡ true
      at ih true t = or ih (or-cases (asks w) (list_any asks (filter f ws)) t)
      at ih false t = or-right (asks w) (list_any asks ws) (ih t)

  pub asks-left : (f : HeldPacket → Bool) (kept : List HeldPacket) → asks_again now x (filter f kept) ≡ true → asks_again now x kept ≡ true
  asks-left f kept h = any-filter f kept h

  -- a hop that is asked for again after a part could have been before it
  pub asks-before : (qs : List Asking) (f : HeldPacket → Bool) (kept came : List HeldPacket) → AllByRecursion (λ (w : HeldPacket). w.asked ≡ now) came
      → asks_again now x (all_noted now qs (within_limit (filter f kept ++ came))) ≡ true → asks_again now x kept ≡ true
  asks-before qs f kept came all h =
      let both = filter f kept ++ came in
      let t = any-hops (hop_count both - 64) both (any-noted qs (within_limit both) h) in
      at (or-cases (list_any asks (filter f kept)) (list_any asks came) (sym (list_any-append asks (filter f kept) came) ∙ t))
    where
      at : (list_any asks (filter f kept) ≡ true) ⊎ (list_any asks came ≡ true) → asks_again now x kept ≡ true
      at (inl t) = any-filter f kept t
      at (inr t) = absurd (any-new came all t)

-- ---- the packets that wait for next hops

pub hops-stay : (g : HeldPacket → Bool) → TakesNone g → (ws : List HeldPacket) → hops_of (filter (λ w. not (g w)) ws) ≡ hops_of ws
hops-stay g none [] = refl
hops-stay g none (w ∷ ws) = at (is_for_pair w.wait) (g w) refl refl (hops-stay g none ws)
  where
    at : (b c : Bool) → is_for_pair w.wait ≡ b → g w ≡ c → hops_of (filter (λ v. not (g v)) ws) ≡ hops_of ws
        → hops_of (let xs : List HeldPacket = cond (not c) (w ∷ filter (λ v. not (g v)) ws) (filter (λ v. not (g v)) ws) in xs) ≡ hops_of (w ∷ ws)
    at true true is to ih = rw is ih
    at true false is to ih = rw is ih
    at false true is to ih = let clash : true ≡ false = sym to ∙ none w is in absurd (cc)
    at false false is to ih = rw is (ap (λ (xs : List HeldPacket). w ∷ xs) ih)
