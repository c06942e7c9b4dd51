-- Each change leaves a table what each table keeps.
use Rattle.std.proofs.Common.{◌≡◌, ℕ, zero, suc, ◌<◌, ◌≤◌, Bool, true, false, cond, ◌&&◌, ◌||◌, not, is_none, nat_le, nat_lt, Option, Some, None, List, [], ◌∷◌, length, get_or, refl, sym, ap, ◌∙◌, arith}
use Rattle.std.specs.List.{insert}
use Rattle.std.specs.Option.{option_map}
use Rattle.std.proofs.lemmas.Bool.{and_parts, and_from, le-leb, leb-true, ltb-true, ltb-false}
use Rattle.std.proofs.lemmas.List.{length-map}
use Rattle.addresses.specs.declared.transport.Protocol.{Protocol}
use Rattle.addresses.specs.declared.transport.Protocol.TheVariants.{Icmp, Tcp, Udp}
use Rattle.nat_types.specs.declared.pairs.EntryState.{EntryState}
use Rattle.nat_types.specs.declared.pairs.Key.{Key}
use Rattle.nat_types.specs.Same.{same_key}
use Rattle.activity.specs.Lives.{Activity}
use Rattle.slots.specs.declared.hashers.Hashers.{Hashers}
use Rattle.port_range.specs.Ports.{is_free, is_within, is_listed, AreRising}
use Rattle.bindings.specs.declared.entries.Entry.{Entry}
use Rattle.bindings.specs.declared.entries.PortBounds.{PortBounds}
use Rattle.bindings.specs.declared.ports.Ports.{Ports}
use Rattle.bindings.specs.Entries.{is_pair, has_key, slot_of}
use Rattle.bindings.specs.Lists.{place_in, put_in, without, with_state}
use Rattle.bindings.specs.Ports.{range_of, is_free_at, AreAlike, AreFree, SameBounds, SameOwned, SameFree, in_bounds, in_either, lowest_of, highest_of, key_count}
use Rattle.bindings.specs.Revivals.{woken_entry, revived_entries, lives_of_pairs}
use Rattle.bindings.specs.Lives.{lives_without}
use Rattle.bindings.specs.Table.{IsTable, IsStored}
use Rattle.bindings.proofs.Slots.{IsWelcome, slot-put, keys-put, keys-map, keys-filter, endpoints-put, endpoints-filter, one-to-one}
use Rattle.bindings.proofs.Edits.{restated, either_slot, slot-without}
use Rattle.bindings.proofs.Orders.{rises-map, rises-filter, order-put, order-turn, order-drop}
use Rattle.bindings.proofs.Revived.{pairs_of, none-kept, endpoints-woken, length-revived}
use Rattle.bindings.proofs.Places.{length-put, length-keep}
use Rattle.bindings.proofs.Turned.{KeepsRank, keys-turn, endpoints-turn, length-turn}
use Rattle.bindings.proofs.Pasts.{length-lives_without}
use Rattle.bindings.proofs.Owning.{free-taken, free-put_back, free-same, alike-same}

pub length-insert : {A : Type 0} (xs : List A) (n : ℕ) (y : A) → length (insert xs n y) ≡ suc (length xs)
length-insert [] zero y = refl
length-insert [] (suc n) y = refl
length-insert (x ∷ xs) zero y = refl
length-insert (x ∷ xs) (suc n) y = ap suc (length-insert xs n y)

and-true : (b : Bool) → (b && true) ≡ b
and-true true = refl
and-true false = refl

-- an empty table without owned ports keeps the rules
pub stored-none : (es : List Entry) (ls : List Activity) (ports : Ports) (low high : PortBounds) (first last cap places : ℕ) → es ≡ [] → ls ≡ [] → first ≡ lowest_of low high → last ≡ highest_of low high → cap ≡ key_count low high → places ≡ cap
    → AreAlike first last ports → ((q : Key) → is_free_at ports q ≡ is_within first last q.port.0) → ((port : ℕ) → is_listed port ports.tcp.owned ≡ false) → IsStored es ls ports low high cap places
stored-none es ls ports low high first last cap places none nobody f l room fits alike free owned =
    rw (none, nobody) (record {
      order = tt;
      keys = tt;
      endpoints = tt;
      alike = refl;
      within = omega arith;
      room = room;
      fits = omega (arith, fits);
      same = rw (← f, ← l) alike;
      free = λ q. rw (← f, ← l) (free q ∙ sym (and-true (is_within first last q.port.0)));
      owned = λ port there. absurd (let none : is_listed port ports.tcp.owned ≡ false = owned port in cc);
    })

-- a table keeps the rules after an entry was added
pub stored-put : (es : List Entry) (ls : List Activity) (ports ports2 : Ports) (low high : PortBounds) (cap places : ℕ) (e : Entry) (l : Activity) → IsStored es ls ports low high cap places → IsWelcome cap es e → ((q : Key) → is_free_at ports2 q ≡ cond (same_key e.pair.key q) false (is_free_at ports q)) → SameBounds ports ports2 → SameOwned ports ports2 → IsStored (put_in e es) (insert ls (place_in e.pair es) l) ports2 low high cap places
stored-put es ls ports ports2 low high cap places e l s w taken bounds owns = record {
  order = order-put e es s.order;
  keys = keys-put e es s.keys w.key;
  endpoints = endpoints-put e es s.endpoints w.endpoint;
  alike = length-insert ls (place_in e.pair es) l ∙ ap suc s.alike ∙ sym (length-put e es);
  within = (let h = w.room in let n = length-put e es in omega arith);
  room = s.room;
  fits = s.fits;
  same = alike-same (lowest_of low high) (highest_of low high) ports ports2 s.same bounds owns;
  free = free-taken (lowest_of low high) (highest_of low high) es (put_in e es) ports ports2 e.pair.key e s.free taken (λ q. slot-put e es q w.key);
  owned = λ port h. s.owned port (ap (is_listed port) (sym owns.tcp) ∙ h);
}

none-mapped : (c : Bool) (f : Entry → Entry) (o : Option Entry) → is_none (cond c (option_map f o) o) ≡ is_none o
none-mapped true f None = refl
none-mapped true f (Some x) = refl
none-mapped false f o = refl

-- a table keeps the rules after the state of an entry was changed
pub stored-turn : (es : List Entry) (ls : List Activity) (ports : Ports) (low high : PortBounds) (cap places : ℕ) (key : Key) (state : EntryState) → IsStored es ls ports low high cap places → KeepsRank key state es → IsStored (with_state key state es) ls ports low high cap places
stored-turn es ls ports low high cap places key state s ranks = record {
  order = order-turn key state es s.order;
  keys = keys-turn key state es s.keys;
  endpoints = endpoints-turn key state es s.keys ranks s.endpoints;
  alike = s.alike ∙ sym (length-turn key state es);
  within = (let n = length-turn key state es in let h = s.within in omega arith);
  room = s.room;
  fits = s.fits;
  same = s.same;
  free = free-same (lowest_of low high) (highest_of low high) es (with_state key state es) ports s.free (λ q. ap is_none (either_slot key state es q) ∙ none-mapped (same_key key q) (restated state) (slot_of es q));
  owned = s.owned;
}

-- a table keeps the rules after an entry was removed
pub stored-drop : (es : List Entry) (ls : List Activity) (ports ports2 : Ports) (low high : PortBounds) (cap places : ℕ) (key : Key) → IsStored es ls ports low high cap places → ((q : Key) → is_free_at ports2 q ≡ cond (same_key key q) (is_within ports.tcp.lowest ports.tcp.highest key.port.0) (is_free_at ports q)) → SameBounds ports ports2 → SameOwned ports ports2 → IsStored (without key es) (lives_without key es ls) ports2 low high cap places
stored-drop es ls ports ports2 low high cap places key s freed bounds owns = record {
  order = order-drop key es s.order;
  keys = keys-filter (λ e. not (has_key key e)) es s.keys;
  endpoints = endpoints-filter (λ e. not (has_key key e)) es s.endpoints;
  alike = length-lives_without key es ls s.keys s.alike;
  within = (let n = length-keep (λ e. not (has_key key e)) es in let h = s.within in omega arith);
  room = s.room;
  fits = s.fits;
  same = alike-same (lowest_of low high) (highest_of low high) ports ports2 s.same bounds owns;
  free = free-put_back (lowest_of low high) (highest_of low high) es (without key es) ports ports2 key s.free here (λ q. slot-without key es q);
  owned = λ port h. s.owned port (ap (is_listed port) (sym owns.tcp) ∙ h);
}
  where
    here : (q : Key) → is_free_at ports2 q ≡ cond (same_key key q) (is_within (lowest_of low high) (highest_of low high) key.port.0) (is_free_at ports q)
    here q = freed q ∙ ap (λ n. cond (same_key key q) (is_within n ports.tcp.highest key.port.0) (is_free_at ports q)) s.same.tcp.low ∙ ap (λ n. cond (same_key key q) (is_within (lowest_of low high) n key.port.0) (is_free_at ports q)) s.same.tcp.high

-- a table keeps the rules with other lives, as many
pub stored-lives : (es : List Entry) (ls ls2 : List Activity) (ports : Ports) (low high : PortBounds) (cap places : ℕ) → IsStored es ls ports low high cap places → length ls2 ≡ length ls → IsStored es ls2 ports low high cap places
stored-lives es ls ls2 ports low high cap places s same = record {
  order = s.order;
  keys = s.keys;
  endpoints = s.endpoints;
  alike = same ∙ s.alike;
  within = s.within;
  room = s.room;
  fits = s.fits;
  same = s.same;
  free = s.free;
  owned = s.owned;
}

free-kept : (old new : Ports) → SameFree old new → (q : Key) → is_free_at new q ≡ is_free_at old q
free-kept old new f q = at q.protocol
  where
    at : (x : Protocol) → is_free (range_of new x) q.port.0 ≡ is_free (range_of old x) q.port.0
    at Icmp = ap (is_listed q.port.0) f.icmp
    at Tcp = ap (is_listed q.port.0) f.tcp
    at Udp = ap (is_listed q.port.0) f.udp

-- a table keeps the rules with other owned ports of the ranges
pub stored-all : (es : List Entry) (ls : List Activity) (ports ports2 : Ports) (low high : PortBounds) (cap places : ℕ) → IsStored es ls ports low high cap places → AreAlike (lowest_of low high) (highest_of low high) ports2 → SameFree ports ports2 → ((port : ℕ) → is_listed port ports2.tcp.owned ≡ true → in_either low high port ≡ true) → IsStored es ls ports2 low high cap places
stored-all es ls ports ports2 low high cap places s alike free inside = record {
  order = s.order;
  keys = s.keys;
  endpoints = s.endpoints;
  alike = s.alike;
  within = s.within;
  room = s.room;
  fits = s.fits;
  same = alike;
  free = λ q. free-kept ports ports2 free q ∙ s.free q;
  owned = inside;
}

-- a table keeps the rules after the peer began anew
pub stored-revived : (es : List Entry) (ls : List Activity) (ports ports2 : Ports) (low high : PortBounds) (cap places : ℕ) → IsStored es ls ports low high cap places → AreFree (lowest_of low high) (highest_of low high) (pairs_of es) ports2 → SameBounds ports ports2 → SameOwned ports ports2 → IsStored (revived_entries es) (lives_of_pairs es ls) ports2 low high cap places
stored-revived es ls ports ports2 low high cap places s freed bounds owns = record {
  order = rises-map 0 woken_entry (pairs_of es) (λ x. refl) (rises-filter 0 (λ x. is_pair x.state) es s.order);
  keys = keys-map woken_entry (pairs_of es) (λ x. refl) (keys-filter (λ x. is_pair x.state) es s.keys);
  endpoints = endpoints-woken (pairs_of es) (endpoints-filter (λ x. is_pair x.state) es s.endpoints);
  alike = length-revived es ls s.alike;
  within = (let n = length-keep (λ x. is_pair x.state) es in let m = length-map (pairs_of es) woken_entry in let h = s.within in omega (arith, n, m, h));
  room = s.room;
  fits = s.fits;
  same = alike-same (lowest_of low high) (highest_of low high) ports ports2 s.same bounds owns;
  free = free-same (lowest_of low high) (highest_of low high) (pairs_of es) (revived_entries es) ports2 freed (none-kept (pairs_of es));
  owned = λ port h. s.owned port (ap (is_listed port) (sym owns.tcp) ∙ h);
}

-- a port of either range lies between the lowest and the highest of both
either-lies : (b : Bool) (P : Type 0) (c : Bool) → (b ≡ true → P) → (c ≡ true → P) → (b || c) ≡ true → P
either-lies true P c one two h = one refl
either-lies false P c one two h = two h

between : (low high port lowest highest : ℕ) → lowest ≤ low → high ≤ highest → is_within low high port ≡ true → is_within lowest highest port ≡ true
between low high port lowest highest a b h =
    let parts = and_parts (nat_le low port) (nat_le port high) h in
    let l : low ≤ port = leb-true low port parts.0 in
    let g : port ≤ high = leb-true port high parts.1 in
    and_from (nat_le lowest port) (nat_le port highest) (le-leb lowest port (omega arith)) (le-leb port highest (omega arith))

pub lowest-low : (x y : ℕ) → (cond (nat_lt x y) x y ≤ x) × (cond (nat_lt x y) x y ≤ y)
lowest-low x y = at (nat_lt x y) refl
  where
    at : (b : Bool) → nat_lt x y ≡ b → (cond b x y ≤ x) × (cond b x y ≤ y)
    at true is = let h = ltb-true x y is in (omega arith, omega arith)
    at false is = let h = ltb-false x y is in (omega arith, omega arith)

pub highest-high : (x y : ℕ) → (x ≤ cond (nat_lt x y) y x) × (y ≤ cond (nat_lt x y) y x)
highest-high x y = at (nat_lt x y) refl
  where
    at : (b : Bool) → nat_lt x y ≡ b → (x ≤ cond b y x) × (y ≤ cond b y x)
    at true is = let h = ltb-true x y is in (omega arith, omega arith)
    at false is = let h = ltb-false x y is in (omega arith, omega arith)

pub in-both : (low high : PortBounds) (port : ℕ) → in_either low high port ≡ true → is_within (lowest_of low high) (highest_of low high) port ≡ true
in-both low high port h =
    let l = lowest-low low.lowest.0 high.lowest.0 in
    let g = highest-high low.highest.0 high.highest.0 in
    either-lies (in_bounds low port) (is_within (lowest_of low high) (highest_of low high) port ≡ true) (in_bounds high port)
    (λ a. between low.lowest.0 low.highest.0 port (lowest_of low high) (highest_of low high) l.0 g.0 a)
    (λ a. between high.lowest.0 high.highest.0 port (lowest_of low high) (highest_of low high) l.1 g.1 a) h

-- what callers see of a table keeps the rules
pub table-is : (es : List Entry) (ls : List Activity) (ports : Ports) (low high : PortBounds) (cap places ready : ℕ) (hashers : Hashers) → IsStored es ls ports low high cap places → AreRising ports.tcp.owned → IsTable (record { entries = es; lives = ls; owned = ports.tcp.owned; zero = low; one = high; capacity = cap; ready = ready; hashers = hashers })
table-is es ls ports low high cap places ready hashers s rises = record {
  order = s.order;
  keys = s.keys;
  endpoints = s.endpoints;
  one_to_one = one-to-one es s.keys s.endpoints;
  lives = s.alike;
  within = s.within;
  room = s.room;
  owned = s.owned;
  rising = rises;
}

-- a read within a list doesn't depend on the default
pub get-any : {A : Type 0} (xs : List A) (i : ℕ) (d e : A) → i < length xs → get_or xs i d ≡ get_or xs i e
get-any [] i d e h = absurd (omega (arith, h))
get-any (x ∷ xs) zero d e h = refl
get-any (x ∷ xs) (suc i) d e h = get-any xs i d e (omega arith)
