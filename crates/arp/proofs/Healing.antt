-- An entry that an ARP packet renewed stays as it is while the cache hears and sends of other addresses, or leaves.
use Rattle.std.proofs.Common.{◌≡◌, ◌≢◌, ◌≤◌, ◌<◌, ◌+◌, ◌-◌, ◌⊎◌, inl, inr, ℕ, Bool, true, false, not, cond, eqb, ◌&&◌, ◌||◌, nat_lt, nat_le, Option, Some, None, List, [], ◌∷◌, ◌++◌, length, map, drop, is_some, refl, sym, ap, subst, ◌∙◌, arith}
use Rattle.std.specs.List.{list_all, list_any}
use Rattle.std.specs.Str.{bytes_eq}
use Rattle.std.proofs.lemmas.Bool.{false_from_ne_true}
use Rattle.std.proofs.lemmas.Bool.Decides.{nat_tests}
use Rattle.std.proofs.lemmas.List.{append-nil}
use Rattle.std.proofs.lemmas.Slice.Eq.{bytes_eq-Decides}
use Rattle.addresses.specs.declared.ethernet.Mac.{Mac}
use Rattle.addresses.specs.declared.internet.Ip.{Ip}
use Rattle.arp.specs.declared.caches.CacheEntry.{CacheEntry}
use Rattle.arp.specs.declared.caches.Neighbour.{Neighbour}
use Rattle.arp.specs.Healing.{Call, Heard, SentTo, IsAfterPacket, after_call, after_calls, is_of_other}
use Rattle.arp.specs.Neighbours.{Neighbours, all_sent, asks_at, entries_of, entries_taught, fixed_mac, has_entry, learnt_asks, learnt_mac, learnt_sent, mac_at, new_entry, renewed_entry, sent_entry, taught, wants_asking, with_newcomer, with_renewal, without, after_one_left, without_unsent}
use Rattle.arp.proofs.Logs.{true-both}

-- what is kept of a list by a test, of its first item and the rest
abbrev put : Bool → CacheEntry → List CacheEntry → List CacheEntry
put b e es = cond b (e ∷ es) es

entries-append : (a : ℕ) (es ds : List CacheEntry) → entries_of a (es ++ ds) ≡ entries_of a es ++ entries_of a ds
entries-append a [] ds = refl
entries-append a (e ∷ es) ds = by (eqb e.address.0 a) (entries-append a es ds)
  where
    by : (b : Bool) → entries_of a (es ++ ds) ≡ entries_of a es ++ entries_of a ds → put b e (entries_of a (es ++ ds)) ≡ put b e (entries_of a es) ++ entries_of a ds
    by true rest = ap (λ (xs : List CacheEntry). e ∷ xs) rest
    by false rest = rest

-- whether an address has an entry, whether a request is due for it, and its hardware address, by its entries
has-of : (a : ℕ) (es : List CacheEntry) → entries_of a es ≡ [] → has_entry a es ≡ false
has-of a [] none = refl
has-of a (e ∷ es) none = by (eqb e.address.0 a) none (has-of a es)
  where
    by : (b : Bool) → put b e (entries_of a es) ≡ [] → (entries_of a es ≡ [] → has_entry a es ≡ false) → (b || has_entry a es) ≡ false
    by true none rest = cc
    by false none rest = rest none

has-one : (a : ℕ) (e : CacheEntry) (es : List CacheEntry) → entries_of a es ≡ e ∷ [] → has_entry a es ≡ true
has-one a e [] one = cc
has-one a e (d ∷ es) one = by (eqb d.address.0 a) one (has-one a e es)
  where
    by : (b : Bool) → put b d (entries_of a es) ≡ e ∷ [] → (entries_of a es ≡ e ∷ [] → has_entry a es ≡ true) → (b || has_entry a es) ≡ true
    by true one rest = refl
    by false one rest = rest one

asks-of : (a now : ℕ) (es : List CacheEntry) → learnt_asks a now es ≡ list_any (wants_asking now) (entries_of a es)
asks-of a now [] = refl
asks-of a now (e ∷ es) = by (eqb e.address.0 a) (asks-of a now es)
  where
    by : (b : Bool) → learnt_asks a now es ≡ list_any (wants_asking now) (entries_of a es) → ((b && wants_asking now e) || learnt_asks a now es) ≡ list_any (wants_asking now) (put b e (entries_of a es))
    by true rest = ap (λ (t : Bool). wants_asking now e || t) rest
    by false rest = rest

-- the hardware address of the first of these entries that is valid
abbrev first_mac : ℕ → List CacheEntry → Option Mac
first_mac now [] = None
first_mac now (e ∷ es) = cond (nat_lt (now - e.at) 120000) (Some e.mac) (first_mac now es)

mac-of : (a now : ℕ) (es : List CacheEntry) → learnt_mac a now es ≡ first_mac now (entries_of a es)
mac-of a now [] = refl
mac-of a now (e ∷ es) = by (eqb e.address.0 a) (mac-of a now es)
  where
    by : (b : Bool) → learnt_mac a now es ≡ first_mac now (entries_of a es) → cond (b && nat_lt (now - e.at) 120000) (Some e.mac) (learnt_mac a now es) ≡ first_mac now (put b e (entries_of a es))
    by true rest = ap (cond (nat_lt (now - e.at) 120000) (Some e.mac)) rest
    by false rest = rest

-- the entry that each of these has is of the address
of-address : (a : ℕ) (e : CacheEntry) (es : List CacheEntry) → entries_of a es ≡ e ∷ [] → eqb e.address.0 a ≡ true
of-address a e [] one = cc
of-address a e (d ∷ es) one = by (eqb d.address.0 a) refl one (of-address a e es)
  where
    by : (b : Bool) → eqb d.address.0 a ≡ b → put b d (entries_of a es) ≡ e ∷ [] → (entries_of a es ≡ e ∷ [] → eqb e.address.0 a ≡ true) → eqb e.address.0 a ≡ true
    by true is one rest = let same : d ≡ e = cc in subst (λ (x : CacheEntry). eqb x.address.0 a ≡ true) same is
    by false is one rest = rest one

none-without : (a : ℕ) (es : List CacheEntry) → entries_of a (without a es) ≡ []
none-without a [] = refl
none-without a (e ∷ es) = by (eqb e.address.0 a) refl (none-without a es)
  where
    by : (b : Bool) → eqb e.address.0 a ≡ b → entries_of a (without a es) ≡ [] → entries_of a (put (not b) e (without a es)) ≡ []
    by true is rest = rest
    by false is rest = rw is rest

-- the packet renews the entry of its address
renewal-one : (a : ℕ) (mac : Mac) (at : ℕ) (e : CacheEntry) (es : List CacheEntry) → entries_of a es ≡ e ∷ [] → entries_of a (with_renewal a mac at es) ≡ renewed_entry mac at e ∷ []
renewal-one a mac at e es one = rw (entries-append, none-without, one) (rw (of-address a e es one) refl)

-- ---- calls of another address
module _ (a o : ℕ) (other : eqb o a ≡ false) where
  both : (e : CacheEntry) → eqb e.address.0 a ≡ true → eqb e.address.0 o ≡ true → ⊥
  both e one two = grind (arith, nat_tests, one, two, other)

  of-without : (es : List CacheEntry) → entries_of a (without o es) ≡ entries_of a es
  of-without [] = refl
  of-without (e ∷ es) = by (eqb e.address.0 o) (eqb e.address.0 a) refl refl (of-without es)
    where
      by : (b d : Bool) → eqb e.address.0 o ≡ b → eqb e.address.0 a ≡ d → entries_of a (without o es) ≡ entries_of a es → entries_of a (put (not b) e (without o es)) ≡ put d e (entries_of a es)
      by true true is is' rest = absurd (both e is' is)
      by true false is is' rest = rest
      by false d is is' rest = rw (is', rest) refl

  of-renewed : (mac : Mac) (now : ℕ) (es : List CacheEntry) → entries_of a (map (renewed_entry mac now) (entries_of o es)) ≡ []
  of-renewed mac now [] = refl
  of-renewed mac now (e ∷ es) = by (eqb e.address.0 o) (eqb e.address.0 a) refl refl (of-renewed mac now es)
    where
      by : (b d : Bool) → eqb e.address.0 o ≡ b → eqb e.address.0 a ≡ d → entries_of a (map (renewed_entry mac now) (entries_of o es)) ≡ [] → entries_of a (map (renewed_entry mac now) (put b e (entries_of o es))) ≡ []
      by true true is is' rest = absurd (both e is' is)
      by true false is is' rest = rw (is', rest) refl
      by false d is is' rest = rest

  of-sent : (now : ℕ) (es : List CacheEntry) → entries_of a (learnt_sent o now es) ≡ entries_of a es
  of-sent now [] = refl
  of-sent now (e ∷ es) = by (eqb e.address.0 o) (eqb e.address.0 a) refl refl (of-sent now es)
    where
      by : (b d : Bool) → eqb e.address.0 o ≡ b → eqb e.address.0 a ≡ d → entries_of a (learnt_sent o now es) ≡ entries_of a es → entries_of a (cond b (sent_entry now e) e ∷ learnt_sent o now es) ≡ put d e (entries_of a es)
      by true true is is' rest = absurd (both e is' is)
      by true false is is' rest = rw is' rest
      by false d is is' rest = rw (is', rest) refl

-- an address has this one entry, or none
abbrev OneOrNone : ℕ → CacheEntry → List CacheEntry → Type 0
OneOrNone a e es = (entries_of a es ≡ e ∷ []) ⊎ (entries_of a es ≡ [])

none-dropped : (a : ℕ) (es : List CacheEntry) → entries_of a es ≡ [] → entries_of a (drop 1 es) ≡ []
none-dropped a [] none = refl
none-dropped a (d ∷ es) none = by (eqb d.address.0 a) none
  where
    by : (b : Bool) → put b d (entries_of a es) ≡ [] → entries_of a es ≡ []
    by true none = cc
    by false none = none

one-dropped : (a : ℕ) (e : CacheEntry) (es : List CacheEntry) → entries_of a es ≡ e ∷ [] → OneOrNone a e (drop 1 es)
one-dropped a e [] one = cc
one-dropped a e (d ∷ es) one = by (eqb d.address.0 a) one
  where
    by : (b : Bool) → put b d (entries_of a es) ≡ e ∷ [] → OneOrNone a e es
    by true one = inr (cc)
    by false one = inl one

none-unsent : (a : ℕ) (es : List CacheEntry) → entries_of a es ≡ [] → entries_of a (without_unsent es) ≡ []
none-unsent a [] none = refl
none-unsent a (d ∷ es) none = by (eqb d.address.0 a) d.sent refl none (none-unsent a es)
  where
    by : (b c : Bool) → eqb d.address.0 a ≡ b → put b d (entries_of a es) ≡ [] → (entries_of a es ≡ [] → entries_of a (without_unsent es) ≡ []) → entries_of a (cond c (d ∷ without_unsent es) es) ≡ []
    by true c is none rest = cc
    by false true is none rest = rw is (rest none)
    by false false is none rest = none

one-unsent : (a : ℕ) (e : CacheEntry) (es : List CacheEntry) → entries_of a es ≡ e ∷ [] → OneOrNone a e (without_unsent es)
one-unsent a e [] one = cc
one-unsent a e (d ∷ es) one = by (eqb d.address.0 a) d.sent refl one (one-unsent a e es)
  where
    by : (b c : Bool) → eqb d.address.0 a ≡ b → put b d (entries_of a es) ≡ e ∷ [] → (entries_of a es ≡ e ∷ [] → OneOrNone a e (without_unsent es)) → OneOrNone a e (cond c (d ∷ without_unsent es) es)
    by true true is one rest = inl (rw (is, none-unsent a es (cc)) (cc))
    by true false is one rest = inr (cc)
    by false true is one rest = rw is (rest one)
    by false false is one rest = inl one

one-or-none : (a : ℕ) (e : CacheEntry) (es ds : List CacheEntry) → entries_of a ds ≡ entries_of a es → OneOrNone a e es → OneOrNone a e ds
one-or-none a e es ds same (inl one) = inl (same ∙ one)
one-or-none a e es ds same (inr none) = inr (same ∙ none)

room-made : (b c : Bool) (a : ℕ) (e : CacheEntry) (es : List CacheEntry) → OneOrNone a e es → OneOrNone a e (cond b es (cond c (drop 1 es) (without_unsent es)))
room-made true c a e es was = was
room-made false true a e es (inl one) = one-dropped a e es one
room-made false true a e es (inr none) = inr (none-dropped a es none)
room-made false false a e es (inl one) = one-unsent a e es one
room-made false false a e es (inr none) = inr (none-unsent a es none)

module _ (a : ℕ) (e : CacheEntry) where
  newcomer : (d : CacheEntry) (es : List CacheEntry) → eqb d.address.0 a ≡ false → OneOrNone a e es → OneOrNone a e (with_newcomer d es)
  newcomer d es other was = one-or-none a e room (with_newcomer d es) same (room-made (nat_lt (length es) 1024) (all_sent es) a e es was)
    where
      room : List CacheEntry
      room = cond (nat_lt (length es) 1024) es (after_one_left es)

      alone : entries_of a (d ∷ []) ≡ []
      alone = rw other refl

      same : entries_of a (room ++ d ∷ []) ≡ entries_of a room
      same = entries-append a room (d ∷ []) ∙ ap (λ (xs : List CacheEntry). entries_of a room ++ xs) alone ∙ append-nil (entries_of a room)

  taught-other : (ip : Ip) (mac : Mac) (for_us : Bool) (now : ℕ) (es : List CacheEntry) → eqb ip.0 a ≡ false → OneOrNone a e es → OneOrNone a e (entries_taught ip mac for_us now es)
  taught-other ip mac for_us now es other was = by (has_entry ip.0 es) for_us
    where
      same : entries_of a (with_renewal ip.0 mac now es) ≡ entries_of a es
      same =
          entries-append a (without ip.0 es) (map (renewed_entry mac now) (entries_of ip.0 es))
          ∙ ap (λ (xs : List CacheEntry). entries_of a (without ip.0 es) ++ xs) (of-renewed a ip.0 other mac now es)
          ∙ append-nil (entries_of a (without ip.0 es))
          ∙ of-without a ip.0 other es

      by : (b c : Bool) → OneOrNone a e (cond b (with_renewal ip.0 mac now es) (cond c (with_newcomer (new_entry ip mac now) es) es))
      by true c = one-or-none a e es (with_renewal ip.0 mac now es) same was
      by false true = newcomer (new_entry ip mac now) es other was
      by false false = was

  not-other : (b : Bool) → not b ≡ true → b ≡ false
  not-other true is = cc
  not-other false is = refl

  -- what holds of the neighbours as long as only calls of other addresses come
  record Stays (fixed : List Neighbour) (known : Neighbours) : Type 0 where
    same : known.fixed ≡ fixed
    one : OneOrNone a e known.learnt

  after-one : (fixed : List Neighbour) (call : Call) (known : Neighbours) → is_of_other a call ≡ true → Stays fixed known → Stays fixed (after_call call known)
  after-one fixed (Heard ip mac for_us now) known other was = record {
    same = was.same;
    one = taught-other ip mac for_us now known.learnt (not-other (eqb ip.0 a) other) was.one;
  }
  after-one fixed (SentTo o now) known other was = by (is_some (fixed_mac o known.fixed))
    where
      by : (b : Bool) → Stays fixed (let n : Neighbours = cond b known (record known { learnt = learnt_sent o now known.learnt }) in n)
      by true = was
      by false = record { same = was.same; one = one-or-none a e known.learnt (learnt_sent o now known.learnt) (of-sent a o (not-other (eqb o a) other) now known.learnt) was.one }

  after-all : (fixed : List Neighbour) (calls : List Call) (known : Neighbours) → list_all (is_of_other a) calls ≡ true → Stays fixed known → Stays fixed (after_calls calls known)
  after-all fixed [] known others was = was
  after-all fixed (call ∷ calls) known others was =
      let parts = true-both (is_of_other a call) (list_all (is_of_other a) calls) others in
      after-all fixed calls (after_call call known) parts.1 (after-one fixed call known parts.0 was)

-- the entry is there as the packet left it
pub renewed-there : (known later : Neighbours) (e : CacheEntry) (mac : Mac) (at : ℕ) → IsAfterPacket known e mac at later → (fixed_mac e.address.0 later.fixed ≡ None) × (entries_of e.address.0 later.learnt ≡ renewed_entry mac at e ∷ [])
renewed-there known later e mac at is = (rw stays.same is.not_fixed, by stays.one)
  where
    a : ℕ
    a = e.address.0

    begun : entries_of a (entries_taught e.address mac is.for_us at known.learnt) ≡ renewed_entry mac at e ∷ []
    begun = rw (has-one a e known.learnt is.entry) (renewal-one a mac at e known.learnt is.entry)

    stays : Stays a (renewed_entry mac at e) known.fixed later
    stays = rw is.after (after-all a (renewed_entry mac at e) known.fixed is.calls (taught e.address mac is.for_us at known) is.others (record { same = refl; one = inl begun }))

    by : OneOrNone a (renewed_entry mac at e) later.learnt → entries_of a later.learnt ≡ renewed_entry mac at e ∷ []
    by (inl one) = one
    by (inr none) = absurd (let gone = has-of a later.learnt none in let there = is.stays in cc)

pub asked-behind : (known later : Neighbours) (e : CacheEntry) (mac : Mac) (at now : ℕ) → IsAfterPacket known e mac at later → mac ≢ e.mac → e.asked + 100 ≤ now → asks_at e.address.0 now later ≡ true
asked-behind known later e mac at now is other past =
    let there = renewed-there known later e mac at is in
    let differs : bytes_eq e.mac.0 mac.0 ≡ false = false_from_ne_true (bytes_eq e.mac.0 mac.0) (λ t. other (ap (λ (xs : List ℕ). let m : Mac = record { 0 = xs } in m) (sym ((bytes_eq-Decides e.mac.0 mac.0).0 t)))) in
    let due : nat_le 100 (now - e.asked) ≡ true = grind (arith, nat_tests, past) in
    rw (there.0, asks-of, there.1, differs, due) refl

pub owner-found : (known later : Neighbours) (e : CacheEntry) (mac : Mac) (at now : ℕ) → IsAfterPacket known e mac at later → now < at + 120000 → mac_at e.address.0 now later ≡ Some mac
owner-found known later e mac at now is fresh =
    let there = renewed-there known later e mac at is in
    let valid : nat_lt (now - at) 120000 ≡ true = grind (arith, nat_tests, fresh) in
    rw (there.0, mac-of, there.1, valid) refl
