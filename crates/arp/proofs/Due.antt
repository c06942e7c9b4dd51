-- For which neighbours a request becomes due at a moment: for the sender of an ARP packet alone.
use Rattle.std.proofs.Common.{◌≡◌, ◌⊎◌, inl, inr, ℕ, ◌-◌, Bool, true, false, not, cond, eqb, ◌&&◌, ◌||◌, nat_lt, nat_le, List, [], ◌∷◌, ◌++◌, length, map, drop, is_some, refl, sym, ◌∙◌, arith}
use Rattle.std.specs.List.{filter, list_any}
use Rattle.std.proofs.lemmas.Bool.{eqb-true, or_cases}
use Rattle.std.proofs.lemmas.List.Folds.{list_any-append}
use Rattle.addresses.specs.declared.ethernet.Mac.{Mac}
use Rattle.addresses.specs.declared.internet.Ip.{Ip}
use Rattle.arp.specs.declared.caches.CacheEntry.{CacheEntry}
use Rattle.arp.specs.Neighbours.{Neighbours, all_sent, asks_at, entries_of, entries_taught, fixed_mac, has_entry, is_old, learnt_asks, learnt_sent, new_entry, renewed_entry, sent_at, sent_entry, taught, wants_asking, with_newcomer, with_renewal, without, after_one_left, without_unsent}
use Rattle.arp.proofs.Logs.{true-both}

or-left : (a b : Bool) → a ≡ true → (a || b) ≡ true
or-left true b is = refl
or-left false b is = cc

or-right : (a b : Bool) → b ≡ true → (a || b) ≡ true
or-right true b is = refl
or-right false b is = is

-- a test that one of fewer entries passes is passed by one of all
module _ (test : CacheEntry → Bool) where
  any-filter : (f : CacheEntry → Bool) (es : List CacheEntry) → list_any test (filter f es) ≡ true → list_any test es ≡ true
  any-filter f [] is = is
  any-filter f (e ∷ es) is = by (f e) (any-filter f es) is
    where
      by : (b : Bool) → (list_any test (filter f es) ≡ true → list_any test es ≡ true) → list_any test (let ds : List CacheEntry = cond b (e ∷ filter f es) (filter f es) in ds) ≡ true → (test e || list_any test es) ≡ true
      by false rest is = or-right (test e) (list_any test es) (rest is)
      by true rest is = at (or_cases (test e) (list_any test (filter f es)) is)
        where
          at : (test e ≡ true) ⊎ (list_any test (filter f es) ≡ true) → (test e || list_any test es) ≡ true
          at (inl one) = or-left (test e) (list_any test es) one
          at (inr more) = or-right (test e) (list_any test es) (rest more)

  any-dropped : (es : List CacheEntry) → list_any test (drop 1 es) ≡ true → list_any test es ≡ true
  any-dropped [] is = is
  any-dropped (e ∷ es) is = or-right (test e) (list_any test es) is

  any-unsent : (es : List CacheEntry) → list_any test (without_unsent es) ≡ true → list_any test es ≡ true
  any-unsent [] is = is
  any-unsent (e ∷ es) is = by e.sent (any-unsent es) is
    where
      by : (b : Bool) → (list_any test (without_unsent es) ≡ true → list_any test es ≡ true) → list_any test (let ds : List CacheEntry = cond b (e ∷ without_unsent es) es in ds) ≡ true → (test e || list_any test es) ≡ true
      by false rest is = or-right (test e) (list_any test es) is
      by true rest is = at (or_cases (test e) (list_any test (without_unsent es)) is)
        where
          at : (test e ≡ true) ⊎ (list_any test (without_unsent es) ≡ true) → (test e || list_any test es) ≡ true
          at (inl one) = or-left (test e) (list_any test es) one
          at (inr more) = or-right (test e) (list_any test es) (rest more)

  any-room : (b c : Bool) (es : List CacheEntry) → list_any test (let ds : List CacheEntry = cond b es (cond c (drop 1 es) (without_unsent es)) in ds) ≡ true → list_any test es ≡ true
  any-room true c es is = is
  any-room false true es is = any-dropped es is
  any-room false false es is = any-unsent es is

-- no request is due for an entry by which a packet was sent at the same moment: it was made, or wasn't due
wants-once : (now : ℕ) (e : CacheEntry) → wants_asking now (sent_entry now e) ≡ false
wants-once now e = by (is_old now e) (nat_le 100 (now - e.asked)) refl
  where
    past : nat_le 100 (now - now) ≡ false
    past = let none : now - now ≡ 0 = omega arith in rw none refl

    by : (o p : Bool) → nat_le 100 (now - e.asked) ≡ p → (o && nat_le 100 (now - cond (o && p) now e.asked)) ≡ false
    by true true is = past
    by true false is = is
    by false p is = refl

asks-once-in : (a now : ℕ) (es : List CacheEntry) → learnt_asks a now (learnt_sent a now es) ≡ false
asks-once-in a now [] = refl
asks-once-in a now (e ∷ es) = by (eqb e.address.0 a) refl (asks-once-in a now es)
  where
    by : (b : Bool) → eqb e.address.0 a ≡ b → learnt_asks a now (learnt_sent a now es) ≡ false → learnt_asks a now (cond b (sent_entry now e) e ∷ learnt_sent a now es) ≡ false
    by true is rest = rw (is, wants-once now e) rest
    by false is rest = rw is rest

asks-sent-in : (host a now : ℕ) (es : List CacheEntry) → learnt_asks host now (learnt_sent a now es) ≡ true → learnt_asks host now es ≡ true
asks-sent-in host a now [] is = is
asks-sent-in host a now (e ∷ es) is = by (eqb e.address.0 a) (asks-sent-in host a now es) is
  where
    mine : Bool
    mine = eqb e.address.0 host && wants_asking now e

    by : (b : Bool) → (learnt_asks host now (learnt_sent a now es) ≡ true → learnt_asks host now es ≡ true) → learnt_asks host now (cond b (sent_entry now e) e ∷ learnt_sent a now es) ≡ true → (mine || learnt_asks host now es) ≡ true
    by true rest is = at (or_cases (eqb e.address.0 host && wants_asking now (sent_entry now e)) (learnt_asks host now (learnt_sent a now es)) is)
      where
        at : ((eqb e.address.0 host && wants_asking now (sent_entry now e)) ≡ true) ⊎ (learnt_asks host now (learnt_sent a now es) ≡ true) → (mine || learnt_asks host now es) ≡ true
        at (inl one) = absurd (let due = (true-both (eqb e.address.0 host) (wants_asking now (sent_entry now e)) one).1 in let done = wants-once now e in cc)
        at (inr more) = or-right mine (learnt_asks host now es) (rest more)
    by false rest is = at (or_cases mine (learnt_asks host now (learnt_sent a now es)) is)
      where
        at : (mine ≡ true) ⊎ (learnt_asks host now (learnt_sent a now es) ≡ true) → (mine || learnt_asks host now es) ≡ true
        at (inl one) = or-left mine (learnt_asks host now es) one
        at (inr more) = or-right mine (learnt_asks host now es) (rest more)

-- the neighbours after a packet, where `fixed` says whether the address is a fixed neighbour's
abbrev sent_by : Bool → ℕ → ℕ → Neighbours → Neighbours
sent_by fixed a now known = cond fixed known (record known { learnt = learnt_sent a now known.learnt })

pub asks-once : (a now : ℕ) (known : Neighbours) → asks_at a now (sent_at a now known) ≡ false
asks-once a now known = by (is_some (fixed_mac a known.fixed)) refl
  where
    by : (b : Bool) → is_some (fixed_mac a known.fixed) ≡ b → asks_at a now (sent_by b a now known) ≡ false
    by true is = rw is refl
    by false is = rw (is, asks-once-in a now known.learnt) refl

and-both : (a b : Bool) → a ≡ true → b ≡ true → (a && b) ≡ true
and-both a b one other = rw (one, other) refl

pub asks-sent : (host a now : ℕ) (known : Neighbours) → asks_at host now (sent_at a now known) ≡ true → asks_at host now known ≡ true
asks-sent host a now known is = by (is_some (fixed_mac a known.fixed)) is
  where
    free : Bool
    free = not (is_some (fixed_mac host known.fixed))

    by : (b : Bool) → asks_at host now (sent_by b a now known) ≡ true → asks_at host now known ≡ true
    by true is = is
    by false is =
        let parts = true-both free (learnt_asks host now (learnt_sent a now known.learnt)) is in
        and-both free (learnt_asks host now known.learnt) parts.0 (asks-sent-in host a now known.learnt parts.1)

-- ---- an ARP packet of another address
module _ (host now : ℕ) (ip : Ip) (mac : Mac) (other : eqb ip.0 host ≡ false) where
  abbrev due : CacheEntry → Bool
  due e = eqb e.address.0 host && wants_asking now e

  not-due : (e : CacheEntry) → eqb e.address.0 ip.0 ≡ true → due e ≡ false
  not-due e is = let same : e.address.0 ≡ ip.0 = eqb-true e.address.0 ip.0 is in rw (same, other) refl

  none-renewed : (es : List CacheEntry) → list_any due (map (renewed_entry mac now) (entries_of ip.0 es)) ≡ false
  none-renewed [] = refl
  none-renewed (e ∷ es) = by (eqb e.address.0 ip.0) refl (none-renewed es)
    where
      by : (b : Bool) → eqb e.address.0 ip.0 ≡ b → list_any due (map (renewed_entry mac now) (entries_of ip.0 es)) ≡ false → list_any due (map (renewed_entry mac now) (let ds : List CacheEntry = cond b (e ∷ entries_of ip.0 es) (entries_of ip.0 es) in ds)) ≡ false
      by true is rest = rw (not-due (renewed_entry mac now e) is) rest
      by false is rest = rest

  -- one of the first entries is due, where none of the others is
  among-first : (es ds : List CacheEntry) → list_any due ds ≡ false → list_any due (es ++ ds) ≡ true → list_any due es ≡ true
  among-first es ds none is = at (or_cases (list_any due es) (list_any due ds) (sym (list_any-append due es ds) ∙ is))
    where
      at : (list_any due es ≡ true) ⊎ (list_any due ds ≡ true) → list_any due es ≡ true
      at (inl one) = one
      at (inr one) = absurd (cc)

  asks-taught-in : (for_us : Bool) (es : List CacheEntry) → learnt_asks host now (entries_taught ip mac for_us now es) ≡ true → learnt_asks host now es ≡ true
  asks-taught-in for_us es is = by (has_entry ip.0 es) for_us is
    where
      alone : list_any due (new_entry ip mac now ∷ []) ≡ false
      alone = rw other refl

      by : (b c : Bool) → list_any due (let ds : List CacheEntry = cond b (with_renewal ip.0 mac now es) (cond c (with_newcomer (new_entry ip mac now) es) es) in ds) ≡ true → list_any due es ≡ true
      by true c is = any-filter due (λ e. not (eqb e.address.0 ip.0)) es (among-first (without ip.0 es) (map (renewed_entry mac now) (entries_of ip.0 es)) (none-renewed es) is)
      by false true is = any-room due (nat_lt (length es) 1024) (all_sent es) es (among-first (cond (nat_lt (length es) 1024) es (after_one_left es)) (new_entry ip mac now ∷ []) alone is)
      by false false is = is

pub asks-taught : (host now : ℕ) (ip : Ip) (mac : Mac) (for_us : Bool) (known : Neighbours) → eqb ip.0 host ≡ false → asks_at host now (taught ip mac for_us now known) ≡ true → asks_at host now known ≡ true
asks-taught host now ip mac for_us known other is =
    let free : Bool = not (is_some (fixed_mac host known.fixed)) in
    let parts = true-both free (learnt_asks host now (entries_taught ip mac for_us now known.learnt)) is in
    and-both free (learnt_asks host now known.learnt) parts.0 (asks-taught-in host now ip mac other for_us known.learnt parts.1)
