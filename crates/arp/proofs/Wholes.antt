-- Known hardware addresses have six bytes.
use Rattle.std.proofs.Common.{◌≡◌, ℕ, zero, suc, ◌-◌, Bool, true, false, cond, not, ◌==◌, ◌&&◌, nat_lt, Option, Some, None, List, [], ◌∷◌, ◌++◌, length, map, drop, refl, ◌∙◌, subst}
use Rattle.std.specs.List.{filter}
use Rattle.addresses.specs.declared.ethernet.Mac.{Mac}
use Rattle.addresses.specs.declared.internet.Ip.{Ip}
use Rattle.arp.specs.declared.caches.Neighbour.{Neighbour}
use Rattle.arp.specs.declared.caches.CacheEntry.{CacheEntry}
use Rattle.arp.specs.Neighbours.{Neighbours, fixed_mac, learnt_mac, mac_at, or_else, new_entry, renewed_entry, entries_of, entries_taught, has_entry, taught, with_newcomer, after_one_left, without_unsent, all_sent}
use Rattle.arp.specs.Macs.{AllSix, KnowsMacs}

same-mac : (a mac : Mac) → (let o : Option Mac = Some a in o) ≡ Some mac → a ≡ mac
same-mac a mac is = cc

first-six : (b : Bool) (first : Mac) (rest : Option Mac) (mac : Mac) → length first.0 ≡ 6 → (rest ≡ Some mac → length mac.0 ≡ 6) → cond b (Some first) rest ≡ Some mac → length mac.0 ≡ 6
first-six true first rest mac six more is = subst (λ (m : Mac). length m.0 ≡ 6) (same-mac first mac is) six
first-six false first rest mac six more is = more is

fixed-six : (address : ℕ) (ns : List Neighbour) (mac : Mac) → AllSix (λ n. n.mac) ns → fixed_mac address ns ≡ Some mac → length mac.0 ≡ 6
fixed-six address [] mac all is = cc
fixed-six address (n ∷ ns) mac all is = first-six (n.address.0 == address) n.mac (fixed_mac address ns) mac all.0 (fixed-six address ns mac all.1) is

learnt-six : (address now : ℕ) (es : List CacheEntry) (mac : Mac) → AllSix (λ e. e.mac) es → learnt_mac address now es ≡ Some mac → length mac.0 ≡ 6
learnt-six address now [] mac all is = cc
learnt-six address now (e ∷ es) mac all is = first-six (e.address.0 == address && nat_lt (now - e.at) 120000) e.mac (learnt_mac address now es) mac all.0 (learnt-six address now es mac all.1) is

pub near-six : (address now : ℕ) (near : Neighbours) (mac : Mac) → KnowsMacs near → mac_at address now near ≡ Some mac → length mac.0 ≡ 6
near-six address now near mac knows is = by (fixed_mac address near.fixed) refl is
  where
    by : (o : Option Mac) → fixed_mac address near.fixed ≡ o → or_else o (learnt_mac address now near.learnt) ≡ Some mac → length mac.0 ≡ 6
    by (Some m) there is = fixed-six address near.fixed mac knows.fixed (there ∙ is)
    by None there is = learnt-six address now near.learnt mac knows.learnt is

filter-six : (test : CacheEntry → Bool) (es : List CacheEntry) → AllSix (λ e. e.mac) es → AllSix (λ e. e.mac) (filter test es)
filter-six test [] all = tt
filter-six test (e ∷ es) all = by (test e) (filter-six test es all.1)
  where
    by : (b : Bool) → AllSix (λ (x : CacheEntry). x.mac) (filter test es) → AllSix (λ (x : CacheEntry). x.mac) (cond b (e ∷ filter test es) (filter test es))
    by true rest = (all.0, rest)
    by false rest = rest

drop-six : (n : ℕ) (es : List CacheEntry) → AllSix (λ e. e.mac) es → AllSix (λ e. e.mac) (drop n es)
drop-six zero es all = all
drop-six (suc n) [] all = tt
drop-six (suc n) (e ∷ es) all = drop-six n es all.1

unsent-six : (es : List CacheEntry) → AllSix (λ e. e.mac) es → AllSix (λ e. e.mac) (without_unsent es)
unsent-six [] all = tt
unsent-six (e ∷ es) all = by e.sent (unsent-six es all.1)
  where
    by : (b : Bool) → AllSix (λ (x : CacheEntry). x.mac) (without_unsent es) → AllSix (λ (x : CacheEntry). x.mac) (cond b (e ∷ without_unsent es) es)
    by true rest = (all.0, rest)
    by false rest = all.1

if-six : (b : Bool) (es ds : List CacheEntry) → AllSix (λ e. e.mac) es → AllSix (λ e. e.mac) ds → AllSix (λ (e : CacheEntry). e.mac) (cond b es ds)
if-six true es ds one other = one
if-six false es ds one other = other

pub append-six : {X : Type 0} (mac_in : X → Mac) (xs ys : List X) → AllSix mac_in xs → AllSix mac_in ys → AllSix mac_in (xs ++ ys)
append-six mac_in [] ys all more = more
append-six mac_in (x ∷ xs) ys all more = (all.0, append-six mac_in xs ys all.1 more)

renewed-six : (mac : Mac) (now : ℕ) (es : List CacheEntry) → length mac.0 ≡ 6 → AllSix (λ e. e.mac) (map (renewed_entry mac now) es)
renewed-six mac now [] six = tt
renewed-six mac now (e ∷ es) six = (six, renewed-six mac now es six)

newcomer-six : (e : CacheEntry) (es : List CacheEntry) → length e.mac.0 ≡ 6 → AllSix (λ e. e.mac) es → AllSix (λ e. e.mac) (with_newcomer e es)
newcomer-six e es six all =
    append-six (λ (x : CacheEntry). x.mac) _ (e ∷ []) (if-six (nat_lt (length es) 1024) es (after_one_left es) all (if-six (all_sent es) (drop 1 es) (without_unsent es) (drop-six 1 es all) (unsent-six es all))) (six, tt)

pub taught-six-in : (address : Ip) (mac : Mac) (for_us : Bool) (now : ℕ) (es : List CacheEntry) → length mac.0 ≡ 6 → AllSix (λ e. e.mac) es → AllSix (λ (e : CacheEntry). e.mac) (entries_taught address mac for_us now es)
taught-six-in address mac for_us now es six all =
    if-six (has_entry address.0 es) _ _
    (append-six (λ (x : CacheEntry). x.mac) _ _ (filter-six (λ e. not (e.address.0 == address.0)) es all) (renewed-six mac now (entries_of address.0 es) six))
    (if-six for_us _ es (newcomer-six (new_entry address mac now) es six all) all)

pub six-after : (address : Ip) (mac : Mac) (for_us : Bool) (now : ℕ) (es ds : List CacheEntry) → ds ≡ entries_taught address mac for_us now es → length mac.0 ≡ 6 → AllSix (λ e. e.mac) es → AllSix (λ (e : CacheEntry). e.mac) ds
six-after address mac for_us now es ds entries six all = rw entries (taught-six-in address mac for_us now es six all)

-- all known hardware addresses have six bytes after an ARP packet with one of six
pub taught-six : (address : Ip) (mac : Mac) (for_us : Bool) (now : ℕ) (known : Neighbours) → KnowsMacs known → length mac.0 ≡ 6 → KnowsMacs (taught address mac for_us now known)
taught-six address mac for_us now known knows six = record {
  fixed = knows.fixed;
  learnt = taught-six-in address mac for_us now known.learnt six knows.learnt;
}
