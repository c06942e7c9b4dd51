-- Whether an address has an entry after an ARP packet of it.
use Rattle.std.proofs.Common.{◌≡◌, ℕ, Bool, true, false, not, cond, eqb, ◌||◌, nat_lt, List, [], ◌∷◌, length, map, refl, sym, ap, ◌∙◌, arith}
use Rattle.std.proofs.lemmas.Bool.Decides.{nat_tests}
use Rattle.std.proofs.lemmas.List.Folds.{list_any-append}
use Rattle.addresses.specs.declared.ethernet.Mac.{Mac}
use Rattle.addresses.specs.declared.internet.Ip.{Ip}
use Rattle.arp.specs.declared.caches.CacheEntry.{CacheEntry}
use Rattle.arp.specs.Neighbours.{entries_of, entries_taught, has_entry, new_entry, renewed_entry, with_newcomer, with_renewal, without, after_one_left}

has-without : (a : ℕ) (es : List CacheEntry) → has_entry a (without a es) ≡ false
has-without a [] = refl
has-without a (e ∷ es) = by (eqb e.address.0 a) refl (has-without a es)
  where
    by : (b : Bool) → eqb e.address.0 a ≡ b → has_entry a (without a es) ≡ false → has_entry a (let ds : List CacheEntry = cond (not b) (e ∷ without a es) (without a es) in ds) ≡ false
    by true is rest = rest
    by false is rest = rw is rest

has-renewed : (a : ℕ) (mac : Mac) (now : ℕ) (es : List CacheEntry) → has_entry a (map (renewed_entry mac now) (entries_of a es)) ≡ has_entry a es
has-renewed a mac now [] = refl
has-renewed a mac now (e ∷ es) = by (eqb e.address.0 a) refl (has-renewed a mac now es)
  where
    by : (b : Bool) → eqb e.address.0 a ≡ b → has_entry a (map (renewed_entry mac now) (entries_of a es)) ≡ has_entry a es → has_entry a (map (renewed_entry mac now) (let ds : List CacheEntry = cond b (e ∷ entries_of a es) (entries_of a es) in ds)) ≡ (b || has_entry a es)
    by true is rest = rw is refl
    by false is rest = rest

or-true : (b c : Bool) → c ≡ true → (b || (c || false)) ≡ true
or-true true c is = refl
or-true false true is = refl
or-true false false is = cc

-- it has one where it had one, or where the packet was for the interface
pub has-taught : (address : Ip) (mac : Mac) (for_us : Bool) (now : ℕ) (es : List CacheEntry) → has_entry address.0 (entries_taught address mac for_us now es) ≡ (has_entry address.0 es || for_us)
has-taught address mac for_us now es = by (has_entry address.0 es) for_us refl
  where
    a : ℕ
    a = address.0

    itself : eqb a a ≡ true
    itself = grind (arith, nat_tests)

    by : (b c : Bool) → has_entry a es ≡ b → has_entry a (cond b (with_renewal a mac now es) (cond c (with_newcomer (new_entry address mac now) es) es)) ≡ (b || c)
    by true c is =
        list_any-append (λ (e : CacheEntry). eqb e.address.0 a) (without a es) (map (renewed_entry mac now) (entries_of a es))
        ∙ ap (λ (t : Bool). t || has_entry a (map (renewed_entry mac now) (entries_of a es))) (has-without a es)
        ∙ has-renewed a mac now es
        ∙ is
    by false true is =
        list_any-append (λ (e : CacheEntry). eqb e.address.0 a) (cond (nat_lt (length es) 1024) es (after_one_left es)) (new_entry address mac now ∷ [])
        ∙ or-true (has_entry a (cond (nat_lt (length es) 1024) es (after_one_left es))) (eqb a a) itself
    by false false is = is

pub has-after : (address : Ip) (mac : Mac) (for_us : Bool) (now : ℕ) (es ds : List CacheEntry) (r : Bool) → ds ≡ entries_taught address mac for_us now es → r ≡ (has_entry address.0 es || for_us) → r ≡ has_entry address.0 ds
has-after address mac for_us now es ds r entries teaches = teaches ∙ sym (ap (has_entry address.0) entries ∙ has-taught address mac for_us now es)
