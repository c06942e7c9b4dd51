-- A packet that is sent to a neighbour changes no hardware address.
use Rattle.std.proofs.Common.{◌≡◌, ℕ, ◌-◌, Bool, true, false, cond, ◌==◌, ◌&&◌, nat_lt, Some, is_some, List, [], ◌∷◌, map, refl, ap}
use Rattle.arp.specs.declared.caches.CacheEntry.{CacheEntry}
use Rattle.arp.specs.Neighbours.{Neighbours, fixed_mac, learnt_mac, learnt_sent, mac_at, or_else, sent_at, sent_entry}
use Rattle.arp.specs.Macs.{AllSix, KnowsMacs}

-- an entry without what a packet that is sent changes of it
abbrev pub forgetful_entry : CacheEntry → CacheEntry
forgetful_entry e = record e { asked = 0; sent = false }

abbrev pub forgetful : Neighbours → Neighbours
forgetful known = record known { learnt = map forgetful_entry known.learnt }

mac-sent-in : (b later a now : ℕ) (es : List CacheEntry) → learnt_mac b later (learnt_sent a now es) ≡ learnt_mac b later es
mac-sent-in b later a now [] = refl
mac-sent-in b later a now (e ∷ es) = by (e.address.0 == a) (mac-sent-in b later a now es)
  where
    rest : learnt_mac b later (learnt_sent a now es) ≡ learnt_mac b later es → learnt_mac b later (e ∷ learnt_sent a now es) ≡ learnt_mac b later (e ∷ es)
    rest same = ap (cond (e.address.0 == b && nat_lt (later - e.at) 120000) (Some e.mac)) same

    by : (t : Bool) → learnt_mac b later (learnt_sent a now es) ≡ learnt_mac b later es → learnt_mac b later (cond t (sent_entry now e) e ∷ learnt_sent a now es) ≡ learnt_mac b later (e ∷ es)
    by true same = rest same
    by false same = rest same

-- the neighbours after a packet, where `fixed` says whether the address is a fixed neighbour's
abbrev sent_by : Bool → ℕ → ℕ → Neighbours → Neighbours
sent_by fixed a now known = cond fixed known (record known { learnt = learnt_sent a now known.learnt })

pub mac-sent : (b later a now : ℕ) (known : Neighbours) → mac_at b later (sent_at a now known) ≡ mac_at b later known
mac-sent b later a now known = by (is_some (fixed_mac a known.fixed))
  where
    by : (fixed : Bool) → mac_at b later (sent_by fixed a now known) ≡ mac_at b later known
    by true = refl
    by false = ap (or_else (fixed_mac b known.fixed)) (mac-sent-in b later a now known.learnt)

pub sent-six-in : (a now : ℕ) (es : List CacheEntry) → AllSix (λ e. e.mac) es → AllSix (λ e. e.mac) (learnt_sent a now es)
sent-six-in a now [] all = tt
sent-six-in a now (e ∷ es) all = by (e.address.0 == a) (sent-six-in a now es all.1)
  where
    by : (t : Bool) → AllSix (λ (x : CacheEntry). x.mac) (learnt_sent a now es) → AllSix (λ (x : CacheEntry). x.mac) (cond t (sent_entry now e) e ∷ learnt_sent a now es)
    by true rest = (all.0, rest)
    by false rest = (all.0, rest)

pub sent-six : (a now : ℕ) (known : Neighbours) → KnowsMacs known → KnowsMacs (sent_at a now known)
sent-six a now known knows = by (is_some (fixed_mac a known.fixed))
  where
    by : (fixed : Bool) → KnowsMacs (sent_by fixed a now known)
    by true = knows
    by false = record { fixed = knows.fixed; learnt = sent-six-in a now known.learnt knows.learnt }

forgetful-sent-in : (a now : ℕ) (es : List CacheEntry) → map forgetful_entry (learnt_sent a now es) ≡ map forgetful_entry es
forgetful-sent-in a now [] = refl
forgetful-sent-in a now (e ∷ es) = by (e.address.0 == a) (forgetful-sent-in a now es)
  where
    by : (t : Bool) → map forgetful_entry (learnt_sent a now es) ≡ map forgetful_entry es → forgetful_entry (cond t (sent_entry now e) e) ∷ map forgetful_entry (learnt_sent a now es) ≡ forgetful_entry e ∷ map forgetful_entry es
    by true same = ap (λ (ds : List CacheEntry). forgetful_entry e ∷ ds) same
    by false same = ap (λ (ds : List CacheEntry). forgetful_entry e ∷ ds) same

pub forgetful-sent : (a now : ℕ) (known : Neighbours) → forgetful (sent_at a now known) ≡ forgetful known
forgetful-sent a now known = by (is_some (fixed_mac a known.fixed))
  where
    by : (fixed : Bool) → forgetful (sent_by fixed a now known) ≡ forgetful known
    by true = refl
    by false = ap (λ (es : List CacheEntry). let n : Neighbours = record known { learnt = es } in n) (forgetful-sent-in a now known.learnt)

mac-forgetful-in : (a now : ℕ) (es : List CacheEntry) → learnt_mac a now (map forgetful_entry es) ≡ learnt_mac a now es
mac-forgetful-in a now [] = refl
mac-forgetful-in a now (e ∷ es) = ap (cond (e.address.0 == a && nat_lt (now - e.at) 120000) (Some e.mac)) (mac-forgetful-in a now es)

pub mac-forgetful : (a now : ℕ) (known : Neighbours) → mac_at a now (forgetful known) ≡ mac_at a now known
mac-forgetful a now known = ap (or_else (fixed_mac a known.fixed)) (mac-forgetful-in a now known.learnt)
