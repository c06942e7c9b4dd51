-- The neighbours that an interface knows: fixed ones and learnt ones (RFC 826).
use Rattle.std.specs.Prelude.{◌≡◌, ◌≢◌, ℕ, ◌-◌, ◌%◌, Bool, true, false, ◌==◌, ◌&&◌, ◌||◌, not, nat_lt, nat_le, List, [], ◌∷◌, ◌++◌, length, map, drop, replicate, slice_index, Option, Some, None, is_some, bytes_eq, if◌then◌else◌}
use Rattle.std.specs.List.{filter, list_all, list_any}
use Rattle.addresses.specs.declared.ethernet.Mac.{Mac}
use Rattle.addresses.specs.declared.internet.Ip.{Ip}
use Rattle.addresses.specs.Address.{IsIn}
use Rattle.arp.specs.declared.caches.TheConstants.{ENTRIES, VALID_FOR, RENEWED_AFTER, ASKED_AFTER}
use Rattle.arp.specs.declared.caches.Interface.{Interface}
use Rattle.arp.specs.declared.caches.Neighbour.{Neighbour}
use Rattle.arp.specs.declared.caches.CacheEntry.{CacheEntry}

-- the fixed neighbours, and the entries in the order in which they were learnt or renewed
pub record Neighbours : Type 0 where
  pub fixed : List Neighbour
  pub learnt : List CacheEntry

-- the entries of an address (one at most, in a cache), and those of all other addresses
abbrev pub entries_of : ℕ → List CacheEntry → List CacheEntry
entries_of address entries = filter (λ e. e.address.0 == address) entries

abbrev pub without : ℕ → List CacheEntry → List CacheEntry
without address entries = filter (λ e. not (e.address.0 == address)) entries

abbrev pub has_entry : ℕ → List CacheEntry → Bool
has_entry address entries = list_any (λ e. e.address.0 == address) entries

-- the entry of an address that had none: no packet was sent by it yet, and none changed its hardware address
abbrev pub new_entry : Ip → Mac → ℕ → CacheEntry
new_entry address mac now = record {
  address = address;
  mac = mac;
  at = now;
  asked = now;
  sent = false;
  changed = false;
}

-- an entry after a packet of its neighbour: the hardware address is that of the packet, and changed where the entry had
-- another one, ended or not. When it was last requested, and whether a packet was sent by it, stay.
abbrev pub renewed_entry : Mac → ℕ → CacheEntry → CacheEntry
renewed_entry mac now e =
    record e { mac = mac; at = now; changed = not (bytes_eq e.mac.0 mac.0) }

-- the entries after that of an address was renewed, which is the newest then
abbrev pub with_renewal : ℕ → Mac → ℕ → List CacheEntry → List CacheEntry
with_renewal address mac now entries =
    without address entries ++ map (renewed_entry mac now) (entries_of address entries)

-- a packet was sent by each entry
abbrev pub all_sent : List CacheEntry → Bool
all_sent entries = list_all (λ e. e.sent) entries

-- the entries without the oldest one by which no packet was sent
abbrev pub without_unsent : List CacheEntry → List CacheEntry
without_unsent [] = []
without_unsent (e ∷ entries) = if e.sent then e ∷ without_unsent entries else entries

-- the entries after one left: the oldest by which no packet was sent since it was learnt, or the oldest of all where
-- there is none
abbrev pub after_one_left : List CacheEntry → List CacheEntry
after_one_left entries = if all_sent entries then drop 1 entries else without_unsent entries

-- the entries after a new one came, before which one left where there were 1,024
abbrev pub with_newcomer : CacheEntry → List CacheEntry → List CacheEntry
with_newcomer entry entries =
    (if nat_lt (length entries) ENTRIES then entries else after_one_left entries) ++ entry ∷ []

-- the entries after an ARP packet of that sender. `for_us`: it asks for the interface or answers it, or a packet waits for
-- its sender. Another packet renews the entry that is there, and adds none (RFC 826, "Packet Reception").
abbrev pub entries_taught : Ip → Mac → Bool → ℕ → List CacheEntry → List CacheEntry
entries_taught address mac for_us now entries =
    if has_entry address.0 entries then with_renewal address.0 mac now entries
    else if for_us then with_newcomer (new_entry address mac now) entries
    else entries

abbrev pub taught : Ip → Mac → Bool → ℕ → Neighbours → Neighbours
taught address mac for_us now known =
    record known { learnt = entries_taught address mac for_us now known.learnt }

-- the first fixed neighbour of that address
abbrev pub fixed_mac : ℕ → List Neighbour → Option Mac
fixed_mac address [] = None
fixed_mac address (n ∷ neighbours) =
    if n.address.0 == address then Some n.mac else fixed_mac address neighbours

-- the first valid entry of that address: fewer than 120,000 centiseconds old
abbrev pub learnt_mac : ℕ → ℕ → List CacheEntry → Option Mac
learnt_mac address now [] = None
learnt_mac address now (e ∷ entries) =
    if e.address.0 == address && nat_lt (now - e.at) VALID_FOR then Some e.mac
    else learnt_mac address now entries

-- the first value where there is one, else the other
abbrev pub or_else : {X : Type 0} → Option X → Option X → Option X
or_else None other = other
or_else (Some x) other = Some x

abbrev pub mac_at : ℕ → ℕ → Neighbours → Option Mac
mac_at address now known =
    or_else (fixed_mac address known.fixed) (learnt_mac address now known.learnt)

-- an entry is old: its last renewal gave it another hardware address, or it was learnt or renewed 3,000 centiseconds
-- ago or more
abbrev pub is_old : ℕ → CacheEntry → Bool
is_old now e = e.changed || nat_le RENEWED_AFTER (now - e.at)

-- a request for an entry is due behind a packet sent by it: it is old, and it was learnt, and last requested behind
-- such a packet, 100 centiseconds ago or more
abbrev pub wants_asking : ℕ → CacheEntry → Bool
wants_asking now e = is_old now e && nat_le ASKED_AFTER (now - e.asked)

-- an entry after a packet was sent by it, and the request for it where one was due
abbrev pub sent_entry : ℕ → CacheEntry → CacheEntry
sent_entry now e = record e { sent = true; asked = if wants_asking now e then now else e.asked }

-- the entry of that address, if it has one, after a packet was sent by it
abbrev pub sent_if : ℕ → ℕ → CacheEntry → CacheEntry
sent_if address now e = if e.address.0 == address then sent_entry now e else e

abbrev pub learnt_sent : ℕ → ℕ → List CacheEntry → List CacheEntry
learnt_sent address now entries = map (sent_if address now) entries

-- a request is due for a learnt entry of that address
abbrev pub learnt_asks : ℕ → ℕ → List CacheEntry → Bool
learnt_asks address now entries =
    list_any (λ e. e.address.0 == address && wants_asking now e) entries

-- after a packet to that address a request for it is due; for a fixed neighbour none is
abbrev pub asks_at : ℕ → ℕ → Neighbours → Bool
asks_at address now known =
    not (is_some (fixed_mac address known.fixed)) && learnt_asks address now known.learnt

-- the neighbours after a packet was sent to that address. A packet to a fixed neighbour is sent by no learnt entry.
abbrev pub sent_at : ℕ → ℕ → Neighbours → Neighbours
sent_at address now known =
    if is_some (fixed_mac address known.fixed) then known
    else record known { learnt = learnt_sent address now known.learnt }

-- what decides whom an interface learns
pub record Learner : Type 0 where
  pub network : Ip
  pub length : ℕ
  pub primary_ip : Ip
  pub virtual_ip : Ip

abbrev pub learner_of : Interface → Learner
learner_of i = record {
  network = i.network.address;
  length = i.network.length;
  primary_ip = i.primary_ip;
  virtual_ip = i.virtual_ip;
}

-- a sender that is learnt: one of the interface's network, other than its primary and its virtual address, with the
-- hardware address of one station
pub record IsLearnable (learner : Learner) (sender : Neighbour) : Type 0 where
  pub near : IsIn sender.address.0 learner.network.0 learner.length
  pub not_primary : sender.address ≢ learner.primary_ip
  pub not_virtual : sender.address ≢ learner.virtual_ip
  pub not_zero : sender.mac.0 ≢ replicate 6 0
  pub one_station : slice_index sender.mac.0 0 % 2 ≡ 0
