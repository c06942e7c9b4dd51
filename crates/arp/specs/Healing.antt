-- What becomes of an entry whose hardware address an ARP packet changed.
use Rattle.std.specs.Prelude.{◌≡◌, ℕ, Bool, true, not, ◌==◌, List, [], ◌∷◌, None}
use Rattle.std.specs.List.{list_all}
use Rattle.addresses.specs.declared.ethernet.Mac.{Mac}
use Rattle.addresses.specs.declared.internet.Ip.{Ip}
use Rattle.arp.specs.declared.caches.CacheEntry.{CacheEntry}
use Rattle.arp.specs.Neighbours.{Neighbours, entries_of, fixed_mac, has_entry, sent_at, taught}

-- a call of a cache: it hears an ARP packet of a sender, or a packet is sent to an address
pub data Call : Type 0 where
  Heard : (address : Ip) (mac : Mac) (for_us : Bool) (now : ℕ) → Call
  SentTo : (address now : ℕ) → Call

abbrev pub after_call : Call → Neighbours → Neighbours
after_call (Heard address mac for_us now) known = taught address mac for_us now known
after_call (SentTo address now) known = sent_at address now known

-- the neighbours after calls, in their order
abbrev pub after_calls : List Call → Neighbours → Neighbours
after_calls [] known = known
after_calls (call ∷ calls) known = after_calls calls (after_call call known)

-- a call is of another address
abbrev pub is_of_other : ℕ → Call → Bool
is_of_other address (Heard other mac for_us now) = not (other.0 == address)
is_of_other address (SentTo other now) = not (other == address)

-- `known` became `later`: an ARP packet of an entry's address, with a hardware address, came at the time `at`, and then
-- calls of other addresses; the address is no fixed neighbour's, and its entry is still there
pub record IsAfterPacket (known : Neighbours) (e : CacheEntry) (mac : Mac) (at : ℕ) (later : Neighbours) : Type 0 where
  pub entry : entries_of e.address.0 known.learnt ≡ e ∷ []
  pub not_fixed : fixed_mac e.address.0 known.fixed ≡ None
  pub for_us : Bool
  pub calls : List Call
  pub others : list_all (is_of_other e.address.0) calls ≡ true
  pub after : later ≡ after_calls calls (taught e.address mac for_us at known)
  pub stays : has_entry e.address.0 later.learnt ≡ true
