-- The lives of a table's entries: the first entry has the first life, and so on.
use Rattle.std.specs.Prelude.{◌≡◌, ℕ, Bool, true, false, ◌&&◌, List, [], ◌∷◌, Option, Some, None, slice_index_or, slice_set, if◌then◌else◌}
use Rattle.nat_types.specs.declared.pairs.EntryState.{EntryState}
use Rattle.nat_types.specs.declared.pairs.EntryState.TheVariants.{Pending, Doomed, Live, Closing, Alone, Held}
use Rattle.nat_types.specs.declared.pairs.Key.{Key}
use Rattle.nat_types.specs.Same.{same_key}
use Rattle.addresses.specs.declared.transport.Protocol.{Protocol}
use Rattle.activity.specs.declared.packets.Packet.{Packet}
use Rattle.activity.specs.Lives.{History, Activity, Agrees, counts_at, looks_idle}
use Rattle.std.specs.List.{list_any}
use Rattle.bindings.specs.declared.entries.Entry.{Entry}
use Rattle.bindings.specs.Entries.{has_key}

-- the life of a key's entry
abbrev pub life_in : List Entry → List Activity → Key → Option Activity
life_in [] ls key = None
life_in (e ∷ es) [] key = None
life_in (e ∷ es) (l ∷ ls) key = (if has_key key e then Some l else life_in es ls key)

-- the lives, that of the key changed
abbrev pub lives_with : (Activity → Activity) → Key → List Entry → List Activity → List Activity
lives_with change key [] ls = ls
lives_with change key (e ∷ es) [] = []
lives_with change key (e ∷ es) (l ∷ ls) =
    (if has_key key e then change l ∷ ls else l ∷ lives_with change key es ls)

-- the lives but that of the key
abbrev pub lives_without : Key → List Entry → List Activity → List Activity
lives_without key [] ls = ls
lives_without key (e ∷ es) [] = []
lives_without key (e ∷ es) (l ∷ ls) = (if has_key key e then ls else l ∷ lives_without key es ls)

-- the entry of a key agrees with a past
abbrev pub HasPast : List Entry → List Activity → Key → History → Type 0
HasPast es ls key past = (life : Activity) × (life_in es ls key ≡ Some life) × Agrees key.protocol past life

-- each key's entry but this one's agrees with the pasts with which it agreed before
abbrev pub KeepsOthers : Key → List Entry → List Activity → List Entry → List Activity → Type 0
KeepsOthers key es ls es2 ls2 =
    (q : Key) (past : History) → same_key key q ≡ false → HasPast es ls q past → HasPast es2 ls2 q past

-- the life at a place was written, and its past went on
pub record IsLifeSet (protocol : Protocol) (goes : History → History) (old new : List Activity) (i : ℕ) : Type 0 where
  pub life : Activity
  pub written : new ≡ slice_set old i life
  pub agrees : (past : History) → Agrees protocol past (slice_index_or old i life) → Agrees protocol (goes past) life

-- ---- idle pairs

-- an idle entry may be released: a Live or an Alone one, and a Held one where the gateway is lone
abbrev pub may_go : Bool → EntryState → Bool
may_go lone (Pending marked) = false
may_go lone Doomed = false
may_go lone Live = true
may_go lone (Closing marked) = false
may_go lone Alone = true
may_go lone Held = lone

-- an entry with this life is idle and may be released
abbrev pub is_idle_row : Bool → ℕ → Entry → Activity → Bool
is_idle_row lone now e l = may_go lone e.state && looks_idle e.pair.key.protocol l now

-- the keys of the idle entries that may be released, in the order of the list
abbrev pub idle_keys_in : Bool → ℕ → List Entry → List Activity → List Key
idle_keys_in lone now [] ls = []
idle_keys_in lone now (e ∷ es) [] = []
idle_keys_in lone now (e ∷ es) (l ∷ ls) =
    (if is_idle_row lone now e l then e.pair.key ∷ idle_keys_in lone now es ls else idle_keys_in lone now es ls)

-- a key is among these
abbrev pub is_among : Key → List Key → Bool
is_among key keys = list_any (λ k. same_key k key) keys

-- ---- questions about one key's entry

abbrev pub rests_by : Key → ℕ → Option Activity → Bool
rests_by key now None = false
rests_by key now (Some life) = looks_idle key.protocol life now

-- a key's entry is idle by its life; a key without an entry isn't
abbrev pub rests_at : List Entry → List Activity → Key → ℕ → Bool
rests_at es ls key now = rests_by key now (life_in es ls key)

abbrev pub is_unused_by : Option Activity → Bool
is_unused_by None = false
is_unused_by (Some life) = life.is_unused

-- a key's entry came by Install and carried nothing since, by its life; a key without an entry didn't
abbrev pub is_unused_at : List Entry → List Activity → Key → Bool
is_unused_at es ls key = is_unused_by (life_in es ls key)

abbrev pub use_counts_by : Key → Packet → Option Activity → Bool
use_counts_by key p None = false
use_counts_by key p (Some life) = counts_at key.protocol life p

-- The use that a key's pair makes as it carries a packet counts, by the life of its entry: all but those of loose
-- segments and, where `inward_refresh` is false, of packets of UDP and ICMP inward. That of a key without an entry
-- doesn't.
abbrev pub use_counts_at : List Entry → List Activity → Key → Packet → Bool
use_counts_at es ls key p = use_counts_by key p (life_in es ls key)
