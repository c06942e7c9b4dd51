-- Loading: what each record makes of the table of a gateway that isn't synced.
use Rattle.std.specs.Prelude.{◌≡◌, ℕ, ◌+◌, ◌-◌, zero, suc, Bool, true, false, ◌&&◌, not, nat_lt, is_none, Option, Some, None, List, [], ◌∷◌, if◌then◌else◌}
use Rattle.std.specs.List.{filter, insert}
use Rattle.nat_types.specs.declared.pairs.EntryState.{EntryState}
use Rattle.nat_types.specs.declared.pairs.EntryState.TheVariants.{Live, Held}
use Rattle.nat_types.specs.declared.pairs.Pair.{Pair}
use Rattle.nat_types.specs.declared.records.Record.{Record}
use Rattle.nat_types.specs.declared.records.Record.TheVariants.{Install, Accept, Refuse, Ask, Yes, No, Begin, Put, Done, Want, Grant, Owner, Tell}
use Rattle.bindings.specs.declared.entries.Entry.{Entry}
use Rattle.bindings.specs.declared.entries.PortBounds.{PortBounds}
use Rattle.slots.specs.declared.ranks.Rank.TheVariants.{First}
use Rattle.bindings.specs.Entries.{slot_of, entry_of, entry_in, rank_of, is_of_rank, is_taken}
use Rattle.bindings.specs.Lists.{place_in, put_in}
use Rattle.bindings.specs.Lives.{KeepsOthers}
use Rattle.bindings.specs.Ports.{in_either}
use Rattle.bindings.specs.Runs.{all_ports}
use Rattle.bindings.specs.Table.{Table, IsPast}
use Rattle.activity.specs.Lives.{Activity, came, life_begun}
use Rattle.resync.specs.declared.loading.Loaded.{Loaded}
use Rattle.resync.specs.declared.loading.Loaded.TheVariants.{Prepared, Paired, Whole}
use Rattle.port_range.specs.Ports.{is_listed, is_within}

-- The load: a table as it is loaded, with its two ranges, whether Begin was taken (and Done not yet), the last port that an Owner named, the entries, and the ports that the gateway is to own.
pub record Load : Type 0 where
  pub zero : PortBounds
  pub one : PortBounds
  pub begun : Bool
  pub named : ℕ
  pub entries : List Entry
  pub owned : List ℕ

-- The progress of a loading: its two ranges, whether Begin was taken (and Done not yet), and the last port named.
pub record Progress : Type 0 where
  pub zero : PortBounds
  pub one : PortBounds
  pub begun : Bool
  pub named : ℕ

abbrev pub fresh : PortBounds → PortBounds → Progress
fresh z o = record { zero = z; one = o; begun = false; named = 0 }

-- the load of a progress and the table that it loads
abbrev pub load_of : Progress → Table → Load
load_of p t = record { zero = t.zero; one = t.one; begun = p.begun; named = p.named; entries = t.entries; owned = t.owned }

-- the ports but those from first to last
abbrev pub unnamed : ℕ → ℕ → List ℕ → List ℕ
unnamed first last owned = filter (λ p. not (is_within first last p)) owned

-- whether so many ports from this one on lie in the ranges
abbrev pub all_in : PortBounds → PortBounds → ℕ → ℕ → Bool
all_in z o first zero = true
all_in z o first (suc k) = in_either z o first && all_in z o (first + 1) k

-- whether a run is an Owner's in its place: above the one before, not ending before it begins, and within the ranges
abbrev pub names_run : Load → ℕ → ℕ → Bool
names_run l first last =
    nat_lt l.named first && (not (nat_lt last first) && all_in l.zero l.one first (last + 1 - first))

-- whether no pair is loaded yet
abbrev pub none_yet : List Entry → Bool
none_yet [] = true
none_yet (x ∷ xs) = false

-- whether a pair is a Put's in its place: on a port of the ranges, and new in key and endpoint
abbrev pub is_new : Load → Pair → Bool
is_new l p = in_either l.zero l.one p.key.port.0
    && (is_none (slot_of l.entries p.key) && is_none (entry_of l.entries p.endpoint))

-- a loaded pair is Live on a port that the gateway is to own, else Held
abbrev pub loaded_state : List ℕ → ℕ → EntryState
loaded_state owned port = (if is_listed port owned then Live else Held)

-- whether there is an entry of an own pair
abbrev pub is_own_entry : Option Entry → Bool
is_own_entry None = false
is_own_entry (Some e) = is_of_rank First e.state

-- whether a pair is a Tell's in its place: on a port of the ranges, new in key, and its endpoint has no pair on a port of the same gateway
abbrev pub is_beside : Load → Pair → Bool
is_beside l p = in_either l.zero l.one p.key.port.0
    && (is_none (slot_of l.entries p.key) && not (is_taken (rank_of (loaded_state l.owned p.key.port.0)) l.entries p.endpoint))

-- Begin empties the table, and all ports are to be owned until an Owner names them
abbrev pub begun : Load → Load
begun l = record l { begun = true; named = 0; entries = []; owned = all_ports l.zero l.one }

abbrev pub with_run : Load → ℕ → ℕ → Load
with_run l first last = record l { named = last; owned = unnamed first last l.owned }

abbrev pub with_pair : Load → Pair → Load
with_pair l p = record l { entries = put_in (entry_in (loaded_state l.owned p.key.port.0) p) l.entries }

-- the load after a record, where the record is in its place
abbrev pub where_ : Bool → Load → Option Load
where_ place l = (if place then Some l else None)

-- the load after this record, or None where the record is out of its place
abbrev pub loaded : Load → Record → Option Load
loaded l (Install p) = None
loaded l (Accept k) = None
loaded l (Refuse k) = None
loaded l (Ask k) = None
loaded l (Yes k) = None
loaded l (No k) = None
loaded l Begin = Some (begun l)
loaded l (Put p) = where_ (l.begun && is_new l p) (with_pair l p)
loaded l Done = where_ l.begun (record l { begun = false })
loaded l Want = None
loaded l (Grant g) = None
loaded l (Owner first last) = where_ (l.begun && (none_yet l.entries && names_run l first.0 last.0)) (with_run l first.0 last.0)
loaded l (Tell p) = where_ (l.begun && is_beside l p) (with_pair l p)

-- ---- what else is said of a record in its place

-- whether the record adds its pair
abbrev pub adds_pair : Record → Bool
adds_pair (Install p) = false
adds_pair (Accept k) = false
adds_pair (Refuse k) = false
adds_pair (Ask k) = false
adds_pair (Yes k) = false
adds_pair (No k) = false
adds_pair Begin = false
adds_pair (Put p) = true
adds_pair Done = false
adds_pair Want = false
adds_pair (Grant g) = false
adds_pair (Owner first last) = false
adds_pair (Tell p) = true

-- the effect of the record: it added its pair, ended the loading, or prepared the table
abbrev pub what_of : Record → Loaded
what_of (Install p) = Prepared
what_of (Accept k) = Prepared
what_of (Refuse k) = Prepared
what_of (Ask k) = Prepared
what_of (Yes k) = Prepared
what_of (No k) = Prepared
what_of Begin = Prepared
what_of (Put p) = Paired
what_of Done = Whole
what_of Want = Prepared
what_of (Grant g) = Prepared
what_of (Owner first last) = Prepared
what_of (Tell p) = Paired

-- a pair takes one of the places that were made ready
abbrev pub ready_after : Record → ℕ → ℕ
ready_after r ready = (if adds_pair r then ready - 1 else ready)

-- a pair's life begins now, not by Install; Begin leaves none
abbrev pub lives_taken : ℕ → Record → List Entry → List Activity → List Activity
lives_taken now (Install p) es ls = ls
lives_taken now (Accept k) es ls = ls
lives_taken now (Refuse k) es ls = ls
lives_taken now (Ask k) es ls = ls
lives_taken now (Yes k) es ls = ls
lives_taken now (No k) es ls = ls
lives_taken now Begin es ls = []
lives_taken now (Put p) es ls = insert ls (place_in p es) (life_begun false now)
lives_taken now Done es ls = ls
lives_taken now Want es ls = ls
lives_taken now (Grant g) es ls = ls
lives_taken now (Owner first last) es ls = ls
lives_taken now (Tell p) es ls = insert ls (place_in p es) (life_begun false now)

-- the clause on lives, of any past: a pair's life begins now, not by Install, and other lives go on; Begin leaves none
abbrev pub LivesGoOn : ℕ → Record → Table → Table → Type 0
LivesGoOn now (Install p) old new = new.lives ≡ old.lives
LivesGoOn now (Accept k) old new = new.lives ≡ old.lives
LivesGoOn now (Refuse k) old new = new.lives ≡ old.lives
LivesGoOn now (Ask k) old new = new.lives ≡ old.lives
LivesGoOn now (Yes k) old new = new.lives ≡ old.lives
LivesGoOn now (No k) old new = new.lives ≡ old.lives
LivesGoOn now Begin old new = new.lives ≡ []
LivesGoOn now (Put p) old new = IsPast new p.key (came false now) × KeepsOthers p.key old.entries old.lives new.entries new.lives
LivesGoOn now Done old new = new.lives ≡ old.lives
LivesGoOn now Want old new = new.lives ≡ old.lives
LivesGoOn now (Grant g) old new = new.lives ≡ old.lives
LivesGoOn now (Owner first last) old new = new.lives ≡ old.lives
LivesGoOn now (Tell p) old new = IsPast new p.key (came false now) × KeepsOthers p.key old.entries old.lives new.entries new.lives
