-- What two gateways hold in their tables and have under way between them, and the deeds: what one of them may do with a
-- pair.
use Rattle.std.specs.Prelude.{◌≡◌, ℕ, Bool, true, false, cond, List, [], ◌∷◌, IsTrue, Option, Some, None, ◌⊎◌}
use Rattle.nat_types.specs.Same.{same_key}
use Rattle.nat_types.specs.declared.gateways.GatewayId.{GatewayId}
use Rattle.nat_types.specs.declared.gateways.GatewayId.TheVariants.{One}
use Rattle.nat_types.specs.declared.notes.NoteKind.{NoteKind}
use Rattle.nat_types.specs.declared.notes.NoteKind.TheVariants.{Used, Released, Retaken}
use Rattle.nat_types.specs.declared.notes.NoteKind.TheVariants as kinds
use Rattle.nat_types.specs.declared.notes.Note.{Note}
use Rattle.nat_types.specs.declared.pairs.Endpoint.{Endpoint}
use Rattle.nat_types.specs.declared.pairs.Key.{Key}
use Rattle.nat_types.specs.declared.pairs.Pair.{Pair}

-- What a gateway's table has at an outside port: nothing, or an endpoint in one of six states. A marked Pending or
-- Closing pair goes on by itself, though the other's answer is awaited. An Alone pair is one of which the other has
-- nothing, and of which nothing is under way.
pub data Slot : Type 0 where
  Free : Slot
  Pending : (marked : Bool) (endpoint : Endpoint) → Slot
  Doomed : (endpoint : Endpoint) → Slot
  Live : (endpoint : Endpoint) → Slot
  Closing : (marked : Bool) (endpoint : Endpoint) → Slot
  Held : (endpoint : Endpoint) → Slot
  Alone : (endpoint : Endpoint) → Slot

-- the endpoint of a pair that the table holds; a doomed entry (a proposal given up) is no pair
abbrev pub held : Slot → Option Endpoint
held Free = None
held (Pending m e) = Some e
held (Doomed e) = None
held (Live e) = Some e
held (Closing m e) = Some e
held (Held e) = Some e
held (Alone e) = Some e

-- the endpoint of a pair with which the gateway translates
abbrev pub translated : Slot → Option Endpoint
translated Free = None
translated (Pending true e) = Some e
translated (Pending false e) = None
translated (Doomed e) = None
translated (Live e) = Some e
translated (Closing true e) = Some e
translated (Closing false e) = None
translated (Held e) = Some e
translated (Alone e) = Some e

-- the endpoint of a pair that is held on this side: of an own pair where `own` is true, else of a Held one
abbrev pub held_on : Bool → Slot → Option Endpoint
held_on own Free = None
held_on own (Pending m e) = cond own (Some e) None
held_on own (Doomed e) = None
held_on own (Live e) = cond own (Some e) None
held_on own (Closing m e) = cond own (Some e) None
held_on own (Held e) = cond own None (Some e)
held_on own (Alone e) = cond own (Some e) None

-- the slot when its pair is marked
abbrev pub mark : Slot → Slot
mark (Pending m e) = Pending true e
mark (Closing m e) = Closing true e
mark s = s

-- a record of the link between the gateways
pub data MachineRecord : Type 0 where
  Install : (key : Key) (endpoint : Endpoint) → MachineRecord
  Accept : (key : Key) → MachineRecord
  Refuse : (key : Key) → MachineRecord
  Ask : (key : Key) → MachineRecord
  Yes : (key : Key) → MachineRecord
  No : (key : Key) → MachineRecord
  Begin : MachineRecord
  Put : (key : Key) (endpoint : Endpoint) → MachineRecord
  Done : MachineRecord
  -- A gateway asks for ports by Want and gets them by Grant. Owner names a run of ports that the sender of a batch
  -- owns.
  Want : MachineRecord
  Grant : (ports : List ℕ) → MachineRecord
  Owner : (first last : ℕ) → MachineRecord
  -- The sender goes on with a pair alone, and tells of it. In a batch it is the Put of a pair whose endpoint has
  -- another.
  Tell : (key : Key) (endpoint : Endpoint) → MachineRecord

-- whether a record of the running protocol is on this port
abbrev pub is_on : Key → MachineRecord → Bool
is_on k (Install q e) = same_key k q
is_on k (Accept q) = same_key k q
is_on k (Refuse q) = same_key k q
is_on k (Ask q) = same_key k q
is_on k (Yes q) = same_key k q
is_on k (No q) = same_key k q
is_on k Begin = false
is_on k (Put q e) = false
is_on k Done = false
is_on k Want = false
is_on k (Grant ports) = false
is_on k (Owner first last) = false
is_on k (Tell q e) = same_key k q

-- the records of the list that are on this port
abbrev pub on : Key → List MachineRecord → List MachineRecord
on k [] = []
on k (r ∷ rs) = cond (is_on k r) (r ∷ on k rs) (on k rs)

-- a function with another value at one place
abbrev pub set_at : {A : Type 0} → (Key → A) → Key → A → Key → A
set_at f k v q = cond (same_key k q) v (f q)

-- What a synced gateway that isn't lone does with a pair. A deed needs no reason: the machine allows any choice.
pub data Deed : Type 0 where
  -- the gateway proposes a pair, asks to close one, or translates with one, where `counts` says whether the use counts
  Propose : (key : Key) (endpoint : Endpoint) → Deed
  Close : (key : Key) (endpoint : Endpoint) → Deed
  Use : (key : Key) (endpoint : Endpoint) (counts : Bool) → Deed
  -- without the other's answer: the gateway marks a pair of which an answer is awaited, makes a pair alone, tells of
  -- one that is alone, or drops one
  Mark : (key : Key) (endpoint : Endpoint) → Deed
  MakeAlone : (key : Key) (endpoint : Endpoint) → Deed
  Report : (key : Key) (endpoint : Endpoint) → Deed
  DropAlone : (key : Key) (endpoint : Endpoint) → Deed
  -- An Install comes. Agree accepts it; Yield accepts it and gives the own proposal for its endpoint up; Reject refuses
  -- it.
  Agree : (key : Key) (endpoint : Endpoint) → Deed
  Yield : (key : Key) (endpoint : Endpoint) (mine : Key) → Deed
  Reject : (key : Key) (endpoint : Endpoint) → Deed
  -- a Tell comes: it is accepted, or refused
  Adopt : (key : Key) (endpoint : Endpoint) → Deed
  Decline : (key : Key) (endpoint : Endpoint) → Deed
  -- an Accept of the own pair comes; a Refuse of one that isn't marked; or a Refuse of a marked one, which is alone
  -- then
  Agreed : (key : Key) (endpoint : Endpoint) → Deed
  Rejected : (key : Key) → Deed
  Rebuffed : (key : Key) (endpoint : Endpoint) → Deed
  -- an Ask comes: it is answered by Yes, and the pair dropped; or by No
  Leave : (key : Key) (endpoint : Endpoint) → Deed
  Stay : (key : Key) (endpoint : Endpoint) → Deed
  -- a Yes to the own Ask comes, where the pair isn't marked, or where it is, and is alone then; or a No comes
  Left : (key : Key) (endpoint : Endpoint) → Deed
  Parted : (key : Key) (endpoint : Endpoint) → Deed
  Stayed : (key : Key) (endpoint : Endpoint) → Deed
  -- an Ask for a pair that isn't held is answered by Yes; a record to which nothing in the table belongs is passed over
  Pass : (key : Key) → Deed
  Skip : (r : MachineRecord) → Deed

-- the record that a deed takes, if any
abbrev pub taken_by : Deed → List MachineRecord
taken_by (Propose k e) = []
taken_by (Close k e) = []
taken_by (Use k e counts) = []
taken_by (Mark k e) = []
taken_by (MakeAlone k e) = []
taken_by (Report k e) = []
taken_by (DropAlone k e) = []
taken_by (Agree k e) = Install k e ∷ []
taken_by (Yield k e q) = Install k e ∷ []
taken_by (Reject k e) = Install k e ∷ []
taken_by (Adopt k e) = Tell k e ∷ []
taken_by (Decline k e) = Tell k e ∷ []
taken_by (Agreed k e) = Accept k ∷ []
taken_by (Rejected k) = Refuse k ∷ []
taken_by (Rebuffed k e) = Refuse k ∷ []
taken_by (Leave k e) = Ask k ∷ []
taken_by (Stay k e) = Ask k ∷ []
taken_by (Left k e) = Yes k ∷ []
taken_by (Parted k e) = Yes k ∷ []
taken_by (Stayed k e) = No k ∷ []
taken_by (Pass k) = Ask k ∷ []
taken_by (Skip r) = r ∷ []

-- the record that a deed pushes, if any
abbrev pub pushed_by : Deed → List MachineRecord
pushed_by (Propose k e) = Install k e ∷ []
pushed_by (Close k e) = Ask k ∷ []
pushed_by (Use k e counts) = []
pushed_by (Mark k e) = []
pushed_by (MakeAlone k e) = []
pushed_by (Report k e) = Tell k e ∷ []
pushed_by (DropAlone k e) = []
pushed_by (Agree k e) = Accept k ∷ []
pushed_by (Yield k e q) = Accept k ∷ []
pushed_by (Reject k e) = Refuse k ∷ []
pushed_by (Adopt k e) = Accept k ∷ []
pushed_by (Decline k e) = Refuse k ∷ []
pushed_by (Agreed k e) = []
pushed_by (Rejected k) = []
pushed_by (Rebuffed k e) = []
pushed_by (Leave k e) = Yes k ∷ []
pushed_by (Stay k e) = No k ∷ []
pushed_by (Left k e) = []
pushed_by (Parted k e) = []
pushed_by (Stayed k e) = []
pushed_by (Pass k) = Yes k ∷ []
pushed_by (Skip r) = []

-- the table after a deed
abbrev pub table_after : (Key → Slot) → Deed → Key → Slot
table_after table (Propose k e) = set_at table k (Pending false e)
table_after table (Close k e) = set_at table k (Closing false e)
table_after table (Use k e counts) = table
table_after table (Mark k e) = set_at table k (mark (table k))
table_after table (MakeAlone k e) = set_at table k (Alone e)
table_after table (Report k e) = set_at table k (Pending true e)
table_after table (DropAlone k e) = set_at table k Free
table_after table (Agree k e) = set_at table k (Held e)
table_after table (Yield k e q) = set_at (set_at table q (Doomed e)) k (Held e)
table_after table (Reject k e) = table
table_after table (Adopt k e) = set_at table k (Held e)
table_after table (Decline k e) = table
table_after table (Agreed k e) = set_at table k (Live e)
table_after table (Rejected k) = set_at table k Free
table_after table (Rebuffed k e) = set_at table k (Alone e)
table_after table (Leave k e) = set_at table k Free
table_after table (Stay k e) = table
table_after table (Left k e) = set_at table k Free
table_after table (Parted k e) = set_at table k (Alone e)
table_after table (Stayed k e) = set_at table k (Live e)
table_after table (Pass k) = table
table_after table (Skip r) = table

-- the pair of a key and an endpoint
abbrev pub pair_of : Key → Endpoint → Pair
pair_of k e = record { key = k; endpoint = e }

-- a note of gateway i, at this time of its clock; a use that it notes counts
abbrev pub note : GatewayId → ℕ → NoteKind → Note
note i moment what = record { by = i; at = moment; what = what; counts = true }

-- gateway i's note of a use of the pair, where `counts` says whether the use counts
abbrev pub use_note : GatewayId → ℕ → Pair → Bool → Note
use_note i moment pair counts =
    record { by = i; at = moment; what = Used pair; counts = counts }

-- the notes that a deed of gateway i makes
abbrev pub noted_by : GatewayId → ℕ → Deed → List Note
noted_by i moment (Propose k e) = []
noted_by i moment (Close k e) = note i moment (Released (pair_of k e)) ∷ []
noted_by i moment (Use k e counts) = use_note i moment (pair_of k e) counts ∷ []
noted_by i moment (Mark k e) = note i moment (kinds.Alone (pair_of k e)) ∷ []
noted_by i moment (MakeAlone k e) = note i moment (kinds.Alone (pair_of k e)) ∷ []
noted_by i moment (Report k e) = []
noted_by i moment (DropAlone k e) = note i moment (Released (pair_of k e)) ∷ []
noted_by i moment (Agree k e) = note i moment (Retaken (pair_of k e)) ∷ []
noted_by i moment (Yield k e q) = note i moment (Retaken (pair_of k e)) ∷ []
noted_by i moment (Reject k e) = []
noted_by i moment (Adopt k e) = note i moment (Retaken (pair_of k e)) ∷ []
noted_by i moment (Decline k e) = []
noted_by i moment (Agreed k e) = note i moment (Retaken (pair_of k e)) ∷ []
noted_by i moment (Rejected k) = []
noted_by i moment (Rebuffed k e) = []
noted_by i moment (Leave k e) = note i moment (Released (pair_of k e)) ∷ []
noted_by i moment (Stay k e) = []
noted_by i moment (Left k e) = []
noted_by i moment (Parted k e) = []
noted_by i moment (Stayed k e) = note i moment (Retaken (pair_of k e)) ∷ []
noted_by i moment (Pass k) = []
noted_by i moment (Skip r) = []

-- no pair of the table has the endpoint
abbrev pub IsUnbound : (Key → Slot) → Endpoint → Type 0
IsUnbound table e = (q : Key) → held (table q) ≡ Some e → ⊥

-- no pair of the table on this side has the endpoint: no own pair where `own` is true, else no Held one
abbrev pub IsUnboundOn : Bool → (Key → Slot) → Endpoint → Type 0
IsUnboundOn own table e = (q : Key) → held_on own (table q) ≡ Some e → ⊥

-- `owned` says whether the gateway owns the port of a key.
module _ (owned : Key → Bool) where
  -- nothing in the table belongs to the record, so the gateway passes over it
  abbrev pub IsLost : (Key → Slot) → MachineRecord → Type 0
  IsLost table (Install k e) = ⊥
  IsLost table (Accept k) =
      (m : Bool) (e : Endpoint) → IsTrue (owned k) → table k ≡ Pending m e → ⊥
  IsLost table (Refuse k) =
      (m : Bool) (e : Endpoint) → IsTrue (owned k)
      → ((table k ≡ Pending m e) ⊎ (table k ≡ Doomed e)) → ⊥
  IsLost table (Ask k) = ⊥
  IsLost table (Yes k) =
      (m : Bool) (e : Endpoint) → IsTrue (owned k) → table k ≡ Closing m e → ⊥
  IsLost table (No k) = (m : Bool) (e : Endpoint) → IsTrue (owned k) → table k ≡ Closing m e → ⊥
  IsLost table Begin = Unit {0}
  IsLost table (Put k e) = Unit {0}
  IsLost table Done = Unit {0}
  IsLost table Want = ⊥
  IsLost table (Grant ports) = ⊥
  IsLost table (Owner first last) = Unit {0}
  IsLost table (Tell k e) = ⊥

  -- whether gateway i may do the deed: only an owner's slot is Pending, Doomed, Live,
  -- Closing or Alone
  abbrev pub MayDo : GatewayId → (Key → Slot) → Deed → Type 0
  MayDo i table (Propose k e) = IsTrue (owned k) × (table k ≡ Free) × IsUnbound table e
  MayDo i table (Close k e) = table k ≡ Live e
  MayDo i table (Use k e counts) = translated (table k) ≡ Some e
  MayDo i table (Mark k e) = (table k ≡ Pending false e) ⊎ (table k ≡ Closing false e)
  MayDo i table (MakeAlone k e) = IsTrue (owned k) × (table k ≡ Free) × IsUnbound table e
  MayDo i table (Report k e) = table k ≡ Alone e
  MayDo i table (DropAlone k e) = table k ≡ Alone e
  MayDo i table (Agree k e) = (table k ≡ Free) × IsUnbound table e
  MayDo i table (Yield k e q) = (i ≡ One) × (table k ≡ Free) × (table q ≡ Pending false e)
  MayDo i table (Reject k e) = Unit {0}
  MayDo i table (Adopt k e) = (table k ≡ Free) × IsUnboundOn false table e
  MayDo i table (Decline k e) = Unit {0}
  MayDo i table (Agreed k e) = (m : Bool) × (table k ≡ Pending m e)
  MayDo i table (Rejected k) =
      (e : Endpoint) × ((table k ≡ Pending false e) ⊎ (table k ≡ Doomed e))
  MayDo i table (Rebuffed k e) = table k ≡ Pending true e
  MayDo i table (Leave k e) = table k ≡ Held e
  MayDo i table (Stay k e) = table k ≡ Held e
  MayDo i table (Left k e) = table k ≡ Closing false e
  MayDo i table (Parted k e) = table k ≡ Closing true e
  MayDo i table (Stayed k e) = (m : Bool) × (table k ≡ Closing m e)
  MayDo i table (Pass k) = (e : Endpoint) → table k ≡ Held e → ⊥
  MayDo i table (Skip r) = IsLost table r
