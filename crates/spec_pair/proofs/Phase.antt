-- The phase of a port between its owner and the other gateway: both slots, and the records under way on the port,
-- follow from it.
use Rattle.std.specs.Prelude.{◌≡◌, ◌⊎◌, Bool, true, false, cond, List, [], ◌∷◌, IsTrue, Option, Some, None}
use Rattle.nat_types.specs.Same.{other, same_key, same}
use Rattle.nat_types.specs.declared.gateways.GatewayId.{GatewayId}
use Rattle.nat_types.specs.declared.gateways.GatewayId.TheVariants.{Zero, One}
use Rattle.nat_types.specs.declared.pairs.Endpoint.{Endpoint}
use Rattle.nat_types.specs.declared.pairs.Key.{Key}
use Rattle.spec_pair.specs.Talk.{Slot, Free, Pending, Doomed, Live, Closing, Held, Alone, MachineRecord, Install, Accept, Refuse, Ask, Yes, No, Begin, Put, Done, Want, Grant, Owner, Tell, on, held, set_at, Deed, Propose, Close, Use, Mark, MakeAlone, Report, DropAlone, Agree, Yield, Reject, Adopt, Decline, Agreed, Rejected, Rebuffed, Leave, Stay, Left, Parted, Stayed, Pass, Skip, IsLost, IsUnbound, translated}

-- The phase of a port between the two gateways. Proposed, Accepted, Refused: an Install, its Accept or its Refuse is
-- under way. Told: a Tell is under way. GivenUp, GivenUpRefused: the Install, or its Refuse, of a proposal given up is
-- under way. Shared: the pair is agreed, and nothing is under way. Asked, Staying, Leaving: an Ask, its No or its Yes is
-- under way. Apart: the owner has the pair alone, and nothing is under way. `marked` says whether the owner's entry is.
pub data Phase : Type 0 where
  Nothing : Phase
  Proposed : (marked : Bool) (endpoint : Endpoint) → Phase
  Told : (endpoint : Endpoint) → Phase
  Accepted : (marked : Bool) (endpoint : Endpoint) → Phase
  Refused : (marked : Bool) (endpoint : Endpoint) → Phase
  GivenUp : (endpoint : Endpoint) → Phase
  GivenUpRefused : (endpoint : Endpoint) → Phase
  Shared : (endpoint : Endpoint) → Phase
  Asked : (marked : Bool) (endpoint : Endpoint) → Phase
  Staying : (marked : Bool) (endpoint : Endpoint) → Phase
  Leaving : (marked : Bool) (endpoint : Endpoint) → Phase
  Apart : (endpoint : Endpoint) → Phase

-- what follows from a phase
pub record State : Type 0 where
  pub owner : Slot
  pub other : Slot
  -- the records under way on the port: from the owner, and to it
  pub out : Key → List MachineRecord
  pub back : Key → List MachineRecord

abbrev pub state : Slot → Slot → (Key → List MachineRecord) → (Key → List MachineRecord) → State
state owner other out back = record { owner = owner; other = other; out = out; back = back }

-- no record is under way
abbrev pub none : Key → List MachineRecord
none k = []

-- The table of states: owner's slot, other's slot, out, back.
abbrev pub state_of : Phase → State
state_of Nothing = state Free Free none none
state_of (Proposed m e) = state (Pending m e) Free (λ k. Install k e ∷ []) none
state_of (Told e) = state (Pending true e) Free (λ k. Tell k e ∷ []) none
state_of (Accepted m e) = state (Pending m e) (Held e) none (λ k. Accept k ∷ [])
state_of (Refused m e) = state (Pending m e) Free none (λ k. Refuse k ∷ [])
state_of (GivenUp e) = state (Doomed e) Free (λ k. Install k e ∷ []) none
state_of (GivenUpRefused e) = state (Doomed e) Free none (λ k. Refuse k ∷ [])
state_of (Shared e) = state (Live e) (Held e) none none
state_of (Asked m e) = state (Closing m e) (Held e) (λ k. Ask k ∷ []) none
state_of (Staying m e) = state (Closing m e) (Held e) none (λ k. No k ∷ [])
state_of (Leaving m e) = state (Closing m e) Free none (λ k. Yes k ∷ [])
state_of (Apart e) = state (Alone e) Free none none

-- The columns of the table of states, one function each.
abbrev pub owner_slot : Phase → Slot
owner_slot p = (state_of p).owner

abbrev pub other_slot : Phase → Slot
other_slot p = (state_of p).other

abbrev pub from_owner : Key → Phase → List MachineRecord
from_owner k p = (state_of p).out k

abbrev pub to_owner : Key → Phase → List MachineRecord
to_owner k p = (state_of p).back k

-- the endpoint of the owner's pair
abbrev pub named : Phase → Option Endpoint
named p = held (owner_slot p)

-- the endpoint, where both hold the pair
abbrev pub shared : Phase → Option Endpoint
shared p = held (other_slot p)

-- the endpoint of a pair that its gateway has alone, or marked
abbrev pub alone_in : Slot → Option Endpoint
alone_in Free = None
alone_in (Pending true e) = Some e
alone_in (Pending false e) = None
alone_in (Doomed e) = None
alone_in (Live e) = None
alone_in (Closing true e) = Some e
alone_in (Closing false e) = None
alone_in (Held e) = None
alone_in (Alone e) = Some e

-- the endpoint, where the owner has the pair alone, or marked
abbrev pub single : Phase → Option Endpoint
single p = alone_in (owner_slot p)

-- the endpoint of a pair that is asked to be closed, and not marked
abbrev pub closed_in : Slot → Option Endpoint
closed_in Free = None
closed_in (Pending m e) = None
closed_in (Doomed e) = None
closed_in (Live e) = None
closed_in (Closing true e) = None
closed_in (Closing false e) = Some e
closed_in (Held e) = None
closed_in (Alone e) = None

-- the endpoint, where the owner has let the pair go
abbrev pub closing : Phase → Option Endpoint
closing p = closed_in (owner_slot p)

-- the first of two, where there is one, else the second
abbrev pub first_of : Option Endpoint → Option Endpoint → Option Endpoint
first_of None o = o
first_of (Some e) o = Some e

-- The endpoint of a pair that may be open: one that both hold, or one that its owner has alone, or marked. `counts` says
-- whether the owner is synced.
abbrev pub covered : Bool → Phase → Option Endpoint
covered counts p = first_of (shared p) (cond counts (single p) None)

-- the endpoint, where an Accept is under way
abbrev pub accepted : Phase → Option Endpoint
accepted Nothing = None
accepted (Proposed m e) = None
accepted (Told e) = None
accepted (Accepted m e) = Some e
accepted (Refused m e) = None
accepted (GivenUp e) = None
accepted (GivenUpRefused e) = None
accepted (Shared e) = None
accepted (Asked m e) = None
accepted (Staying m e) = None
accepted (Leaving m e) = None
accepted (Apart e) = None

-- the proposal was given up
abbrev pub is_given_up : Phase → Bool
is_given_up Nothing = false
is_given_up (Proposed m e) = false
is_given_up (Told e) = false
is_given_up (Accepted m e) = false
is_given_up (Refused m e) = false
is_given_up (GivenUp e) = true
is_given_up (GivenUpRefused e) = true
is_given_up (Shared e) = false
is_given_up (Asked m e) = false
is_given_up (Staying m e) = false
is_given_up (Leaving m e) = false
is_given_up (Apart e) = false

-- the slot of a gateway at a port, by whether the port is its own
abbrev pub slot_at : Bool → Phase → Slot
slot_at own p = cond own (owner_slot p) (other_slot p)

-- the records under way from a gateway on the port
abbrev pub flight_at : Bool → Key → Phase → List MachineRecord
flight_at own k p = cond own (from_owner k p) (to_owner k p)

-- whether an Accept of the port is under way
abbrev pub has_accept : Key → List MachineRecord → Bool
has_accept k [] = false
has_accept k (Install q e ∷ rs) = has_accept k rs
has_accept k (Accept q ∷ rs) = cond (same_key k q) true (has_accept k rs)
has_accept k (Refuse q ∷ rs) = has_accept k rs
has_accept k (Ask q ∷ rs) = has_accept k rs
has_accept k (Yes q ∷ rs) = has_accept k rs
has_accept k (No q ∷ rs) = has_accept k rs
has_accept k (Begin ∷ rs) = has_accept k rs
has_accept k (Put q e ∷ rs) = has_accept k rs
has_accept k (Done ∷ rs) = has_accept k rs
has_accept k (Want ∷ rs) = has_accept k rs
has_accept k (Grant ps ∷ rs) = has_accept k rs
has_accept k (Owner a b ∷ rs) = has_accept k rs
has_accept k (Tell q e ∷ rs) = has_accept k rs

-- after each Install that was given up comes the Accept, of another port for its endpoint, for which it was given up
abbrev pub Excused : (Key → Phase) → List MachineRecord → Type 0
Excused phase [] = Unit {0}
Excused phase (Install k e ∷ rs) = (phase k ≡ GivenUp e → (q : Key) × (accepted (phase q) ≡ Some e) × IsTrue (has_accept q rs)) × Excused phase rs
Excused phase (Accept q ∷ rs) = Excused phase rs
Excused phase (Refuse q ∷ rs) = Excused phase rs
Excused phase (Ask q ∷ rs) = Excused phase rs
Excused phase (Yes q ∷ rs) = Excused phase rs
Excused phase (No q ∷ rs) = Excused phase rs
Excused phase (Begin ∷ rs) = Excused phase rs
Excused phase (Put q e ∷ rs) = Excused phase rs
Excused phase (Done ∷ rs) = Excused phase rs
Excused phase (Want ∷ rs) = Excused phase rs
Excused phase (Grant ps ∷ rs) = Excused phase rs
Excused phase (Owner a b ∷ rs) = Excused phase rs
Excused phase (Tell q e ∷ rs) = Excused phase rs

-- the phase after a Refuse is pushed
abbrev pub refuse : Phase → Phase
refuse (Proposed m e) = Refused m e
refuse (GivenUp e) = GivenUpRefused e
refuse p = p

-- the phase after an Accept of a proposal is pushed
abbrev pub accept : Phase → Phase
accept (Proposed m e) = Accepted m e
accept p = p

-- the phase after the proposal is given up
abbrev pub give_up : Phase → Phase
give_up (Proposed m e) = GivenUp e
give_up (Refused m e) = GivenUpRefused e
give_up p = p

-- the phase after the owner's entry is marked
abbrev pub set_apart : Phase → Phase
set_apart (Proposed m e) = Proposed true e
set_apart (Accepted m e) = Accepted true e
set_apart (Refused m e) = Refused true e
set_apart (Asked m e) = Asked true e
set_apart (Staying m e) = Staying true e
set_apart (Leaving m e) = Leaving true e
set_apart p = p

-- the phase after a Yes is pushed
abbrev pub leave : Phase → Phase
leave (Asked m e) = Leaving m e
leave p = p

-- the phase after a No is pushed
abbrev pub stay : Phase → Phase
stay (Asked m e) = Staying m e
stay p = p

-- the phases after a deed
abbrev pub phase_after : (Key → Phase) → Deed → Key → Phase
phase_after phase (Propose k e) = set_at phase k (Proposed false e)
phase_after phase (Close k e) = set_at phase k (Asked false e)
phase_after phase (Use k e counts) = phase
phase_after phase (Mark k e) = set_at phase k (set_apart (phase k))
phase_after phase (MakeAlone k e) = set_at phase k (Apart e)
phase_after phase (Report k e) = set_at phase k (Told e)
phase_after phase (DropAlone k e) = set_at phase k Nothing
phase_after phase (Agree k e) = set_at phase k (accept (phase k))
phase_after phase (Yield k e q) = set_at (set_at phase q (give_up (phase q))) k (accept (phase k))
phase_after phase (Reject k e) = set_at phase k (refuse (phase k))
phase_after phase (Adopt k e) = set_at phase k (Accepted true e)
phase_after phase (Decline k e) = set_at phase k (Refused true e)
phase_after phase (Agreed k e) = set_at phase k (Shared e)
phase_after phase (Rejected k) = set_at phase k Nothing
phase_after phase (Rebuffed k e) = set_at phase k (Apart e)
phase_after phase (Leave k e) = set_at phase k (leave (phase k))
phase_after phase (Stay k e) = set_at phase k (stay (phase k))
phase_after phase (Left k e) = set_at phase k Nothing
phase_after phase (Parted k e) = set_at phase k (Apart e)
phase_after phase (Stayed k e) = set_at phase k (Shared e)
phase_after phase (Pass k) = phase
phase_after phase (Skip r) = phase

-- whether gateway i owns the port of a key, by whose each is
abbrev pub owns : (Key → GatewayId) → GatewayId → Key → Bool
owns owner i k = same i (owner k)

module _ (owned : Key → Bool) where
  -- whether gateway i may do a deed, where it is known whose each key is
  abbrev pub MayDoOwned : GatewayId → (Key → Slot) → Deed → Type 0
  MayDoOwned i table (Propose k e) = IsTrue (owned k) × (table k ≡ Free) × IsUnbound table e
  MayDoOwned i table (Close k e) = IsTrue (owned k) × (table k ≡ Live e)
  MayDoOwned i table (Use k e counts) = translated (table k) ≡ Some e
  MayDoOwned i table (Mark k e) = IsTrue (owned k) × ((table k ≡ Pending false e) ⊎ (table k ≡ Closing false e))
  MayDoOwned i table (MakeAlone k e) = IsTrue (owned k) × (table k ≡ Free) × IsUnbound table e
  MayDoOwned i table (Report k e) = IsTrue (owned k) × (table k ≡ Alone e)
  MayDoOwned i table (DropAlone k e) = IsTrue (owned k) × (table k ≡ Alone e)
  MayDoOwned i table (Agree k e) = (table k ≡ Free) × IsUnbound table e
  MayDoOwned i table (Yield k e q) = (i ≡ One) × (table k ≡ Free) × IsTrue (owned q) × (table q ≡ Pending false e)
  MayDoOwned i table (Reject k e) = Unit {0}
  MayDoOwned i table (Adopt k e) = table k ≡ Free
  MayDoOwned i table (Decline k e) = Unit {0}
  MayDoOwned i table (Agreed k e) = IsTrue (owned k) × ((m : Bool) × (table k ≡ Pending m e))
  MayDoOwned i table (Rejected k) = IsTrue (owned k) × ((e : Endpoint) × ((table k ≡ Pending false e) ⊎ (table k ≡ Doomed e)))
  MayDoOwned i table (Rebuffed k e) = IsTrue (owned k) × (table k ≡ Pending true e)
  MayDoOwned i table (Leave k e) = table k ≡ Held e
  MayDoOwned i table (Stay k e) = table k ≡ Held e
  MayDoOwned i table (Left k e) = IsTrue (owned k) × (table k ≡ Closing false e)
  MayDoOwned i table (Parted k e) = IsTrue (owned k) × (table k ≡ Closing true e)
  MayDoOwned i table (Stayed k e) = IsTrue (owned k) × ((m : Bool) × (table k ≡ Closing m e))
  MayDoOwned i table (Pass k) = (e : Endpoint) → table k ≡ Held e → ⊥
  MayDoOwned i table (Skip r) = IsLost owned table r

module _ (owner : Key → GatewayId) where
  -- one gateway's table, and the records under way from it, are as the ports' phases say
  pub record Matches (phase : Key → Phase) (i : GatewayId) (table : Key → Slot) (flight : List MachineRecord) : Type 0 where
    pub slots : (k : Key) → table k ≡ slot_at (owns owner i k) (phase k)
    pub flights : (k : Key) → on k flight ≡ flight_at (owns owner i k) k (phase k)

  -- Both gateways' tables and records are. Only gateway 1 gives proposals up, and each of those is excused.
  pub record Talks (i : GatewayId) (mine : Key → Slot) (out : List MachineRecord) (theirs : Key → Slot) (inn : List MachineRecord) (phase : Key → Phase) : Type 0 where
    pub here : Matches phase i mine out
    pub there : Matches phase (other i) theirs inn
    pub excused_out : i ≡ One → Excused phase out
    pub excused_in : i ≡ Zero → Excused phase inn
    pub steady : (k : Key) → owner k ≡ Zero → is_given_up (phase k) ≡ false
    -- an endpoint has one pair on the ports of each gateway
    pub one_each : (k q : Key) (e : Endpoint) → owner k ≡ owner q → named (phase k) ≡ Some e → named (phase q) ≡ Some e → k ≡ q
    -- a pair on a port of the other gateway stands beside an own one only where its owner has it marked
    pub beside : (k q : Key) (e : Endpoint) → (owner k ≡ owner q → ⊥) → named (phase k) ≡ Some e → phase q ≡ Accepted false e → ⊥
