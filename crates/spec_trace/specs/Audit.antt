-- The faults that `audit` finds in a trace and the tables of the two gateways.
use Rattle.std.specs.Prelude.{◌≡◌, ℕ, ◌-◌, Bool, List, take, IsTrue, ◌↔◌, ◌⊎◌, ◌||◌, Contains}
use Rattle.nat_types.specs.declared.gateways.GatewayId.{GatewayId}
use Rattle.nat_types.specs.declared.gateways.GatewayId.TheVariants.{Zero, One}
use Rattle.nat_types.specs.declared.pairs.Pair.{Pair}
use Rattle.nat_types.specs.declared.notes.Note.{Note}
use Rattle.spec_trace.specs.declared.checker.AuditFault.{AuditFault}
use Rattle.spec_trace.specs.declared.checker.AuditFault.TheVariants.{NoMemory, NotFits, NotKept, NotSilent}
use Rattle.spec_trace.specs.Past as past
use Rattle.spec_trace.specs.Trace.{OnePort, OneEndpoint, Silent, Kept}

-- a gateway holds a pair where the pair is in that gateway's list: `zero` for gateway 0, `one` for gateway 1
abbrev pub ListsHold : List Pair → List Pair → GatewayId → Pair → Type 0
ListsHold zero one Zero pair = Contains zero pair
ListsHold zero one One pair = Contains one pair

-- a pair that is used after the notes may stand beside a pair that is open after them
abbrev pub DoSuit : List Note → Pair → Pair → Type 0
DoSuit notes used q =
    (q.key ≡ used.key → q.endpoint ≡ used.endpoint)
    × (q.endpoint ≡ used.endpoint → (q.key ≡ used.key → ⊥) →
    IsTrue (past.was_alone used notes || past.was_alone q notes))

-- a pair is held by each synced gateway, or by one to which it is private
abbrev pub IsHeld : List Pair → List Pair → List Note → Pair → Type 0
IsHeld zero one notes pair =
    (gateway : GatewayId) → IsTrue (past.is_synced gateway notes) →
    ListsHold zero one gateway pair ⊎ past.IsHeldApart (ListsHold zero one) pair notes

-- the trace fits, save for pairs that were alone: One port and One endpoint hold of it
abbrev pub FitsUnlessAlone : List Note → Type 0
FitsUnlessAlone trace = OnePort trace × OneEndpoint trace

-- The notes before the position, which counts from 1, fit and are silent; with the note there they aren't silent.
abbrev pub FirstNotSilent : List Note → ℕ → Type 0
FirstNotSilent trace position =
    FitsUnlessAlone (take (position - 1) trace) × Silent (take (position - 1) trace)
    × (Silent (take position trace) → ⊥)

-- The notes before the position fit, and with the note there they are silent but don't fit.
abbrev pub FirstNotFits : List Note → ℕ → Type 0
FirstNotFits trace position =
    FitsUnlessAlone (take (position - 1) trace) × Silent (take position trace)
    × (FitsUnlessAlone (take position trace) → ⊥)

-- what a fault says of a trace and two tables; out of memory says nothing of them
abbrev pub FaultSays : List Note → List Pair → List Pair → AuditFault → Type 0
FaultSays trace zero one NoMemory = Unit {0}
FaultSays trace zero one (NotFits position) = FirstNotFits trace position
FaultSays trace zero one NotKept =
    FitsUnlessAlone trace × Silent trace × (Kept (ListsHold zero one) trace → ⊥)
FaultSays trace zero one (NotSilent position) = FirstNotSilent trace position

-- the fault is one of the trace or of the tables: any fault but NoMemory
abbrev pub IsFound : AuditFault → Type 0
IsFound NoMemory = ⊥
IsFound (NotFits position) = Unit {0}
IsFound NotKept = Unit {0}
IsFound (NotSilent position) = Unit {0}

-- the list has exactly the open pairs
abbrev pub AreOpen : List Pair → List Note → Type 0
AreOpen opens notes = (q : Pair) → Contains opens q ↔ IsTrue (past.is_open q notes)

-- what a fault says of one note, given the notes before it
abbrev pub Judged : List Note → Note → ℕ → AuditFault → Type 0
Judged notes note position NoMemory = ⊥
Judged notes note position (NotFits at) =
    (at ≡ position) × past.SilentAt note.by note.what notes
    × (past.OnePortAt note.what notes × past.OneEndpointAt note.what notes → ⊥)
Judged notes note position NotKept = ⊥
Judged notes note position (NotSilent at) =
    (at ≡ position) × (past.SilentAt note.by note.what notes → ⊥)

-- of two values the one that belongs to the gateway
abbrev pub by_gateway : GatewayId → Bool → Bool → Bool
by_gateway Zero zero one = zero
by_gateway One zero one = one

-- what the checker knows after the notes: the open pairs, which gateways are synced, and that One port and One endpoint
-- hold of the notes and that they are silent
pub record Going (opens : List Pair) (zero one : Bool) (notes : List Note) : Type 0 where
  pub pairs : AreOpen opens notes
  pub zero_is : zero ≡ past.is_synced Zero notes
  pub one_is : one ≡ past.is_synced One notes
  pub one_port : past.OnePort notes
  pub one_endpoint : past.OneEndpoint notes
  pub silent : past.Silent notes
