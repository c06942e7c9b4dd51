-- What the trace and the ports' phases say of each other.
use Rattle.std.specs.Prelude.{◌≡◌, ◌||◌, List, IsTrue, Some, ◌↔◌}
use Rattle.nat_types.specs.declared.gateways.GatewayId.{GatewayId}
use Rattle.nat_types.specs.declared.notes.Note.{Note}
use Rattle.nat_types.specs.declared.pairs.Endpoint.{Endpoint}
use Rattle.nat_types.specs.declared.pairs.Key.{Key}
use Rattle.nat_types.specs.declared.pairs.Pair.{Pair}
use Rattle.spec_trace.specs.Past.{is_synced, has_released, is_open, goes_on, is_private, was_alone}
use Rattle.spec_pair.proofs.Phase.{owns, Phase, named, shared, single, closing, covered, alone_in}
use Rattle.spec_pair.specs.Talk.{Slot, translated, pair_of}

-- the pairs that translate at a gateway are those that go on there
abbrev pub GoesAt : GatewayId → (Key → Slot) → List Note → Type 0
GoesAt i table t = (p : Pair) → (IsTrue (goes_on i p t) ↔ (translated (table p.key) ≡ Some p.endpoint))

-- the pairs that a gateway has alone or marked are those that are private to it
abbrev pub PrivateAt : GatewayId → (Key → Slot) → List Note → Type 0
PrivateAt i table t = (p : Pair) → (IsTrue (is_private i p t) ↔ (alone_in (table p.key) ≡ Some p.endpoint))

-- the pairs that an owner has alone or marked were alone
abbrev pub WereAlone : (Key → Phase) → List Note → Type 0
WereAlone phase t = (k : Key) (e : Endpoint) → single (phase k) ≡ Some e → IsTrue (was_alone (pair_of k e) t)

module _ (owner : Key → GatewayId) where
  -- each open pair is held by both gateways, or is one that its owner has alone or marked, while it is synced
  abbrev pub Covers : (Key → Phase) → List Note → Type 0
  Covers phase t = (p : Pair) → IsTrue (is_open p t) → covered (is_synced (owner p.key) t) (phase p.key) ≡ Some p.endpoint

  -- while gateway i is synced, it has let go the pairs that it asks to close and hasn't marked
  abbrev pub LetsGo : GatewayId → (Key → Phase) → List Note → Type 0
  LetsGo i phase t = IsTrue (is_synced i t) → (k : Key) (e : Endpoint) → IsTrue (owns owner i k) → closing (phase k) ≡ Some e → IsTrue (has_released i (pair_of k e) t)

  -- of two pairs of an endpoint, on ports of both gateways, one was alone
  abbrev pub TwoAlone : (Key → Phase) → List Note → Type 0
  TwoAlone phase t = (k q : Key) (e : Endpoint) → (owner k ≡ owner q → ⊥) → named (phase k) ≡ Some e → shared (phase q) ≡ Some e → IsTrue (was_alone (pair_of k e) t || was_alone (pair_of q e) t)
