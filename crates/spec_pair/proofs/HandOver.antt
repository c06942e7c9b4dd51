-- A port may change hands where it has no entry: what a grant needs.
use Rattle.std.proofs.Common.{◌≡◌, Bool, true, false, List, [], refl, sym, ap, ◌∙◌, inl, inr, ◌⊎◌}
use Rattle.nat_types.specs.Same.{same}
use Rattle.nat_types.specs.declared.gateways.GatewayId.{GatewayId}
use Rattle.nat_types.specs.declared.pairs.Key.{Key}
use Rattle.spec_pair.proofs.Phase.{owns, Phase, Nothing, slot_at, flight_at, Matches}
use Rattle.spec_pair.specs.Talk.{Slot, Free, MachineRecord}

pub free_at : (b : Bool) → slot_at b Nothing ≡ Free
free_at true = refl
free_at false = refl

pub none_at : (b : Bool) (k : Key) → flight_at b k Nothing ≡ []
none_at true k = refl
none_at false k = refl

pub changes_hands : (owner owner2 : Key → GatewayId) (ph : Key → Phase) (i : GatewayId) (table : Key → Slot) (fl : List MachineRecord) → Matches owner ph i table fl
    → ((k : Key) → (ph k ≡ Nothing) ⊎ (owns owner i k ≡ owns owner2 i k)) → Matches owner2 ph i table fl
changes_hands owner owner2 ph i table fl m moved = record {
  slots = λ k. elim (moved k) [
    | inl none ↦ m.slots k ∙ ap (slot_at (owns owner i k)) none ∙ free_at (owns owner i k) ∙ sym (ap (slot_at (owns owner2 i k)) none ∙ free_at (owns owner2 i k))
    | inr same ↦ m.slots k ∙ ap (λ b. slot_at b (ph k)) same
  ];
  flights = λ k. elim (moved k) [
    | inl none ↦ m.flights k ∙ ap (flight_at (owns owner i k) k) none ∙ none_at (owns owner i k) k ∙ sym (ap (flight_at (owns owner2 i k) k) none ∙ none_at (owns owner2 i k) k)
    | inr same ↦ m.flights k ∙ ap (λ b. flight_at b k (ph k)) same
  ];
}
