-- A gateway that is apart waits for nobody, and no step moves an endpoint to another pair: packets of an endpoint go by
-- its pair, of two by the one on a port that the gateway owns.
use Rattle.std.specs.Prelude.{◌≡◌, ◌⊎◌, true, false, Some}
use Rattle.std.specs.List.{AllByRecursion}
use Rattle.nat_types.specs.declared.pairs.Endpoint.{Endpoint}
use Rattle.nat_types.specs.declared.pairs.Key.{Key}
use Rattle.nat_types.specs.declared.pairs.Pair.{Pair}
use Rattle.bindings.specs.declared.entries.Entry.{Entry}
use Rattle.bindings.specs.Entries.{is_pair, slot_of, translates}
use Rattle.spec_binding.specs.Books.{is_synced}
use Rattle.spec_binding.specs.Serving.{serving}
use Rattle.waiting.specs.Waits.{is_for_pair}
use Rattle.packet_rules.specs.declared.translations.Translation.{Translation}
use Rattle.packet_rules.specs.declared.translations.Translation.TheVariants.{Outward, Inward, Hairpin}
use Rattle.spec_step.specs.LettingGo.{NotesRelease}
use Rattle.spec_step.specs.Shown.{GatewayAndOutput, Shown}

-- no packet waits for a pair, and each pair of the table translates
pub record WaitsForNobody (g : Shown) : Type 0 where
  pub none : AllByRecursion (λ w. is_for_pair w.wait ≡ false) g.kept
  pub translate : (k : Key) (x : Entry) → slot_of g.ledger.book.entries k ≡ Some x → is_pair x.state ≡ true
      → translates x.state ≡ true

-- the pair is the endpoint's pair after the step too, and translates, or the step noted its release
abbrev pub IsUnmoved : GatewayAndOutput → Endpoint → Pair → GatewayAndOutput → Type 0
IsUnmoved s e p s2 = (serving s2.shown.ledger.book e ≡ Some p) ⊎ NotesRelease s p s2

-- The gateway is synced, and the pair is its endpoint's pair: of two the one on a port that the gateway owns. So it is
-- after the step, unless the step noted the pair's release.
pub record IsServing (old : GatewayAndOutput) (p : Pair) (new : GatewayAndOutput) : Type 0 where
  pub synced : is_synced new.shown.ledger.book.stage ≡ true
  pub unmoved : IsUnmoved old p.endpoint p new

-- outward, and for a hairpin's sender, what is sent goes by its endpoint's pair; inward the port says which pair it is
abbrev pub GoesByServing : GatewayAndOutput → Translation → GatewayAndOutput → Type 0
GoesByServing old (Outward p) new = IsServing old p new
GoesByServing old (Inward p) new = Unit {0}
GoesByServing old (Hairpin own other) new = IsServing old own new
