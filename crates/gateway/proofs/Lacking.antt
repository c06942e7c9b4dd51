-- The memory that a gateway lacks that doesn't begin, and that an event lacks that isn't taken.
use Rattle.std.specs.Prelude.{◌≡◌, Result, Ok, Err, OnErr}
use Rattle.std.proofs.Common.{inl, inr, refl, subst}
use Rattle.settings.specs.declared.whole.Settings.{Settings}
use Rattle.bindings.specs.declared.entries.PortBounds.{PortBounds}
use Rattle.bind_core.specs.Memory.{LacksCore}
use Rattle.output.specs.Output.{Paged}
use Rattle.spec_step.specs.declared.events.Event.{Event}
use Rattle.spec_step.specs.Founding.{bounds_of}
use Rattle.forwarder.specs.declared.forwarders.Forwarder.{Forwarder}
use Rattle.forwarder.specs.Forwarder.{shown_of}
use Rattle.gateway.specs.Lacks.{Lacks, LacksGateway, LacksParts, LacksStep}

-- what a forwarder lacks is what a gateway with this view and page lacks
pub lacks-step : {T E : Type 0} → (r : Result T E) (event : Event) (f : Forwarder) (page : Paged) → Lacks event f page → OnErr r (LacksStep (shown_of f) page event)
lacks-step (Ok x) event f page lacks = tt
lacks-step (Err e) event f page lacks = (f, refl, lacks)

-- a gateway lacks its parts
pub lacks-parts : {T E : Type 0} → (r : Result T E) (settings : Settings) → LacksParts settings → OnErr r (LacksGateway settings)
lacks-parts (Ok x) settings lacks = tt
lacks-parts (Err e) settings lacks = inl lacks

-- a gateway lacks its core, with exactly its ranges
pub lacks-core : {T E : Type 0} → (r : Result T E) (settings : Settings) (low high : PortBounds) → low ≡ bounds_of settings.ports.zero → high ≡ bounds_of settings.ports.one → LacksCore low high → OnErr r (LacksGateway settings)
lacks-core (Ok x) settings low high a b lacks = tt
lacks-core (Err e) settings low high a b lacks =
    inr (subst (λ (z : PortBounds). LacksCore z (bounds_of settings.ports.one)) a (subst (λ (o : PortBounds). LacksCore low o) b lacks))
