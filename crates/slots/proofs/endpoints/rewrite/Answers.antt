use Rattle.std.proofs.Common.{◌≡◌, ◌<◌, Some, None, ap, sym, ◌∙◌}
use Rattle.std.specs.Map.{lookup}
use Rattle.std.specs.Option.{is_some, option_copied_mut}
use Rattle.nat_types.specs.contracts.pairs.EndpointPartialEq.TheImpl.{eq-value as endpoint_eq}
use Rattle.slots.specs.declared.ranks.Places.{Places}
use Rattle.slots.specs.Ranks.{slot_count}
use Rattle.slots.proofs.Counted.{out-rewritten, set-rewritten, some-places, not-absent}
use Rattle.slots.proofs.Held.{held-out, held-set}
use Rattle.slots.proofs.endpoints.rewrite.Goals as goal

-- no slot is left
pub returns-then-is_empty-clause-rewritten : goal.returns-then-is_empty-clause-rewritten
returns-then-is_empty-clause-rewritten g c =
    out-rewritten c.args.map.now.entries c.swap_remove.new.self.entries c.args.endpoint c.args.places (sym c.is_empty.ensures ∙ c.if-is_empty.true) c.swap_remove.ensures.entries c.swap_remove.ensures.updates.0

pub returns-then-is_empty-clause-served : goal.returns-then-is_empty-clause-served
returns-then-is_empty-clause-served g c =
    held-out (λ (p : Places). 0 < slot_count p) (endpoint_eq.it c.args.endpoint) c.args.map.now.entries c.swap_remove.new.self.entries c.swap_remove.ensures.entries

-- another slot is left
pub returns-in-Some-clause-rewritten : goal.returns-in-Some-clause-rewritten
returns-in-Some-clause-rewritten g c =
    let es = c.args.map.now.entries in
    let writes = c.get_mut.follows.holds c.args.places in
    let held : lookup (endpoint_eq.it c.args.endpoint) es ≡ Some c.in-Some.held.now = sym c.in-Some.ensures.value in
    set-rewritten es (c.get_mut.follows.lender c.args.places).entries c.args.endpoint c.args.places c.in-Some.held.now writes.0 (writes.3 (ap is_some held)).0 held

pub returns-in-Some-clause-served : goal.returns-in-Some-clause-served
returns-in-Some-clause-served g c =
    held-set (λ (p : Places). 0 < slot_count p) (endpoint_eq.it c.args.endpoint) c.args.map.now.entries (c.get_mut.follows.lender c.args.places).entries c.args.places
    (c.get_mut.follows.holds c.args.places).0 (some-places c.args.places (sym c.is_empty.ensures ∙ c.if-is_empty.false))

-- the endpoint has a slot, so it is in the map
pub returns-in_default-clause-rewritten : goal.returns-in_default-clause-rewritten
returns-in_default-clause-rewritten g c =
    let none : lookup (endpoint_eq.it c.args.endpoint) c.args.map.now.entries ≡ None = sym c.get_mut.ensures.value ∙ ap option_copied_mut c.in_default.is in
    absurd (not-absent c.args.map.now.entries c.args.endpoint none c.requires)
