use Rattle.std.proofs.Common.{◌∙◌, ap, sym, Bool, Result}
use Rattle.nat_types.specs.declared.gateways.Side.{Side}
use Rattle.packet_rules.specs.declared.networks.Direction.{Direction}
use Rattle.packet_rules.specs.declared.reasons.Reason.{Reason}
use Rattle.packet_rules.specs.Networks.{exit_of}
use Rattle.packet_rules.specs.Steps.{and_then}
use Rattle.spec_step.specs.Verdict.{fits_at, if_fits, plan_on}
use Rattle.forwarder.specs.Forwarder.{shown_of}
use Rattle.forwarder.proofs.forwarders.Forwarder.plan.Goals as goal

pub returns-then-not-fits_at : goal.returns-then-not-fits_at
returns-then-not-fits_at c =
    let g = shown_of c.args.self.now in
    let flow = c.args.packet.flow in
    let size = c.args.packet.size in
    let fits = sym c.if-not-fits_at.true ∙ c.fits_at.ensures ∙ ap (λ (e : Side). fits_at g e size) c.exit.ensures in
    c.plan_long.ensures
    ∙ ap (λ (b : Bool). and_then (plan_on g flow c.in_ok-way.way) (if_fits b)) fits
    ∙ ap (λ (r : Result Direction Reason). and_then r (λ x. and_then (plan_on g flow x) (if_fits (fits_at g (exit_of x) size)))) (sym c.in_ok-way.was ∙ c.way_of.ensures)
