use Rattle.std.proofs.Common.{◌≡◌, Result, Ok, Err, if◌then◌else◌, ap, sym, ◌∙◌}
use Rattle.nat_types.specs.declared.pairs.Endpoint.{Endpoint}
use Rattle.waiting.specs.declared.waits.WaitsFor.TheVariants.{Pair}
use Rattle.waiting.specs.Packets.{has_place}
use Rattle.packet_rules.specs.declared.reasons.Reason.{Reason}
use Rattle.packet_rules.specs.declared.reasons.Reason.TheVariants.{CannotWait}
use Rattle.spec_binding.specs.declared.changes.Want.{Want}
use Rattle.spec_step.specs.declared.plans.Plan.{Plan}
use Rattle.spec_step.specs.declared.plans.Plan.TheVariants.{Wait}
use Rattle.spec_step.specs.Shown.{Shown}
use Rattle.spec_step.specs.Verdict.{plan_from}
use Rattle.forwarder.specs.Forwarder.{shown_of}
use Rattle.forwarder.specs.Plans.{leaving_by}
use Rattle.forwarder.proofs.forwarders.Forwarder.plan_from.Goals as goal

abbrev wait-at : Shown → Endpoint → Result Plan Reason
wait-at g endpoint = (if has_place g.kept (Pair endpoint) then Ok (Wait endpoint) else Err CannotWait)

pub returns-in-Wait : goal.returns-in-Wait
returns-in-Wait c =
    let g = shown_of c.args.self.now in
    c.plan_wait.ensures
    ∙ ap (λ (e : Endpoint). wait-at g e) c.source_endpoint.ensures
    ∙ ap (λ (w : Want). plan_from g c.args.flow (leaving_by c.args.other) w) (sym c.in-Wait.is)
