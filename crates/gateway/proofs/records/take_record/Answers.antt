use Rattle.std.proofs.Common.{ap, ◌∙◌, arith}
use Rattle.waiting.specs.declared.waits.Ended.TheVariants.{One}
use Rattle.waiting.specs.declared.waits.WaitsFor.TheVariants.{Pair}
use Rattle.spec_step.specs.Shown.{GatewayAndOutput}
use Rattle.forwarder.specs.Forwarder.{scene_on}
use Rattle.gateway.proofs.Staying.{released-stays}
use Rattle.gateway.proofs.records.take_record.Goals as goal

pub returns-in-Some-clause-moment : goal.returns-in-Some-clause-moment
returns-in-Some-clause-moment c =
    let stays = released-stays (scene_on c.take_and_start-ended.new.forwarder c.take_and_start-ended.new.page) (One (Pair c.in-Some.endpoint)) in
    ap (λ (s : GatewayAndOutput). s.shown.moment) c.release_one.ensures.scene ∙ stays.moment ∙ c.take_and_start-ended.ensures.moment

pub returns-in-Some-clause-places : goal.returns-in-Some-clause-places
returns-in-Some-clause-places c = λ more few room.
    let first = c.take_and_start-ended.ensures.places more few room in
    let second = c.release_one.ensures.places in
    omega (arith, few, first, second)
