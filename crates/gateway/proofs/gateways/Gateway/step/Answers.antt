use Rattle.std.proofs.Common.{◌+◌, ap, refl, subst}
use Rattle.fragments.specs.Gathered.{there_of}
use Rattle.spec_gateway.specs.State.{GatewayState}
use Rattle.spec_gateway.specs.Steps.{IsGatewayStep}
use Rattle.gateway.specs.declared.gathers.Fragments.{Fragments}
use Rattle.gateway.specs.Gateway.{state_of}
use Rattle.gateway.proofs.Stepping.{gateway-step, uncut-sent}
use Rattle.gateway.proofs.gateways.Gateway.step.Goals as goal

pub number_sent-requires-clause-short : goal.number_sent-requires-clause-short
number_sent-requires-clause-short c = λ short.
    let told = c.args.page.now.told in
    let goes_on = c.in_ok-outcome.ensures.taken.goes_on in
    uncut-sent c.self.inside.forwarder.networks c.take.new.forwarder.networks c.self.inside.id c.take.new.fragments.numbered c.self.inside.longest c.frame_count.result (c.frame_octets.result + c.self.inside.longest)
    told.frames goes_on.sent c.take.new.page.told.frames c.self.invariant.2 goes_on.networks_are goes_on.sent_are c.frame_count.ensures (ap (λ n. n + c.self.inside.longest) c.frame_octets.ensures.count) short

pub returns-clause-step : goal.returns-clause-step
returns-clause-step c =
    let told = c.args.page.now.told in
    let s : GatewayState = state_of c.self.inside.forwarder c.self.inside.fragments in
    let s2 : GatewayState = state_of c.take.new.forwarder c.take.new.fragments in
    let s3 : GatewayState = state_of c.take.new.forwarder c.number_sent.new.fragments in
    subst (λ (x : GatewayState). IsGatewayStep x told c.args.event s3 c.number_sent.new.page.told) c.self.view_is
    (gateway-step s s2 s3 told c.take.new.page.told c.number_sent.new.page.told c.args.event c.self.inside.id c.frame_count.result
    c.in_ok-outcome.ensures.taken c.self.invariant.1 c.frame_count.ensures c.number_sent.ensures.told
    refl (ap (λ (x : Fragments). there_of x.gathering) c.number_sent.ensures.fragments) (ap (λ (x : Fragments). x.numbered) c.number_sent.ensures.fragments))
