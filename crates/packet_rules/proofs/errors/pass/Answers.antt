use Rattle.std.proofs.Common.{ap, ◌∙◌}
use Rattle.icmp.specs.declared.packets.ErrorFlow.{ErrorFlow}
use Rattle.rewrite.specs.PassedOn.{passed_on}
use Rattle.packet_rules.specs.Errors.{new_error_flow, passed_by}
use Rattle.packet_rules.proofs.errors.pass.Goals as goal

pub rewrite_error-requires : goal.rewrite_error-requires
rewrite_error-requires c = record { ipv4 = c.requires.ipv4; error = c.requires.error; flow = c.requires.read }

pub returns : goal.returns
unfolding passed_by
returns c =
    c.in-Ok.ensures.ok
    ∙ ap (λ (f : ErrorFlow). passed_on f c.args.packet.now) (c.error_flow_by-new.ensures ∙ ap (new_error_flow c.args.networks.now c.args.translation.now) c.requires.read)
