use Rattle.std.proofs.Common.{◌≡◌, ap, subst, ◌∙◌}
use Rattle.std.specs.Prelude.{OnOk}
use Rattle.icmp.specs.declared.packets.ErrorFlow.{ErrorFlow}
use Rattle.rewrite.specs.PassedOn.{passed_on, error_from, error_to}
use Rattle.rewrite.proofs.errors.error_hairpin.Goals as goal

pub rewrite_error-requires : goal.rewrite_error-requires
rewrite_error-requires c = record { ipv4 = c.requires.ipv4; error = c.requires.error; flow = c.of-old.ensures }

pub returns-clause-when : goal.returns-clause-when
returns-clause-when c = c.rewrite_error.ensures.when

pub returns-clause-ok : goal.returns-clause-ok
returns-clause-ok c =
    subst (λ (f : ErrorFlow). OnOk c.rewrite_error.result (c.rewrite_error.new.packet ≡ passed_on f c.args.packet.now))
    (c.sent_from-new.ensures ∙ ap (error_from c.args.from c.args.from_port) (c.sent_to.ensures ∙ ap (error_to c.args.to c.args.port) c.of-old.ensures)) c.rewrite_error.ensures.ok

pub returns-clause-err : goal.returns-clause-err
returns-clause-err c = c.rewrite_error.ensures.err
