use Rattle.std.proofs.Common.{◌∙◌}
use Rattle.icmp.proofs.Putting.{same-said}
use Rattle.icmp.proofs.own.append_reply.Goals as goal

pub returns-clause-items : goal.returns-clause-items
returns-clause-items c =
    c.append.ensures.items
    ∙ same-said c.args.list.now.items c.args.cutting c.args.from.0 c.args.to.0 c.number.ensures c.identifier.ensures c.sequence_number.ensures c.data.ensures
