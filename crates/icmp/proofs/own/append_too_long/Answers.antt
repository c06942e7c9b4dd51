use Rattle.std.proofs.Common.{◌∙◌}
use Rattle.icmp.proofs.Putting.{same-packet}
use Rattle.icmp.proofs.own.append_too_long.Goals as goal

pub returns-clause-items : goal.returns-clause-items
returns-clause-items c =
    c.append.ensures.items
    ∙ same-packet 3 4 0 c.args.mtu c.args.list.now.items c.complaining.ensures.cutting c.complaining.ensures.service c.complaining.ensures.from c.complaining.ensures.to c.quoted.ensures.bytes
