use Rattle.std.proofs.Common.{rules, ap, ◌∙◌}
use Rattle.sums.specs.Sum.{checksum_of}
use Rattle.vrrp_packet.specs.Message.{advert_of, message_bytes}
use Rattle.vrrp_packet.proofs.Written.{advert_of-message_bytes}
use Rattle.vrrp_packet.proofs.write.Goals as goal

pub returns-clause-written : goal.returns-clause-written
returns-clause-written c = search rules

pub returns-clause-read : goal.returns-clause-read
returns-clause-read c =
    ap advert_of (returns-clause-written c)
    ∙ advert_of-message_bytes c.args.advert.now (checksum_of (message_bytes c.args.advert.now 0)) (search rules)
