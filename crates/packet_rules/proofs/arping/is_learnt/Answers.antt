use Rattle.std.proofs.Common.{refl}
use Rattle.packet_rules.proofs.Learning.{learnable-is}
use Rattle.packet_rules.proofs.arping.is_learnt.Goals as goal

pub returns : goal.returns
returns c = learnable-is c.is_learnable.result c.args.network.now c.args.packet.now _ (record { address = c.network.ensures.address; length = c.network.ensures.length; primary = refl; virtual = refl }) c.is_learnable.ensures
