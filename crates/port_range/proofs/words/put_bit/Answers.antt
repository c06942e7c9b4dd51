use Rattle.port_range.proofs.Bits.{has_bit-set}
use Rattle.port_range.proofs.words.put_bit.Goals as goal

pub returns-clause-bits : goal.returns-clause-bits
returns-clause-bits c =
    has_bit-set c.args.words.now c.args.number c.with_bit.result c.args.flag c.requires c.with_bit.ensures
