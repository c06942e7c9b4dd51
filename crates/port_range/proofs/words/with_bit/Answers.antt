use Rattle.port_range.proofs.Bits.{is_set-or, is_set-clear}
use Rattle.port_range.proofs.words.with_bit.Goals as goal

pub returns-then-flag : goal.returns-then-flag
returns-then-flag c = λ i low. is_set-or c.args.word c.args.bit c.args.flag c.if-flag.true c.requires i

pub returns-else-flag : goal.returns-else-flag
returns-else-flag c = is_set-clear c.args.word c.args.bit c.args.flag c.if-flag.false c.requires
