use Rattle.std.proofs.Common.{rules}
use Rattle.port_range.proofs.Bits.{is_set-not}
use Rattle.port_range.proofs.words.matching.Goals as goal

pub returns-else-flag : goal.returns-else-flag
returns-else-flag c = λ i low. rw c.if-flag.false (is_set-not c.args.word i (search rules) low)
