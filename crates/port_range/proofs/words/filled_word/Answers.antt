use Rattle.std.proofs.Common.{◌+◌, sym, ◌∙◌}
use Rattle.std.proofs.lemmas.Bool.{and_left}
use Rattle.port_range.specs.Ports.{is_within}
use Rattle.port_range.proofs.Bits.{is_set-zero}
use Rattle.port_range.proofs.words.filled_word.Goals as goal

pub returns-else-flag : goal.returns-else-flag
returns-else-flag c = λ i low.
    is_set-zero i ∙ sym (and_left c.args.flag (is_within c.args.lowest c.args.highest (c.args.start + i)) c.if-flag.false)
