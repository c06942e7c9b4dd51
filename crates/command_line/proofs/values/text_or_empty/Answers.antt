use Rattle.std.proofs.Common.{◌∙◌, ap}
use Rattle.std.specs.Borrow.{Bor}
use Rattle.clap.specs.Words.{Text}
use Rattle.command_line.proofs.Readings.{text_or}
use Rattle.command_line.proofs.values.text_or_empty.Goals as goal

pub returns : goal.returns
returns c = ap (λ (t : Bor Text). t.now) c.unwrap_or.ensures ∙ text_or c.optional_text.result _ _ c.optional_text.ensures
