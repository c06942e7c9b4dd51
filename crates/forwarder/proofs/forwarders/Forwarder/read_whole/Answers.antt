use Rattle.std.proofs.Common.{sym, ◌∙◌}
use Rattle.forwarder.proofs.Reading.{reading-is-short}
use Rattle.forwarder.proofs.forwarders.Forwarder.read_whole.Goals as goal

pub returns-clause-fits : goal.returns-clause-fits
returns-clause-fits c = reading-is-short _ (λ e. c.never_too_long.ensures.read _ _ _ _ _ (sym c.read_whole.ensures.reading ∙ e))
