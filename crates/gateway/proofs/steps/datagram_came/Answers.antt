use Rattle.std.proofs.Common.{sym, ◌∙◌}
use Rattle.gateway.proofs.steps.datagram_came.Goals as goal

pub further_came-requires-clause-further : goal.further_came-requires-clause-further
further_came-requires-clause-further c = λ d read. sym (c.may_restart.ensures.restarts d read) ∙ c.if-may_restart.false
