use Rattle.std.proofs.Common.{None, ◌∙◌, ap, get_or}
use Rattle.slots.proofs.Due.{none-at}
use Rattle.slots.proofs.dues.Dues.new.Goals as goal

pub returns-clause-none : goal.returns-clause-none
returns-clause-none c = λ number. ap (λ dues. get_or dues number.0 None) c.in_ok-timers.ensures.unset ∙ none-at c.args.count number.0
