use Rattle.interfaces.proofs.Telling.{at-second, complained-within, none-within, other-second, replied-within, same-second}
use Rattle.interfaces.proofs.laws.tallies_law.Goals as goal

pub returns-clause-none : goal.returns-clause-none
returns-clause-none c = none-within

pub returns-clause-replied : goal.returns-clause-replied
returns-clause-replied c = replied-within

pub returns-clause-complained : goal.returns-clause-complained
returns-clause-complained c = complained-within

pub returns-clause-same_second : goal.returns-clause-same_second
returns-clause-same_second c = same-second

pub returns-clause-other_second : goal.returns-clause-other_second
returns-clause-other_second c = other-second

pub returns-clause-second : goal.returns-clause-second
returns-clause-second c = at-second
