use Rattle.spec_step.proofs.Feeding.{begun-feeds, founded-feeds, step-feeds}
use Rattle.spec_step.proofs.laws.steps_feed.Goals as goal

pub returns-clause-step : goal.returns-clause-step
returns-clause-step c = step-feeds c.readings_law.ensures.carries

pub returns-clause-begun : goal.returns-clause-begun
returns-clause-begun c = begun-feeds

pub returns-clause-founded : goal.returns-clause-founded
returns-clause-founded c = founded-feeds
