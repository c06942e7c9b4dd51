use Rattle.std.proofs.Common.{ap, ◌∙◌, sym}
use Rattle.fragments.specs.Gathered.{after_end}
use Rattle.fragments.proofs.Ending.{ends-other, ends-whole}
use Rattle.fragments.proofs.Takings.{held-other, refused-other}
use Rattle.fragments.proofs.gatherings.Gathering.take.Goals as goal

pub returns-in-Refused-clause-after : goal.returns-in-Refused-clause-after
returns-in-Refused-clause-after c =
    c.in_ok-join.ensures.after ∙ ends-other c.args.side c.args.now c.args.frame.now c.args.self.now (refused-other _ (sym c.in_ok-join.ensures.came ∙ c.in-Refused.is))

pub returns-in-Held-clause-after : goal.returns-in-Held-clause-after
returns-in-Held-clause-after c =
    c.in_ok-join.ensures.after ∙ ends-other c.args.side c.args.now c.args.frame.now c.args.self.now (held-other _ (sym c.in_ok-join.ensures.came ∙ c.in-Held.is))

pub returns-in-Whole-clause-after : goal.returns-in-Whole-clause-after
returns-in-Whole-clause-after c =
    c.end.ensures ∙ ap (after_end c.args.side c.args.frame.now) c.in_ok-join.ensures.after
    ∙ ends-whole c.args.side c.args.now c.args.frame.now c.args.self.now (sym c.in_ok-join.ensures.came ∙ c.in-Whole.is)
