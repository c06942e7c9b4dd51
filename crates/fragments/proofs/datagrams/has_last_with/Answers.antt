use Rattle.std.proofs.Common.{ap, sym, ◌∙◌}
use Rattle.std.specs.Option.{is_some}
use Rattle.fragments.proofs.Adding.{last-comes, last-there}
use Rattle.fragments.proofs.datagrams.has_last_with.Goals as goal

pub returns-then-is_last : goal.returns-then-is_last
returns-then-is_last c = sym (last-comes c.args.there.now c.args.new.now.frame.now (sym c.is_last.ensures ∙ c.if-is_last.true))

pub returns : goal.returns
returns c = c.is_some.ensures ∙ (ap is_some c.place_of_last.ensures ∙ sym (last-there c.args.there.now c.args.new.now.frame.now (sym c.is_last.ensures ∙ c.if-is_last.false)))
