use Rattle.std.proofs.Common.{◌∙◌, ap}
use Rattle.bindings.specs.Lives.{is_unused_by}
use Rattle.bindings.proofs.table.Table.unused.Goals as goal

pub returns-clause-unused : goal.returns-clause-unused
returns-clause-unused c = rw (← c.self.view_is) (λ past has. c.is_unused.ensures ∙ ap is_unused_by has.1 ∙ has.2.unused)
