use Rattle.std.proofs.Common.{◌∙◌, ap}
use Rattle.activity.proofs.Offered.{looks-is}
use Rattle.bindings.specs.Lives.{rests_by}
use Rattle.bindings.proofs.table.Table.idle.Goals as goal

pub returns-clause-idle : goal.returns-clause-idle
returns-clause-idle c =
    rw (← c.self.view_is) (λ past has. c.is_idle.ensures ∙ ap (rests_by c.args.key c.args.now) has.1 ∙ looks-is c.args.key.protocol past has.0 c.args.now has.2)
