use Rattle.std.proofs.Common.{rules, subst}
use Rattle.vrrp_states.specs.declared.Action.{Action}
use Rattle.vrrp_states.specs.Table.{Start, IsStep}
use Rattle.interfaces.proofs.Starting.{start-silent}
use Rattle.interfaces.proofs.stations.Interface.start.Goals as goal

pub returns : goal.returns
returns c =
    let silent = start-silent c.exactly_one_line.ensures.outcome _ _ c.args.now c.start-action.result c.start-action.ensures in
    let line = subst (λ (a : Action). IsStep c.self.inside.router Start c.args.now a c.start-action.new.self) silent c.start-action.ensures in
    search rules
