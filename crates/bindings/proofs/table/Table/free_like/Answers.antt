use Rattle.std.proofs.Common.{◌≡◌, ◌∙◌}
use Rattle.bindings.specs.Ports.{chosen_port}
use Rattle.bindings.proofs.Owning.{chosen-is}
use Rattle.bindings.proofs.Chosen.{answer-like, answer-none}
use Rattle.bindings.proofs.table.Table.free_like.Goals as goal

pub returns-clause-chosen : goal.returns-clause-chosen
returns-clause-chosen c =
    let i = c.self.inside in
    rw (← c.self.view_is)
    (c.free_like.ensures.chosen ∙ chosen-is i.store.entries i.zero i.one i.ports c.args.protocol c.args.parity c.self.invariant.0.free c.self.invariant.0.same c.free_like.ensures.range)

pub returns-clause-like : goal.returns-clause-like
returns-clause-like c =
    let i = c.self.inside in
    let is : c.free_like.result ≡ chosen_port i.store.entries i.ports.tcp.owned i.zero i.one c.args.protocol c.args.parity = c.free_like.ensures.chosen
    ∙ chosen-is i.store.entries i.zero i.one i.ports c.args.protocol c.args.parity c.self.invariant.0.free c.self.invariant.0.same c.free_like.ensures.range in
    rw (← c.self.view_is) (answer-like i.store.entries i.ports.tcp.owned i.zero i.one c.args.protocol c.args.parity c.free_like.result c.self.invariant.0.owned is)

pub returns-clause-none : goal.returns-clause-none
returns-clause-none c =
    let i = c.self.inside in
    let is : c.free_like.result ≡ chosen_port i.store.entries i.ports.tcp.owned i.zero i.one c.args.protocol c.args.parity = c.free_like.ensures.chosen
    ∙ chosen-is i.store.entries i.zero i.one i.ports c.args.protocol c.args.parity c.self.invariant.0.free c.self.invariant.0.same c.free_like.ensures.range in
    rw (← c.self.view_is) (answer-none i.store.entries i.ports.tcp.owned i.zero i.one c.args.protocol c.args.parity c.free_like.result c.self.invariant.0.owned is)
