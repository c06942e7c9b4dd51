use Rattle.std.proofs.Common.{◌≡◌, ◌<◌, ◌∙◌}
use Rattle.bindings.specs.Ports.{drawn_port, lowest_of, highest_of}
use Rattle.bindings.proofs.Owning.{drawn-is, port-high}
use Rattle.bindings.proofs.Chosen.{drawn-like, drawn-nothing}
use Rattle.bindings.proofs.table.Table.drawn.Goals as goal

pub returns-clause-chosen : goal.returns-clause-chosen
returns-clause-chosen c =
    let i = c.self.inside in
    rw (← c.self.view_is)
    (c.drawn.ensures.chosen ∙ drawn-is (lowest_of i.zero i.one) (highest_of i.zero i.one) i.store.entries i.ports c.args.protocol c.args.parity c.args.x c.args.y c.self.invariant.0.free c.self.invariant.0.same c.drawn.ensures.range)

pub returns-clause-like : goal.returns-clause-like
returns-clause-like c =
    let i = c.self.inside in
    let is : c.drawn.result ≡ drawn_port i.store.entries i.ports.tcp.owned c.args.protocol c.args.parity c.args.x c.args.y = c.drawn.ensures.chosen
    ∙ drawn-is (lowest_of i.zero i.one) (highest_of i.zero i.one) i.store.entries i.ports c.args.protocol c.args.parity c.args.x c.args.y c.self.invariant.0.free c.self.invariant.0.same c.drawn.ensures.range in
    let high : highest_of i.zero i.one < 65536 = port-high (lowest_of i.zero i.one) (highest_of i.zero i.one) i.ports c.args.protocol c.self.invariant.0.same c.drawn.ensures.range in
    rw (← c.self.view_is) (drawn-like i.store.entries i.ports.tcp.owned i.zero i.one c.args.protocol c.args.parity c.args.x c.args.y c.drawn.result c.self.invariant.0.owned high is)

pub returns-clause-none : goal.returns-clause-none
returns-clause-none c =
    let i = c.self.inside in
    let is : c.drawn.result ≡ drawn_port i.store.entries i.ports.tcp.owned c.args.protocol c.args.parity c.args.x c.args.y = c.drawn.ensures.chosen
    ∙ drawn-is (lowest_of i.zero i.one) (highest_of i.zero i.one) i.store.entries i.ports c.args.protocol c.args.parity c.args.x c.args.y c.self.invariant.0.free c.self.invariant.0.same c.drawn.ensures.range in
    let high : highest_of i.zero i.one < 65536 = port-high (lowest_of i.zero i.one) (highest_of i.zero i.one) i.ports c.args.protocol c.self.invariant.0.same c.drawn.ensures.range in
    rw (← c.self.view_is) (drawn-nothing i.store.entries i.ports.tcp.owned i.zero i.one c.args.protocol c.args.parity c.args.x c.args.y c.drawn.result c.self.invariant.0.owned high is)
