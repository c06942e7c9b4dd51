use Rattle.std.proofs.Common.{is_some, ap, subst, ◌∙◌}
use Rattle.std.specs.Option.{IfSome}
use Rattle.addresses.specs.declared.transport.Parity.{Parity}
use Rattle.bindings.specs.Ports.{chosen_port, is_open_in}
use Rattle.port_range.specs.Ports.{IsChosen}
use Rattle.spec_binding.specs.Rows.{port_for}
use Rattle.bind_core.specs.Cores.{Core, book_of}
use Rattle.bind_core.specs.View.{core_of}
use Rattle.bind_core.proofs.Asking.{has-port}
use Rattle.bind_core.proofs.cores.Core.has_port.Goals as goal

pub returns : goal.returns
returns c =
    let b = book_of (core_of c.self.inside) in
    let free = c.free_like.ensures in
    let protocol = c.args.endpoint.protocol in
    c.is_some.ensures
    ∙ has-port b c.args.endpoint b.choice c.free_like.result c.self.invariant.book
    (free.chosen ∙ ap (chosen_port b.entries b.owned b.zero b.one protocol) c.parity.ensures)
    (subst (λ (parity : Parity). IfSome c.free_like.result (IsChosen (is_open_in b.entries b.owned protocol) parity)) c.parity.ensures free.like)
    free.none
    ∙ ap (λ (k : Core). is_some (port_for (book_of k) c.args.endpoint)) c.self.view_is
