use Rattle.std.proofs.Common.{sym, ◌∙◌}
use Rattle.forwarder.specs.Forwarder.{shown_of}
use Rattle.gateway.specs.Gateway.{state_of}
use Rattle.gateway.proofs.Arriving.{frame-plain}
use Rattle.gateway.proofs.Gathering.{arrival-whole}
use Rattle.gateway.proofs.gathers.arrive_alike.Goals as goal

pub returns-clause-arrival : goal.returns-clause-arrival
returns-clause-arrival c =
    let s = state_of c.args.forwarder.now c.args.fragments.now in
    let is = arrival-whole s c.args.frame.side c.args.frame.bytes.now c.requires.short (sym c.is_part.ensures ∙ c.if-is_part.false) in
    frame-plain (shown_of c.args.forwarder.now) c.args.fragments.now.gathering c.args.fragments.now.numbered c.args.frame.side c.args.frame.bytes c.requires.short is
