use Rattle.std.proofs.Common.{◌≤◌, ◌<◌, length, sym, ◌∙◌, arith}
use Rattle.packet_rules.specs.declared.reasons.Reason.TheVariants.{ShortFrame}
use Rattle.forwarder.specs.Forwarder.{shown_of}
use Rattle.gateway.specs.Gateway.{state_of}
use Rattle.gateway.proofs.Arriving.{frame-ended, frame-plain}
use Rattle.gateway.proofs.Gathering.{arrival-long, arrival-whole}
use Rattle.gateway.proofs.gathers.arrive_frame.Goals as goal

pub returns-then-frame-gt-LONGEST-clause-arrival : goal.returns-then-frame-gt-LONGEST-clause-arrival
returns-then-frame-gt-LONGEST-clause-arrival c =
    let s = state_of c.args.forwarder.now c.args.fragments.now in
    let long : 1514 < length c.args.frame.bytes.now = omega (arith, c.if-frame-gt-LONGEST.true) in
    frame-ended (shown_of c.args.forwarder.now) c.args.fragments.now.gathering c.args.fragments.now.numbered c.args.frame.side c.args.frame.bytes ShortFrame
    (arrival-long s c.args.frame.side c.args.frame.bytes.now long)

pub returns-clause-arrival : goal.returns-clause-arrival
returns-clause-arrival c =
    let s = state_of c.args.forwarder.now c.args.fragments.now in
    let short : length c.args.frame.bytes.now ≤ 1514 = omega (arith, c.if-frame-gt-LONGEST.false) in
    let is = arrival-whole s c.args.frame.side c.args.frame.bytes.now short (c.recall_part.ensures.plain (sym c.looks_cut.ensures ∙ c.if-looks_cut.false)) in
    frame-plain (shown_of c.args.forwarder.now) c.args.fragments.now.gathering c.args.fragments.now.numbered c.args.frame.side c.args.frame.bytes short is
