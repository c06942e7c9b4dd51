use Rattle.std.proofs.Common.{drop, map}
use Rattle.fragments.specs.Cut.{pieces}
use Rattle.sockets.specs.Wires.{sent}
use Rattle.sockets.specs.declared.wire.Place.TheVariants as place
use Rattle.rounds.proofs.Turns.{HasSent}
use Rattle.rounds.proofs.steps.send_frame.Given as goal

abbrev pub invariant-loop-k : goal.invariant-loop-k
invariant-loop-k g l =
    let to = sent (place.Side l.frame.side) in
    HasSent g.W.Wire.passes (map to (pieces l.mtu l.frame.bytes.now)) (map to (drop l.k (pieces l.mtu l.frame.bytes.now))) l.fn.wire l.wire
