use Rattle.std.proofs.Common.{ap, map}
use Rattle.sockets.specs.Wires.{sent}
use Rattle.sockets.specs.declared.wire.Place.TheVariants as place
use Rattle.rounds.proofs.Turns.{sent_more}
use Rattle.rounds.proofs.steps.send_datagrams.Goals as goal

pub loop-datagram-preserved : goal.loop-datagram-preserved
loop-datagram-preserved g c =
    let next = ap (map (sent place.Link)) (rw c.in-Some.is at c.next.ensures.steps) in
    sent_more _ _ _ _ _ _ _ _ c.loop-datagram.invariant next c.send.ensures.passes
