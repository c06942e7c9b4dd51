use Rattle.std.proofs.Common.{ap, map}
use Rattle.sockets.specs.Wires.{sent}
use Rattle.sockets.specs.declared.wire.Place.TheVariants as place
use Rattle.rounds.proofs.Turns.{sent_more}
use Rattle.rounds.proofs.steps.send_frame.Goals as goal

pub loop-k-preserved : goal.loop-k-preserved
loop-k-preserved g c =
    let next = ap (map (sent (place.Side c.args.frame.side))) c.piece-piece.ensures.next in
    sent_more _ _ _ _ _ _ _ _ c.loop-k.invariant next c.send.ensures.passes
