use Rattle.std.proofs.Common.{map}
use Rattle.sockets.specs.Wires.{sent}
use Rattle.sockets.specs.declared.wire.Place.TheVariants as place
use Rattle.rounds.proofs.Turns.{HasSent}
use Rattle.rounds.proofs.steps.send_datagrams.Given as goal

abbrev pub invariant-loop-datagram : goal.invariant-loop-datagram
invariant-loop-datagram g l = HasSent g.W.Wire.passes (map (sent place.Link) l.out.datagrams) (map (sent place.Link) l.datagram-iterator) l.fn.wire l.wire
