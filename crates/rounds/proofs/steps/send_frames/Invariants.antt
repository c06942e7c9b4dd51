use Rattle.rounds.specs.Runs.{frames_sent}
use Rattle.rounds.proofs.Turns.{HasSent}
use Rattle.rounds.proofs.steps.send_frames.Given as goal

abbrev pub invariant-loop-frame : goal.invariant-loop-frame
invariant-loop-frame g l =
    let networks = l.gateway.shown.networks in
    HasSent g.W.Wire.passes (frames_sent networks l.out.frames) (frames_sent networks l.frame-iterator) l.fn.wire l.wire
