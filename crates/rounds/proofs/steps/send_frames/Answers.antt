use Rattle.rounds.proofs.Turns.{frames_first, sent_some}
use Rattle.rounds.proofs.steps.send_frames.Goals as goal

pub loop-frame-preserved : goal.loop-frame-preserved
loop-frame-preserved g c =
    let next = frames_first c.args.gateway.now.shown.networks _ _ _ (rw c.in-Some.is at c.next.ensures.steps) in
    sent_some _ _ _ _ _ _ _ _ c.loop-frame.invariant next (rw (c.mtu.ensures.value) at c.send_frame.ensures.sent)
