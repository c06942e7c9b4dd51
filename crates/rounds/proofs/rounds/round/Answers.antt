use Rattle.std.proofs.Common.{refl, inl, inr}
use Rattle.rounds.proofs.Turns.{one_more}
use Rattle.rounds.proofs.rounds.round.Goals as goal

pub returns : goal.returns
returns g c =
    let ticked = one_more g.W.Wire.passes _ _ _ _ _ _ c.take_what_comes.ensures.messages (inr (inl (_, c.take_event.ensures.taken))) in
    record { round = one_more g.W.Wire.passes _ _ _ _ _ _ ticked (inr (inr (refl, c.answer_request.ensures.quiet))) }
