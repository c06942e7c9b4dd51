use Rattle.std.proofs.Common.{refl, inr}
use Rattle.rounds.proofs.Turns.{heard, unheard}
use Rattle.rounds.proofs.rounds.take_next.Goals as goal

pub returns-in-Ok-Some : goal.returns-in-Ok-Some
returns-in-Ok-Some g c = record {
  turn =
      heard g.W.Wire.passes _ _ _ _ _ c.in-Ok-Some.place c.in-Ok-Some.count c.receive.new.buffer c.in-Ok-Some.field-0 c.in-Ok-Some.field-0-is
      c.in-Ok-Some.ensures.passes c.take_message.ensures.taken;
}

pub returns-in-Ok-None : goal.returns-in-Ok-None
returns-in-Ok-None g c = record {
  turn =
      unheard g.W.Wire.passes _ _ _ c.receive.new.buffer c.in-Ok-None.field-0 c.in-Ok-None.field-0-is c.in-Ok-None.ensures.passes;
}

pub returns-in-Err : goal.returns-in-Err
returns-in-Err g c = record { turn = inr (inr (refl, inr c.in-Err.ensures.passes)) }
