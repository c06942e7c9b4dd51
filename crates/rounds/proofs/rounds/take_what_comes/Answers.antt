use Rattle.std.proofs.Common.{refl}
use Rattle.rounds.proofs.Turns.{none_had, one_more}
use Rattle.rounds.proofs.rounds.take_what_comes.Goals as goal

pub loop-init : goal.loop-init
loop-init g c = none_had _ _ _ _ _ refl refl

pub loop-preserved : goal.loop-preserved
loop-preserved g c = one_more _ _ _ _ _ _ _ c.loop.invariant c.take_next.ensures.turn

pub returns-then-not-take_next : goal.returns-then-not-take_next
returns-then-not-take_next g c = record { messages = one_more _ _ _ _ _ _ _ c.loop.invariant c.take_next.ensures.turn }
