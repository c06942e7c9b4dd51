use Rattle.bindings.specs.Lists.{put_in, with_state, without}
use Rattle.resync.proofs.Steady.{steady, pairs-put, pairs-turn, pairs-drop}
use Rattle.resync.proofs.laws.steady_batch_law.Goals as goal

pub returns-clause-settled : goal.returns-clause-settled
returns-clause-settled c = steady

pub returns-clause-proposed : goal.returns-clause-proposed
returns-clause-proposed c = λ place owned es e h. steady place owned (put_in e es) es (pairs-put e es h)

pub returns-clause-turned : goal.returns-clause-turned
returns-clause-turned c = λ place owned es key s keys alike. steady place owned (with_state key s es) es (pairs-turn key s es keys alike)

pub returns-clause-dropped : goal.returns-clause-dropped
returns-clause-dropped c = λ place owned es key keys from. steady place owned (without key es) es (pairs-drop key es keys from)
