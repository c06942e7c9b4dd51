use Rattle.std.proofs.Common.{◌≡◌, take, reverse}
use Rattle.spec_trace.specs.Past as past
use Rattle.spec_trace.proofs.checker.has_released.Given as goal

abbrev pub invariant-loop-note : goal.invariant-loop-note
invariant-loop-note l = l.gone ≡ past.has_released l.gateway l.pair (reverse (take l.note-index l.trace))
