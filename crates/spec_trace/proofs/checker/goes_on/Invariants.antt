use Rattle.std.proofs.Common.{◌≡◌, take, reverse}
use Rattle.spec_trace.specs.Past as past
use Rattle.spec_trace.proofs.checker.goes_on.Given as goal

abbrev pub invariant-loop-note : goal.invariant-loop-note
invariant-loop-note l = l.on ≡ past.goes_on l.gateway l.pair (reverse (take l.note-index l.trace))
