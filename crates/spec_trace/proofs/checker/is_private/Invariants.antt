use Rattle.std.proofs.Common.{◌≡◌, take, reverse}
use Rattle.spec_trace.specs.Past as past
use Rattle.spec_trace.proofs.checker.is_private.Given as goal

abbrev pub invariant-loop-note : goal.invariant-loop-note
invariant-loop-note l = l.private ≡ past.is_private l.gateway l.pair (reverse (take l.note-index l.trace))
