use Rattle.std.proofs.Common.{◌≡◌, length}
use Rattle.ipv4.specs.Options.{has_source_route}
use Rattle.ipv4.proofs.options.has_source_route.Given as goal

abbrev pub invariant-loop-rest : goal.invariant-loop-rest
invariant-loop-rest l = has_source_route l.rest ≡ has_source_route l.options

abbrev pub decreases-loop-rest : goal.decreases-loop-rest
decreases-loop-rest l = length l.rest
