use Rattle.std.proofs.Common.{◌≡◌, ◌+◌, ◌-◌}
use Rattle.resync.specs.Loading.{all_in}
use Rattle.resync.proofs.loading.lie_in_ranges.Given as goal

-- the ports so far lie in the ranges
abbrev pub invariant-loop-port : goal.invariant-loop-port
invariant-loop-port l = all_in l.zero l.one l.fn.first.0 (l.fn.last.0 + 1 - l.fn.first.0) ≡ all_in l.zero l.one l.port (l.fn.last.0 + 1 - l.port)
