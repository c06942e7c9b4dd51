use Rattle.std.proofs.Common.{length, ◌≤◌, ◌≡◌}
use Rattle.control.proofs.client.read_to_end.Given as goal

abbrev pub invariant-loop : goal.invariant-loop
invariant-loop g l = record {
  same : length l.buffer ≡ length l.fn.buffer;
  within : l.count ≤ length l.buffer;
}
