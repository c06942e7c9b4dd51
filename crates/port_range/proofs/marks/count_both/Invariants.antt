use Rattle.std.proofs.Common.{◌≡◌, ◌*◌}
use Rattle.port_range.specs.Counts.{count_below}
use Rattle.port_range.specs.Marks.{has_both}
use Rattle.port_range.proofs.marks.count_both.Given as goal

-- the ports of the words so far are counted
abbrev pub invariant-loop-index : goal.invariant-loop-index
invariant-loop-index l = l.count ≡ count_below (has_both l.free l.owned) (64 * l.index)
