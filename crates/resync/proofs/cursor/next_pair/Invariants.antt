use Rattle.std.proofs.Common.{◌≡◌, ◌-◌}
use Rattle.resync.specs.Cursor.{pairs_behind, place_after}
use Rattle.resync.proofs.cursor.next_pair.Given as goal

-- none of the entries passed is settled
abbrev pub invariant-loop-entry : goal.invariant-loop-entry
invariant-loop-entry l = pairs_behind l.fn.last l.table.entries ≡ pairs_behind l.last l.table.entries

abbrev pub decreases-loop-entry : goal.decreases-loop-entry
decreases-loop-entry l = 2000000 - place_after l.last
