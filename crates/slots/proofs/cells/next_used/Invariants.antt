use Rattle.std.proofs.Common.{◌≡◌, ℕ, ◌-◌, ◌<◌, ◌≤◌, None, length, get_or}
use Rattle.slots.proofs.cells.next_used.Given as goal

abbrev pub invariant-loop-cell : goal.invariant-loop-cell
invariant-loop-cell l = record {
  begun : l.from ≤ l.cell;
  before : (k : ℕ) → l.from ≤ k → k < l.cell → get_or l.numbers k None ≡ None;
}

abbrev pub decreases-loop-cell : goal.decreases-loop-cell
decreases-loop-cell l = length l.numbers - l.cell
