use Rattle.std.proofs.Common.{◌≡◌, ◌++◌, take, drop}
use Rattle.link.specs.Link.{takeable}
use Rattle.link.proofs.queue.takeable_count.Given as goal

abbrev pub invariant-loop-entry : goal.invariant-loop-entry
invariant-loop-entry l = record {
  so_far : take l.entry-index l.records ++ takeable l.left (drop l.entry-index l.records) ≡ takeable l.places l.records;
  count : l.count ≡ l.entry-index;
}
