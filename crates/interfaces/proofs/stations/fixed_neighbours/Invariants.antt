use Rattle.std.proofs.Common.{◌≡◌, length, take, vec_capacity}
use Rattle.interfaces.specs.Stations.{fixed_on}
use Rattle.interfaces.proofs.stations.fixed_neighbours.Given as goal

-- the list has the neighbours so far, and capacity for all
abbrev pub invariant-loop-neighbour : goal.invariant-loop-neighbour
invariant-loop-neighbour l = record {
  items : l.there.items ≡ fixed_on l.side (take l.neighbour-index l.set);
  room : vec_capacity l.there ≡ length (fixed_on l.side l.set);
}
