use Rattle.std.proofs.Common.{◌≡◌, ◌++◌, drop}
use Rattle.std.specs.List.{flat_map}
use Rattle.settings_file.specs.Works.{all_of_neighbour}
use Rattle.settings_file.proofs.works.add_neighbours.Given as goal

-- what is found, and what is left, is all
abbrev pub invariant-loop-neighbour : goal.invariant-loop-neighbour
invariant-loop-neighbour l = l.found.items ++ flat_map (all_of_neighbour l.settings) (drop l.neighbour-index l.neighbours) ≡ l.fn.found.items ++ flat_map (all_of_neighbour l.settings) l.neighbours
