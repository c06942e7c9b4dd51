use Rattle.std.proofs.Common.{◌≡◌, drop}
use Rattle.arp.specs.Neighbours.{fixed_mac}
use Rattle.arp.proofs.caches.fixed_mac.Given as goal

-- what is found in the neighbours that are left is what is found in all
abbrev pub invariant-loop-neighbour : goal.invariant-loop-neighbour
invariant-loop-neighbour l = fixed_mac l.address.0 (drop l.neighbour-index l.neighbours) ≡ fixed_mac l.address.0 l.neighbours
