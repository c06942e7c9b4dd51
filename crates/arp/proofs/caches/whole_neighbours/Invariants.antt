use Rattle.std.proofs.Common.{◌≡◌, length, take, vec_len, vec_capacity}
use Rattle.arp.specs.Macs.{AllSix}
use Rattle.arp.proofs.caches.whole_neighbours.Given as goal

-- the copies so far have six bytes each, and the capacity suffices for all
abbrev pub invariant-loop-neighbour : goal.invariant-loop-neighbour
invariant-loop-neighbour l = record {
  same : l.whole.items ≡ take l.neighbour-index l.neighbours;
  six : AllSix (λ n. n.mac) l.whole.items;
  len : vec_len l.whole ≡ l.neighbour-index;
  room : vec_capacity l.whole ≡ length l.neighbours;
}
