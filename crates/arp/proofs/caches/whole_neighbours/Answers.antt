use Rattle.std.proofs.Common.{[], ◌∷◌, sym, arith}
use Rattle.std.proofs.lemmas.List.{take_more}
use Rattle.arp.specs.declared.caches.Neighbour.{Neighbour}
use Rattle.arp.proofs.Wholes.{append-six}
use Rattle.arp.proofs.caches.whole_neighbours.Goals as goal

pub loop-neighbour-preserved : goal.loop-neighbour-preserved
loop-neighbour-preserved c = record {
  same = rw (c.push_reserved.ensures.items, c.whole_neighbour.ensures.same, c.loop-neighbour.invariant.same) (sym (take_more c.args.neighbours.now c.loop-neighbour.neighbour-index _ c.loop-neighbour-test.true));
  six = rw c.push_reserved.ensures.items (append-six (λ (n : Neighbour). n.mac) _ (c.whole_neighbour.result ∷ []) c.loop-neighbour.invariant.six (c.whole_neighbour.ensures.six, tt));
  len = omega (arith, c.push_reserved.ensures.len, c.loop-neighbour.invariant.len);
  room = omega (arith, c.push_reserved.ensures.capacity, c.loop-neighbour.invariant.room);
}
