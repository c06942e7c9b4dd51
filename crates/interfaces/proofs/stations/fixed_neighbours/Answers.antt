use Rattle.std.proofs.Common.{length, ap, sym, ◌∙◌, arith}
use Rattle.interfaces.proofs.Listing.{on-room}
use Rattle.interfaces.proofs.stations.fixed_neighbours.Goals as goal

pub push_reserved-requires : goal.push_reserved-requires
push_reserved-requires c =
    omega (arith, c.loop-neighbour.there.ok, c.loop-neighbour.invariant.room, ap length c.loop-neighbour.invariant.items, on-room c.args.side c.args.set.now c.loop-neighbour.neighbour-index _ c.loop-neighbour-test.true (sym c.is_on.ensures ∙ c.if-is_on.true))
