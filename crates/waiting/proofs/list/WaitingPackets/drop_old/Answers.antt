use Rattle.waiting.specs.Packets.{is_young}
use Rattle.waiting.proofs.Octets.{fewer-octets}
use Rattle.waiting.proofs.Places.{kept-filter}
use Rattle.std.proofs.Common.{arith}
use Rattle.waiting.proofs.list.WaitingPackets.drop_old.Goals as goal

pub invariant_of-self : goal.invariant_of-self
invariant_of-self c =
    (rw c.retain_young.ensures.items (kept-filter (is_young c.args.now) c.self.inside.packets.items c.self.invariant.0), omega (arith, c.self.invariant.1, c.retain_young.ensures.capacity))

pub returns-clause-octets : goal.returns-clause-octets
returns-clause-octets c = rw (c.retain_young.ensures.items, ← c.self.view_is) (fewer-octets (is_young c.args.now) c.self.inside.packets.items)
