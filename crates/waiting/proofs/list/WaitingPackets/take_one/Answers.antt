use Rattle.std.proofs.Common.{not, arith}
use Rattle.waiting.specs.declared.waits.Ended.TheVariants.{One}
use Rattle.waiting.specs.Packets.{HeldPacket}
use Rattle.waiting.specs.Waits.{ends}
use Rattle.waiting.proofs.Octets.{split-octets}
use Rattle.waiting.proofs.Places.{kept-filter}
use Rattle.waiting.proofs.list.WaitingPackets.take_one.Goals as goal

pub invariant_of-self : goal.invariant_of-self
invariant_of-self c =
    (rw c.remove_one.ensures.left (kept-filter (λ (w : HeldPacket). not (ends (One c.args.wait) w.wait)) c.self.inside.packets.items c.self.invariant.0), omega (arith, c.self.invariant.1, c.remove_one.ensures.capacity))

pub returns-clause-octets : goal.returns-clause-octets
returns-clause-octets c =
    rw (c.remove_one.ensures.left, c.remove_one.ensures.taken, ← c.self.view_is) (split-octets (One c.args.wait) c.self.inside.packets.items)
