use Rattle.std.proofs.Common.{arith}
use Rattle.waiting.proofs.Asked.{kept-asked}
use Rattle.waiting.proofs.list.WaitingPackets.ask_again.Goals as goal

pub invariant_of-self : goal.invariant_of-self
invariant_of-self c =
    (rw c.note_asked.ensures.items (kept-asked c.args.now c.args.wait c.self.inside.packets.items c.self.invariant.0), omega (arith, c.self.invariant.1, c.note_asked.ensures.capacity))
