use Rattle.std.proofs.Common.{arith}
use Rattle.waiting.proofs.Places.{length-most}
use Rattle.waiting.proofs.list.WaitingPackets.len.Goals as goal

pub returns-clause-most : goal.returns-clause-most
returns-clause-most c = omega (arith, length-most c.self.inside.packets.items c.self.invariant.0, c.self.inside.packets.ok, c.len.ensures)
