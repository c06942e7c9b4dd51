use Rattle.std.proofs.Common.{arith}
use Rattle.bind_core.proofs.cores.Core.list_sought.Goals as goal

pub append_sought-requires-clause-sent : goal.append_sought-requires-clause-sent
append_sought-requires-clause-sent c = record { highest = c.self.invariant.book.highest; pairs = c.self.invariant.book.formed }

pub append_sought-requires-clause-room : goal.append_sought-requires-clause-room
append_sought-requires-clause-room c =
    let within = c.recall.ensures.within in
    let room = c.self.invariant.room in
    let len = c.clear.ensures.len in
    let capacity = c.clear.ensures.capacity in
    omega (arith, within, room, len, capacity)

pub invariant_of-self : goal.invariant_of-self
invariant_of-self c =
    let room = c.self.invariant.room in
    let capacity = c.clear.ensures.capacity in
    let more = c.append_sought.ensures.capacity in
    record {
      book = c.self.invariant.book;
      bounds = c.self.invariant.bounds;
      zero = c.self.invariant.zero;
      one = c.self.invariant.one;
      room = omega (arith, room, capacity, more);
    }
