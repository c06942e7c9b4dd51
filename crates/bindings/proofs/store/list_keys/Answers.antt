use Rattle.std.proofs.Common.{ap, ◌∙◌, length, arith}
use Rattle.std.proofs.lemmas.List.{length-append}
use Rattle.bindings.proofs.Listed.{more-listed}
use Rattle.bindings.proofs.store.list_keys.Goals as goal

pub loop-number-preserved-in-Some-key_at : goal.loop-number-preserved-in-Some-key_at
loop-number-preserved-in-Some-key_at c =
    let i = c.loop-number.invariant in
    let popped = c.in-Some.ensures.some in
    let fewer = ap length popped ∙ length-append c.pop.new.self.found _ in
    let room = i.room in
    let long = c.push_reserved.ensures.len in
    let wide = c.push_reserved.ensures.capacity in
    record {
      listed = rw c.push_reserved.ensures.items (more-listed c.args.slots.now.rows c.args.dues.now.found c.loop-number.dues.found c.pop.new.self.found c.in-Some.number c.in-Some-key_at.key c.loop-number.keys.items popped
          c.in-Some-key_at.ensures.own c.in-Some-key_at.ensures.held i.listed);
      room = omega (arith, fewer, room, long, wide);
      capacity = wide ∙ i.capacity;
      moments = c.in-Some.ensures.moments ∙ i.moments;
    }
