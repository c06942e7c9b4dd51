use Rattle.std.proofs.Common.{◌++◌, List, ap, ◌∙◌, arith}
use Rattle.std.specs.List.{flat_map}
use Rattle.nat_types.specs.declared.records.Record.{Record}
use Rattle.link.specs.Grammar.{record_bytes}
use Rattle.link.proofs.Lists.{taken_whole, written_next}
use Rattle.link.proofs.queue.write_oldest.Goals as goal

pub loop-i-preserved : goal.loop-i-preserved
loop-i-preserved c =
    let len = c.write_entry.ensures.len in
    let room = c.loop-i.invariant.room in
    let capacity = c.write_entry.ensures.capacity in
    let before = c.loop-i.invariant.capacity in
    record {
      so_far = written_next (c.args.fed.now.items ++ c.args.queue.now.items) c.loop-i.i c.args.out.now.items c.loop-i.out.items c.write_entry.new.out.items c.item.result c.item.ensures c.loop-i.invariant.so_far c.write_entry.ensures.items;
      room = omega (arith, len, room);
      capacity = omega (arith, capacity, before);
    }

pub returns-clause-items : goal.returns-clause-items
returns-clause-items c =
    c.loop-i.invariant.so_far
    ∙ ap (λ (rs : List Record). c.args.out.now.items ++ flat_map record_bytes rs)
    (taken_whole c.args.fed.now.items c.args.queue.now.items c.loop-i.i (omega (arith, c.loop-i-test.false, c.loop-i.auto.i-end, c.front_count-i-end.ensures)))
