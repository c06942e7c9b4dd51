use Rattle.bind_core.proofs.Changing.{welcomed}
use Rattle.bind_core.proofs.deeds.add_entry.Goals as goal

pub unreachable-requires : goal.unreachable-requires
unreachable-requires c =
    let none = welcomed c.args.table.now c.args.entry c.recall.ensures c.requires.ranges c.requires.within c.requires.key c.requires.endpoint in
    let some = c.in-Err.ensures.refused in
    cc
