use Rattle.std.proofs.Common.{◌++◌, take}
use Rattle.link.proofs.Lists.{counted_whole, written_whole}
use Rattle.link.proofs.queue.write_front.Goals as goal

pub returns-clause-items : goal.returns-clause-items
returns-clause-items c =
    written_whole c.args.header.now (take 64 (c.args.fed.now.items ++ c.args.queue.now.items)) c.args.out.now.items c.write_header.new.out.items c.write_oldest.new.out.items (counted_whole c.args.fed.now.items c.args.queue.now.items c.args.header.now.count c.requires.count) c.write_header.ensures.items c.write_oldest.ensures.items
