use Rattle.rewrite.proofs.Moved.{moved-by}
use Rattle.rewrite.proofs.segments.moved_by.Goals as goal

pub returns : goal.returns
returns c = moved-by c.args.checksum c.args.old.0 c.args.new.0 c.update.result c.update.ensures
