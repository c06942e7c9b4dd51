use Rattle.std.proofs.Common.{rules}
use Rattle.frames.proofs.Frames.{frame-puts_dst}
use Rattle.frames.proofs.ethernet.EthViewMut.set_dst.Goals as goal

pub returns-clause-frame : goal.returns-clause-frame
returns-clause-frame c = frame-puts_dst c.args.dst.0 c.args.self.now.bytes.now _ (search rules) (search rules) (search rules)
