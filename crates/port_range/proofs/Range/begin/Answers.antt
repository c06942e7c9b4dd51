use Rattle.std.proofs.Common.{true}
use Rattle.port_range.proofs.Listed.{listed-filled}
use Rattle.port_range.proofs.Range.begin.Goals as goal

pub returns-clause-free : goal.returns-clause-free
returns-clause-free c =
    listed-filled c.args.lowest.0 c.args.highest.0 true c.fill.new.self.free c.if-highest-lowest.false c.fill.ensures.free

pub returns-clause-owned : goal.returns-clause-owned
returns-clause-owned c =
    listed-filled c.args.lowest.0 c.args.highest.0 c.args.owned c.fill.new.self.owned c.if-highest-lowest.false c.fill.ensures.owned
