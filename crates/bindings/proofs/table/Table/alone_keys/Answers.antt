use Rattle.bindings.specs.Table.{is_alone_at}
use Rattle.std.proofs.Common.{false}
use Rattle.bindings.proofs.Resting.{few-passing}
use Rattle.bindings.proofs.table.Table.alone_keys.Goals as goal

pub returns-clause-few : goal.returns-clause-few
returns-clause-few c = few-passing (is_alone_at c.args.self.now) false c.args.now c.args.self.now.entries c.args.self.now.lives
