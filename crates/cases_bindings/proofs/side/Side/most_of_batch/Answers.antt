use Rattle.std.proofs.Common.{arith}
use Rattle.std.proofs.lemmas.Grind.{common_steps}
use Rattle.bind_core.specs.Cores.{book_of}
use Rattle.cases_bindings.proofs.side.Side.most_of_batch.Goals as goal

pub returns : goal.returns
returns c = grind (arith, common_steps, c.rows_leave.ensures.room (book_of c.args.self.now.core))
