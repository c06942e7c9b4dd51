use Rattle.resync.proofs.Offered.{table-strict}
use Rattle.gateway.proofs.Behind.{next-of, none-of}
use Rattle.gateway.proofs.entries.entry_after.Goals as goal

pub returns-clause-next : goal.returns-clause-next
returns-clause-next c = next-of c.args.last c.args.table.now.entries c.entry_after.result (table-strict c.args.table.now c.recall.ensures c.requires) c.entry_after.ensures

pub returns-clause-none : goal.returns-clause-none
returns-clause-none c = none-of c.args.last c.args.table.now.entries c.entry_after.result c.entry_after.ensures
