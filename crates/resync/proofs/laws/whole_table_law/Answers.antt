use Rattle.resync.proofs.Holding.{table-loads, draws-join, left-ports}
use Rattle.resync.proofs.laws.whole_table_law.Goals as goal

pub returns-clause-loaded : goal.returns-clause-loaded
returns-clause-loaded c = table-loads

pub returns-clause-drawn : goal.returns-clause-drawn
returns-clause-drawn c = draws-join

pub returns-clause-ports : goal.returns-clause-ports
returns-clause-ports c = λ t port. left-ports t.zero t.one t.owned port
