use Rattle.vrrp_states.proofs.Lines.{initialize_start, start_again}
use Rattle.vrrp_states.proofs.routers.started.Goals as goal

pub returns-in-Initialize : goal.returns-in-Initialize
returns-in-Initialize c = rw c.behind.ensures (initialize_start c.args.own c.args.status c.args.now c.in-Initialize.is)

pub returns-in_default : goal.returns-in_default
returns-in_default c = start_again c.args.own c.args.status c.args.now c.in_default.not-Initialize
