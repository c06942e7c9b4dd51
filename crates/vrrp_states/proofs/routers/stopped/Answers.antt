use Rattle.vrrp_states.specs.Table.{Stop}
use Rattle.vrrp_states.proofs.Lines.{initialize_other, backup_stop, active_stop}
use Rattle.vrrp_states.proofs.routers.stopped.Goals as goal

pub returns-in-Initialize : goal.returns-in-Initialize
returns-in-Initialize c now = initialize_other c.args.own c.args.status Stop now c.in-Initialize.is (λ e. absurd (cc))

pub returns-in-Backup : goal.returns-in-Backup
returns-in-Backup c now = backup_stop c.args.own c.args.status now c.in-Backup.is

pub returns-in-Active : goal.returns-in-Active
returns-in-Active c now = active_stop c.args.own c.args.status now c.in-Active.is
