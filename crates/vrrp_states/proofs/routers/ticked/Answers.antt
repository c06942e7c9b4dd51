use Rattle.vrrp_states.specs.Table.{Tick}
use Rattle.vrrp_states.proofs.Lines.{initialize_other, backup_timer, active_timer, early}
use Rattle.vrrp_states.proofs.routers.ticked.Goals as goal

pub returns-then-now-status : goal.returns-then-now-status
returns-then-now-status c = early c.args.own c.args.status c.args.now c.if-now-status.true

pub returns-in-Initialize : goal.returns-in-Initialize
returns-in-Initialize c = initialize_other c.args.own c.args.status Tick c.args.now c.in-Initialize.is (λ e. absurd (cc))

pub returns-in-Backup : goal.returns-in-Backup
returns-in-Backup c = rw c.ahead.ensures (backup_timer c.args.own c.args.status c.args.now c.in-Backup.is c.if-now-status.false)

pub returns-in-Active : goal.returns-in-Active
returns-in-Active c = rw c.ahead-in-Active.ensures (active_timer c.args.own c.args.status c.args.now c.in-Active.is c.if-now-status.false)
