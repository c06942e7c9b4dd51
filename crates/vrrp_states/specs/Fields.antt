-- How a router is stored: with one time, at which the timer that runs in its state is due.
use Rattle.std.specs.Prelude.{ℕ, Option, Some, None}
use Rattle.vrrp_states.specs.declared.State.{State}
use Rattle.vrrp_states.specs.declared.State.TheVariants.{Initialize, Backup, Active}
use Rattle.vrrp_states.specs.declared.routers.Own.{Own}
use Rattle.vrrp_states.specs.declared.routers.Status.{Status}
use Rattle.vrrp_states.specs.Table.{Router}

-- Adver_Timer runs in Active
abbrev pub adver_timer_of : State → ℕ → Option ℕ
adver_timer_of Initialize due = None
adver_timer_of Backup due = None
adver_timer_of Active due = Some due

-- Active_Down_Timer runs in Backup
abbrev pub active_down_timer_of : State → ℕ → Option ℕ
active_down_timer_of Initialize due = None
active_down_timer_of Backup due = Some due
active_down_timer_of Active due = None

-- the router that the fields of a value describe
abbrev pub router_of : Own → Status → Router
router_of own status = record {
  priority = own.priority;
  interval = own.interval;
  preempt = own.preempt;
  address = own.address.0;
  state = status.state;
  active_interval = status.active_interval;
  adver_timer = adver_timer_of status.state status.due;
  active_down_timer = active_down_timer_of status.state status.due;
}
