-- Each line of the table, for a router as it is stored.
use Rattle.std.proofs.Common.{◌≡◌, ℕ, zero, suc, ◌+◌, ◌<◌, ◌≤◌, ◌⊎◌, inl, inr, false, refl, sym, subst, arith}
use Rattle.vrrp_states.specs.declared.State.{State}
use Rattle.vrrp_states.specs.declared.State.TheVariants.{Initialize, Backup, Active}
use Rattle.vrrp_states.specs.declared.Action.TheVariants.{Nothing, Advertise, AdvertiseAndArp}
use Rattle.vrrp_states.specs.declared.routers.Own.{Own}
use Rattle.vrrp_states.specs.declared.routers.Status.{Status}
use Rattle.vrrp_states.specs.Table.{Event, Start, Stop, Heard, Tick, InitializeStart, InitializeOther, BackupStop, BackupTimer, BackupPriorityZero, BackupFollows, BackupOther, ActiveStop, ActiveTimer, ActivePriorityZero, ActiveYields, ActiveOther, NothingDue, IsStep, skew_time, active_down_interval}
use Rattle.vrrp_states.specs.Fields.{router_of}

-- the router in Backup that follows one with this interval
abbrev pub behind : Own → ℕ → ℕ → Status
behind own interval now = record { state = Backup; active_interval = interval; due = now + active_down_interval own.priority interval }

-- the router in Active that has just advertised
abbrev pub ahead : Own → Status → ℕ → Status
ahead own status now = record { state = Active; active_interval = status.active_interval; due = now + own.interval }

-- a fact about a router whose state is known holds for the router's status
at : (P : Status → Type 0) (status : Status) (state : State) → status.state ≡ state → P (record status { state = state }) → P status
at P status state is here = subst (λ (x : State). P (record status { state = x })) (sym is) here

pub initialize_start : (own : Own) (status : Status) (now : ℕ) → status.state ≡ Initialize → IsStep (router_of own status) Start now Nothing (router_of own (behind own own.interval now))
initialize_start own status now is = at (λ s. IsStep (router_of own s) Start now Nothing (router_of own (behind own own.interval now))) status Initialize is (InitializeStart, (refl, refl, refl, refl))

pub initialize_other : (own : Own) (status : Status) (event : Event) (now : ℕ) → status.state ≡ Initialize → (event ≡ Start → ⊥) → IsStep (router_of own status) event now Nothing (router_of own status)
initialize_other own status event now is other = at (λ s. IsStep (router_of own s) event now Nothing (router_of own s)) status Initialize is (InitializeOther, (refl, other, refl, refl))

pub backup_stop : (own : Own) (status : Status) (now : ℕ) → status.state ≡ Backup → IsStep (router_of own status) Stop now Nothing (router_of own (record status { state = Initialize }))
backup_stop own status now is = at (λ s. IsStep (router_of own s) Stop now Nothing (router_of own (record s { state = Initialize }))) status Backup is (BackupStop, (refl, refl, refl, refl))

pub backup_timer : (own : Own) (status : Status) (now : ℕ) → status.state ≡ Backup → status.due ≤ now → IsStep (router_of own status) Tick now (AdvertiseAndArp own.priority) (router_of own (ahead own status now))
backup_timer own status now is due = at (λ s. IsStep (router_of own s) Tick now (AdvertiseAndArp own.priority) (router_of own (ahead own s now))) status Backup is (BackupTimer, (refl, refl, due, refl, refl))

pub backup_priority_zero : (own : Own) (status : Status) (priority interval source now : ℕ) → status.state ≡ Backup → priority ≡ 0 → IsStep (router_of own status) (Heard priority interval source) now Nothing (router_of own (record status { due = now + skew_time own.priority status.active_interval }))
backup_priority_zero own status priority interval source now is none = at (λ s. IsStep (router_of own s) (Heard priority interval source) now Nothing (router_of own (record s { due = now + skew_time own.priority s.active_interval }))) status Backup is (subst (λ p. IsStep (router_of own (record status { state = Backup })) (Heard p interval source) now Nothing (router_of own (record status { state = Backup; due = now + skew_time own.priority status.active_interval }))) (sym none) (BackupPriorityZero, (interval, source, refl, refl, refl, refl)))

pub backup_follows : (own : Own) (status : Status) (priority interval source now : ℕ) → status.state ≡ Backup → 0 < priority → ((own.preempt ≡ false) ⊎ (own.priority ≤ priority)) → IsStep (router_of own status) (Heard priority interval source) now Nothing (router_of own (behind own interval now))
backup_follows own status priority interval source now is some follows = at (λ s. IsStep (router_of own s) (Heard priority interval source) now Nothing (router_of own (behind own interval now))) status Backup is (BackupFollows, (priority, interval, source, refl, refl, some, follows, refl, refl))

pub backup_other : (own : Own) (status : Status) (priority interval source now : ℕ) → status.state ≡ Backup → 0 < priority → ((own.preempt ≡ false) ⊎ (own.priority ≤ priority) → ⊥) → IsStep (router_of own status) (Heard priority interval source) now Nothing (router_of own status)
backup_other own status priority interval source now is some ignores = at (λ s. IsStep (router_of own s) (Heard priority interval source) now Nothing (router_of own s)) status Backup is (BackupOther, (priority, interval, source, refl, refl, some, ignores, refl, refl))

pub active_stop : (own : Own) (status : Status) (now : ℕ) → status.state ≡ Active → IsStep (router_of own status) Stop now (Advertise 0) (router_of own (record status { state = Initialize }))
active_stop own status now is = at (λ s. IsStep (router_of own s) Stop now (Advertise 0) (router_of own (record s { state = Initialize }))) status Active is (ActiveStop, (refl, refl, refl, refl))

pub active_timer : (own : Own) (status : Status) (now : ℕ) → status.state ≡ Active → status.due ≤ now → IsStep (router_of own status) Tick now (Advertise own.priority) (router_of own (ahead own status now))
active_timer own status now is due = at (λ s. IsStep (router_of own s) Tick now (Advertise own.priority) (router_of own (ahead own s now))) status Active is (ActiveTimer, (refl, refl, due, refl, refl))

pub active_yields : (own : Own) (status : Status) (priority interval source now : ℕ) → status.state ≡ Active → 0 < priority → ((own.priority < priority) ⊎ ((priority ≡ own.priority) × (own.address.0 < source))) → IsStep (router_of own status) (Heard priority interval source) now Nothing (router_of own (behind own interval now))
active_yields own status priority interval source now is some outranks = at (λ s. IsStep (router_of own s) (Heard priority interval source) now Nothing (router_of own (behind own interval now))) status Active is (ActiveYields, (priority, interval, source, refl, refl, some, outranks, refl, refl))

-- an Active router stays Active and advertises where an advertisement has priority 0 or doesn't outrank it
pub active_stays : (own : Own) (status : Status) (priority interval source now : ℕ) → status.state ≡ Active → (0 < priority → ((own.priority < priority) ⊎ ((priority ≡ own.priority) × (own.address.0 < source))) → ⊥) → IsStep (router_of own status) (Heard priority interval source) now (Advertise own.priority) (router_of own (ahead own status now))
active_stays own status zero interval source now is stays = at (λ s. IsStep (router_of own s) (Heard zero interval source) now (Advertise own.priority) (router_of own (ahead own s now))) status Active is (ActivePriorityZero, (interval, source, refl, refl, refl, refl))
active_stays own status (suc p) interval source now is stays = let some : 0 < suc p = omega arith in at (λ s. IsStep (router_of own s) (Heard (suc p) interval source) now (Advertise own.priority) (router_of own (ahead own s now))) status Active is (ActiveOther, (suc p, interval, source, refl, refl, some, stays some, refl, refl))

-- a start changes nothing where the router runs already
pub start_again : (own : Own) (status : Status) (now : ℕ) → (status.state ≡ Initialize → ⊥) → IsStep (router_of own status) Start now Nothing (router_of own status)
start_again own status now runs = (NothingDue, (runs, inl refl, refl, refl))

-- a tick before the timer is due changes nothing
early_in : (own : Own) (state : State) (active_interval due now : ℕ) → now < due → IsStep (router_of own (record { state = state; active_interval = active_interval; due = due })) Tick now Nothing (router_of own (record { state = state; active_interval = active_interval; due = due }))
early_in own Initialize active_interval due now early = (InitializeOther, (refl, λ e. absurd (cc), refl, refl))
early_in own Backup active_interval due now early = (NothingDue, (λ e. absurd (cc), inr (refl, λ h. let le : due ≤ now = h in absurd (omega arith)), refl, refl))
early_in own Active active_interval due now early = (NothingDue, (λ e. absurd (cc), inr (refl, λ h. let le : due ≤ now = h in absurd (omega arith)), refl, refl))

pub early : (own : Own) (status : Status) (now : ℕ) → now < status.due → IsStep (router_of own status) Tick now Nothing (router_of own status)
early own status now before = early_in own status.state status.active_interval status.due now before
