-- The state table of a VRRP router that doesn't own the virtual address (RFC 9568, section 6). Times are centiseconds.
use Rattle.std.specs.Prelude.{◌≡◌, ℕ, ◌+◌, ◌-◌, ◌*◌, ◌/◌, ◌<◌, ◌≤◌, Bool, false, Option, Some, None, ◌⊎◌}
use Rattle.vrrp_states.specs.declared.State.{State}
use Rattle.vrrp_states.specs.declared.State.TheVariants.{Initialize, Backup, Active}
use Rattle.vrrp_states.specs.declared.Action.{Action}
use Rattle.vrrp_states.specs.declared.Action.TheVariants.{Nothing, Advertise, AdvertiseAndArp}

-- a router: its own values (section 6.1), its state, and the times at which its timers (section 6.2) are due
pub record Router : Type 0 where
  pub priority : ℕ
  pub interval : ℕ
  pub preempt : Bool
  pub address : ℕ
  pub state : State
  pub active_interval : ℕ
  pub adver_timer : Option ℕ
  pub active_down_timer : Option ℕ

-- the limits of a router's own values; 255 is the priority of the address owner
abbrev pub IsPriority : ℕ → Type 0
IsPriority priority = (1 ≤ priority) × (priority ≤ 254)

abbrev pub IsInterval : ℕ → Type 0
IsInterval interval = (1 ≤ interval) × (interval ≤ 4095)

-- a router before its first event
abbrev pub new_router : ℕ → ℕ → Bool → ℕ → Router
new_router priority interval preempt address = record {
  priority = priority;
  interval = interval;
  preempt = preempt;
  address = address;
  state = Initialize;
  active_interval = interval;
  adver_timer = None;
  active_down_timer = None;
}

-- a time of the router's clock, in centiseconds
abbrev pub IsMoment : ℕ → Type 0
IsMoment now = now ≤ 4000000000000

-- what a router receives; an advertisement with its priority, its interval and the address that it comes from
pub data Event : Type 0 where
  Start : Event
  Stop : Event
  Heard : (priority interval source : ℕ) → Event
  Tick : Event

-- Skew_Time (section 6.1), rounded down
abbrev pub skew_time : ℕ → ℕ → ℕ
skew_time priority interval = ((256 - priority) * interval) / 256

-- Active_Down_Interval (section 6.1)
abbrev pub active_down_interval : ℕ → ℕ → ℕ
active_down_interval priority interval = 3 * interval + skew_time priority interval

-- a timer runs and is due at this time
abbrev pub IsDue : Option ℕ → ℕ → Type 0
IsDue None now = ⊥
IsDue (Some due) now = due ≤ now

-- the timer that runs in a state
abbrev pub timer_of : State → Router → Option ℕ
timer_of Initialize router = None
timer_of Backup router = router.active_down_timer
timer_of Active router = router.adver_timer

-- an advertisement is of higher priority, or of equal priority from a greater address (section 6.4.3)
abbrev pub Outranks : ℕ → ℕ → Router → Type 0
Outranks priority source router =
    (router.priority < priority) ⊎ ((priority ≡ router.priority) × (router.address < source))

-- a router in Backup follows one of this priority, and stays in Backup (section 6.4.2)
abbrev pub Follows : Router → ℕ → Type 0
Follows router priority = (router.preempt ≡ false) ⊎ (router.priority ≤ priority)

-- the lines of the table
pub data Line : Type 0 where
  InitializeStart : Line
  InitializeOther : Line
  BackupStop : Line
  BackupTimer : Line
  BackupPriorityZero : Line
  BackupFollows : Line
  BackupOther : Line
  ActiveStop : Line
  ActiveTimer : Line
  ActivePriorityZero : Line
  ActiveYields : Line
  ActiveOther : Line
  NothingDue : Line

-- What a line says: the router before, the event, the time, what is sent, the router afterwards.
abbrev pub Says : Line → Router → Event → ℕ → Action → Router → Type 0
-- Initialize, start: Active_Adver_Interval := own interval; Active_Down_Timer := Active_Down_Interval; Backup
-- (section 6.4.1).
Says InitializeStart router event now action after =
    (router.state ≡ Initialize) × (event ≡ Start) × (action ≡ Nothing)
    × (after ≡ record router {
      state = Backup;
      active_interval = router.interval;
      active_down_timer = Some (now + active_down_interval router.priority router.interval);
    })
-- Initialize, all others: nothing.
Says InitializeOther router event now action after =
    (router.state ≡ Initialize) × (event ≡ Start → ⊥) × (action ≡ Nothing) × (after ≡ router)
-- Backup, stop: cancel the timer; Initialize (section 6.4.2, as the lines on Backup below).
Says BackupStop router event now action after =
    (router.state ≡ Backup) × (event ≡ Stop) × (action ≡ Nothing)
    × (after ≡ record router { state = Initialize; active_down_timer = None })
-- Backup, Active_Down_Timer due: advertise; gratuitous ARP; Adver_Timer := own interval; Active.
Says BackupTimer router event now action after =
    (router.state ≡ Backup) × (event ≡ Tick) × IsDue router.active_down_timer now
    × (action ≡ AdvertiseAndArp router.priority)
    × (after ≡ record router {
      state = Active;
      active_down_timer = None;
      adver_timer = Some (now + router.interval);
    })
-- Backup, advertisement of priority 0: Active_Down_Timer := Skew_Time.
Says BackupPriorityZero router event now action after = (interval source : ℕ)
    × (router.state ≡ Backup) × (event ≡ Heard 0 interval source) × (action ≡ Nothing)
    × (after ≡ record router {
      active_down_timer = Some (now + skew_time router.priority router.active_interval);
    })
-- Backup, advertisement of a priority above 0, and preempt is false or its priority is at least the own:
-- Active_Adver_Interval := its interval; Active_Down_Timer := Active_Down_Interval.
Says BackupFollows router event now action after = (priority interval source : ℕ)
    × (router.state ≡ Backup) × (event ≡ Heard priority interval source) × (0 < priority)
    × Follows router priority × (action ≡ Nothing)
    × (after ≡ record router {
      active_interval = interval;
      active_down_timer = Some (now + active_down_interval router.priority interval);
    })
-- Backup, other advertisement: nothing.
Says BackupOther router event now action after = (priority interval source : ℕ)
    × (router.state ≡ Backup) × (event ≡ Heard priority interval source) × (0 < priority)
    × (Follows router priority → ⊥) × (action ≡ Nothing) × (after ≡ router)
-- Active, stop: cancel the timer; advertise priority 0; Initialize (section 6.4.3, as the lines on Active below).
Says ActiveStop router event now action after =
    (router.state ≡ Active) × (event ≡ Stop) × (action ≡ Advertise 0)
    × (after ≡ record router { state = Initialize; adver_timer = None })
-- Active, Adver_Timer due: advertise; Adver_Timer := own interval.
Says ActiveTimer router event now action after =
    (router.state ≡ Active) × (event ≡ Tick) × IsDue router.adver_timer now
    × (action ≡ Advertise router.priority)
    × (after ≡ record router { adver_timer = Some (now + router.interval) })
-- Active, advertisement of priority 0: advertise; Adver_Timer := own interval.
Says ActivePriorityZero router event now action after = (interval source : ℕ)
    × (router.state ≡ Active) × (event ≡ Heard 0 interval source)
    × (action ≡ Advertise router.priority)
    × (after ≡ record router { adver_timer = Some (now + router.interval) })
-- Active, advertisement of higher priority, or of equal priority from a greater address: cancel Adver_Timer;
-- Active_Adver_Interval := its interval; Active_Down_Timer := Active_Down_Interval; Backup.
Says ActiveYields router event now action after = (priority interval source : ℕ)
    × (router.state ≡ Active) × (event ≡ Heard priority interval source) × (0 < priority)
    × Outranks priority source router × (action ≡ Nothing)
    × (after ≡ record router {
      state = Backup;
      adver_timer = None;
      active_interval = interval;
      active_down_timer = Some (now + active_down_interval router.priority interval);
    })
-- Active, other advertisement: discard it; advertise; Adver_Timer := own interval.
Says ActiveOther router event now action after = (priority interval source : ℕ)
    × (router.state ≡ Active) × (event ≡ Heard priority interval source) × (0 < priority)
    × (Outranks priority source router → ⊥) × (action ≡ Advertise router.priority)
    × (after ≡ record router { adver_timer = Some (now + router.interval) })
-- Backup, Active: start, or a tick at which its timer isn't due: nothing.
Says NothingDue router event now action after =
    (router.state ≡ Initialize → ⊥)
    × ((event ≡ Start) ⊎ ((event ≡ Tick) × (IsDue (timer_of router.state router) now → ⊥)))
    × (action ≡ Nothing) × (after ≡ router)

-- A step is a line of the table.
abbrev pub IsStep : Router → Event → ℕ → Action → Router → Type 0
IsStep router event now action after = (line : Line) × Says line router event now action after
