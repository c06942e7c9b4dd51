-- For each router, event and time exactly one line of the table holds, and that line determines what is sent and what
-- the router is afterwards.
use Rattle.std.proofs.Common.{◌≡◌, ℕ, ◌+◌, ◌<◌, ◌≤◌, ◌⊎◌, inl, inr, false, Option, Some, None, refl, sym, ap, ap₂, subst, ◌∙◌, arith}
use Rattle.std.proofs.lemmas.Bool.{cases_Bool, cases_order, both_ways}
use Rattle.std.proofs.lemmas.Bool.Decides.{leb_tells}
use Rattle.vrrp_states.specs.declared.State.{State}
use Rattle.vrrp_states.specs.declared.State.TheVariants.{Initialize, Backup, Active}
use Rattle.vrrp_states.specs.declared.Action.{Action}
use Rattle.vrrp_states.specs.declared.Action.TheVariants.{Nothing, Advertise, AdvertiseAndArp}
use Rattle.vrrp_states.specs.Table.{Router, Event, Start, Stop, Heard, Tick, IsDue, timer_of, Outranks, Line, InitializeStart, InitializeOther, BackupStop, BackupTimer, BackupPriorityZero, BackupFollows, BackupOther, ActiveStop, ActiveTimer, ActivePriorityZero, ActiveYields, ActiveOther, NothingDue, Says, IsStep, active_down_interval}

-- a fact holds or doesn't
abbrev Decided : Type 0 → Type 0
Decided P = P ⊎ (P → ⊥)

due_or : (timer : Option ℕ) (now : ℕ) → Decided (IsDue timer now)
due_or None now = inr (λ h. h)
due_or (Some due) now = elim (leb_tells due now) [
  | inl holds ↦ inl holds.1
  | inr fails ↦ inr (λ (h : due ≤ now). let late : now < due = fails.1 in absurd (omega arith))
]

zero_or : (priority : ℕ) → Decided (priority ≡ 0)
zero_or priority = elim (leb_tells priority 0) [
  | inl holds ↦ inl (let le : priority ≤ 0 = holds.1 in omega arith)
  | inr fails ↦ inr (λ (h : priority ≡ 0). let some : 0 < priority = fails.1 in absurd (omega arith))
]

-- preempt is false, or the advertisement's priority is at least the own
abbrev Follows : Router → ℕ → Type 0
Follows router priority = (router.preempt ≡ false) ⊎ (router.priority ≤ priority)

follows_or : (router : Router) (priority : ℕ) → Decided (Follows router priority)
follows_or router priority = elim (leb_tells router.priority priority) [
  | inl holds ↦ inl (inr holds.1)
  | inr fails ↦ elim (cases_Bool router.preempt) [
    | inl on ↦ inr (λ (h : Follows router priority). elim h [
      | inl off ↦ both_ways router.preempt off on
      | inr le ↦ let less : priority < router.priority = fails.1 in absurd (omega arith)
    ])
    | inr off ↦ inl (inl off)
  ]
]

outranks_or : (router : Router) (priority source : ℕ) → Decided (Outranks priority source router)
outranks_or router priority source = elim (cases_order priority router.priority) [
  | inl e ↦ elim (leb_tells source router.address) [
    | inl holds ↦ inr (λ (h : Outranks priority source router). elim h [
      | inl more ↦ absurd (omega arith)
      | inr greater ↦ let le : source ≤ router.address = holds.1 in let lt : router.address < source = greater.1 in absurd (omega arith)
    ])
    | inr fails ↦ inl (inr (e, fails.1))
  ]
  | inr d ↦ elim d [
    | inl less ↦ inr (λ (h : Outranks priority source router). elim h [
      | inl more ↦ absurd (omega arith)
      | inr greater ↦ let e : priority ≡ router.priority = greater.0 in absurd (omega arith)
    ])
    | inr more ↦ inl (inl more)
  ]
]

pick : (P : Type 0) → Decided P → Line → Line → Line
pick P (inl holds) a b = a
pick P (inr fails) a b = b

pick_yes : (P : Type 0) (d : Decided P) (a b : Line) → P → a ≡ pick P d a b
unfolding pick
pick_yes P (inl holds) a b h = refl
pick_yes P (inr fails) a b h = absurd (fails h)

pick_no : (P : Type 0) (d : Decided P) (a b : Line) → (P → ⊥) → b ≡ pick P d a b
unfolding pick
pick_no P (inl holds) a b h = absurd (h holds)
pick_no P (inr fails) a b h = refl

-- the one line that can hold
abbrev choose : State → Event → Router → ℕ → Line
choose Initialize Start r now = InitializeStart
choose Initialize Stop r now = InitializeOther
choose Initialize (Heard p i s) r now = InitializeOther
choose Initialize Tick r now = InitializeOther
choose Backup Start r now = NothingDue
choose Backup Stop r now = BackupStop
choose Backup (Heard p i s) r now = pick (p ≡ 0) (zero_or p) BackupPriorityZero (pick (Follows r p) (follows_or r p) BackupFollows BackupOther)
choose Backup Tick r now = pick (IsDue r.active_down_timer now) (due_or r.active_down_timer now) BackupTimer NothingDue
choose Active Start r now = NothingDue
choose Active Stop r now = ActiveStop
choose Active (Heard p i s) r now = pick (p ≡ 0) (zero_or p) ActivePriorityZero (pick (Outranks p s r) (outranks_or r p s) ActiveYields ActiveOther)
choose Active Tick r now = pick (IsDue r.adver_timer now) (due_or r.adver_timer now) ActiveTimer NothingDue

-- a line for a known state and event is the line for a router and an event equal to them
known : (line : Line) (state : State) (event : Event) (r : Router) (e : Event) (now : ℕ) → r.state ≡ state → e ≡ event → line ≡ choose state event r now → line ≡ choose r.state e r now
known line state event r e now is told here = here ∙ ap₂ (λ (x : State) (y : Event). choose x y r now) (sym is) (sym told)

other_line : (e : Event) (r : Router) (now : ℕ) → (e ≡ Start → ⊥) → InitializeOther ≡ choose Initialize e r now
other_line Start r now other = absurd (other refl)
other_line Stop r now other = refl
other_line (Heard p i s) r now other = refl
other_line Tick r now other = refl

rest_line : (state : State) (e : Event) (r : Router) (now : ℕ) → (state ≡ Initialize → ⊥) → ((e ≡ Start) ⊎ ((e ≡ Tick) × (IsDue (timer_of state r) now → ⊥))) → NothingDue ≡ choose state e r now
rest_line Initialize e r now runs h = absurd (runs refl)
rest_line Backup e r now runs (inl told) = ap (λ (y : Event). choose Backup y r now) (sym told)
rest_line Backup e r now runs (inr h) = pick_no (IsDue r.active_down_timer now) (due_or r.active_down_timer now) BackupTimer NothingDue h.1 ∙ ap (λ (y : Event). choose Backup y r now) (sym h.0)
rest_line Active e r now runs (inl told) = ap (λ (y : Event). choose Active y r now) (sym told)
rest_line Active e r now runs (inr h) = pick_no (IsDue r.adver_timer now) (due_or r.adver_timer now) ActiveTimer NothingDue h.1 ∙ ap (λ (y : Event). choose Active y r now) (sym h.0)

-- an advertisement of a priority above 0 isn't of the line for priority 0
heard_line : (line : Line) (p : ℕ) (first rest : Line) → 0 < p → line ≡ rest → line ≡ pick (p ≡ 0) (zero_or p) first rest
heard_line line p first rest some e = e ∙ pick_no (p ≡ 0) (zero_or p) first rest (λ (h : p ≡ 0). absurd (omega arith))

chosen : (line : Line) (r : Router) (e : Event) (now : ℕ) (a : Action) (s : Router) → Says line r e now a s → line ≡ choose r.state e r now
chosen InitializeStart r e now a s h = known InitializeStart Initialize Start r e now h.0 h.1 refl
chosen InitializeOther r e now a s h = other_line e r now h.1 ∙ ap (λ (x : State). choose x e r now) (sym h.0)
chosen BackupStop r e now a s h = known BackupStop Backup Stop r e now h.0 h.1 refl
chosen BackupTimer r e now a s h = known BackupTimer Backup Tick r e now h.0 h.1 (pick_yes (IsDue r.active_down_timer now) (due_or r.active_down_timer now) BackupTimer NothingDue h.2)
chosen BackupPriorityZero r e now a s h = known BackupPriorityZero Backup (Heard 0 h.0 h.1) r e now h.2 h.3 (pick_yes (0 ≡ 0) (zero_or 0) BackupPriorityZero (pick (Follows r 0) (follows_or r 0) BackupFollows BackupOther) refl)
chosen BackupFollows r e now a s h = known BackupFollows Backup (Heard h.0 h.1 h.2) r e now h.3 h.4 (heard_line BackupFollows h.0 BackupPriorityZero (pick (Follows r h.0) (follows_or r h.0) BackupFollows BackupOther) h.5 (pick_yes (Follows r h.0) (follows_or r h.0) BackupFollows BackupOther h.6))
chosen BackupOther r e now a s h = known BackupOther Backup (Heard h.0 h.1 h.2) r e now h.3 h.4 (heard_line BackupOther h.0 BackupPriorityZero (pick (Follows r h.0) (follows_or r h.0) BackupFollows BackupOther) h.5 (pick_no (Follows r h.0) (follows_or r h.0) BackupFollows BackupOther h.6))
chosen ActiveStop r e now a s h = known ActiveStop Active Stop r e now h.0 h.1 refl
chosen ActiveTimer r e now a s h = known ActiveTimer Active Tick r e now h.0 h.1 (pick_yes (IsDue r.adver_timer now) (due_or r.adver_timer now) ActiveTimer NothingDue h.2)
chosen ActivePriorityZero r e now a s h = known ActivePriorityZero Active (Heard 0 h.0 h.1) r e now h.2 h.3 (pick_yes (0 ≡ 0) (zero_or 0) ActivePriorityZero (pick (Outranks 0 h.1 r) (outranks_or r 0 h.1) ActiveYields ActiveOther) refl)
chosen ActiveYields r e now a s h = known ActiveYields Active (Heard h.0 h.1 h.2) r e now h.3 h.4 (heard_line ActiveYields h.0 ActivePriorityZero (pick (Outranks h.0 h.2 r) (outranks_or r h.0 h.2) ActiveYields ActiveOther) h.5 (pick_yes (Outranks h.0 h.2 r) (outranks_or r h.0 h.2) ActiveYields ActiveOther h.6))
chosen ActiveOther r e now a s h = known ActiveOther Active (Heard h.0 h.1 h.2) r e now h.3 h.4 (heard_line ActiveOther h.0 ActivePriorityZero (pick (Outranks h.0 h.2 r) (outranks_or r h.0 h.2) ActiveYields ActiveOther) h.5 (pick_no (Outranks h.0 h.2 r) (outranks_or r h.0 h.2) ActiveYields ActiveOther h.6))
chosen NothingDue r e now a s h = rest_line r.state e r now h.0 h.1

-- no two lines hold at once
pub one_line : (r : Router) (e : Event) (now : ℕ) (a b : Action) (s t : Router) (l m : Line) → Says l r e now a s → Says m r e now b t → l ≡ m
one_line r e now a b s t l m h k = chosen l r e now a s h ∙ sym (chosen m r e now b t k)

same_interval : (p q i j x y : ℕ) → Heard p i x ≡ Heard q j y → i ≡ j
same_interval p q i j x y e = cc

follow_on : (r : Router) (now i j : ℕ) → i ≡ j → (record r { active_interval = i; active_down_timer = Some (now + active_down_interval r.priority i) }) ≡ record r { active_interval = j; active_down_timer = Some (now + active_down_interval r.priority j) }
follow_on r now i j e = ap (λ (x : ℕ). let s : Router = record r { active_interval = x; active_down_timer = Some (now + active_down_interval r.priority x) } in s) e

yield_to : (r : Router) (now i j : ℕ) → i ≡ j → (record r { state = Backup; adver_timer = None; active_interval = i; active_down_timer = Some (now + active_down_interval r.priority i) }) ≡ record r { state = Backup; adver_timer = None; active_interval = j; active_down_timer = Some (now + active_down_interval r.priority j) }
yield_to r now i j e = ap (λ (x : ℕ). let s : Router = record r { state = Backup; adver_timer = None; active_interval = x; active_down_timer = Some (now + active_down_interval r.priority x) } in s) e

-- one line determines one outcome
same_line : (l : Line) (r : Router) (e : Event) (now : ℕ) (a b : Action) (s t : Router) → Says l r e now a s → Says l r e now b t → (a ≡ b) × (s ≡ t)
same_line InitializeStart r e now a b s t h k = (h.2 ∙ sym k.2, h.3 ∙ sym k.3)
same_line InitializeOther r e now a b s t h k = (h.2 ∙ sym k.2, h.3 ∙ sym k.3)
same_line BackupStop r e now a b s t h k = (h.2 ∙ sym k.2, h.3 ∙ sym k.3)
same_line BackupTimer r e now a b s t h k = (h.3 ∙ sym k.3, h.4 ∙ sym k.4)
same_line BackupPriorityZero r e now a b s t h k = (h.4 ∙ sym k.4, h.5 ∙ sym k.5)
same_line BackupFollows r e now a b s t h k = (h.7 ∙ sym k.7, h.8 ∙ follow_on r now h.1 k.1 (same_interval h.0 k.0 h.1 k.1 h.2 k.2 (sym h.4 ∙ k.4)) ∙ sym k.8)
same_line BackupOther r e now a b s t h k = (h.7 ∙ sym k.7, h.8 ∙ sym k.8)
same_line ActiveStop r e now a b s t h k = (h.2 ∙ sym k.2, h.3 ∙ sym k.3)
same_line ActiveTimer r e now a b s t h k = (h.3 ∙ sym k.3, h.4 ∙ sym k.4)
same_line ActivePriorityZero r e now a b s t h k = (h.4 ∙ sym k.4, h.5 ∙ sym k.5)
same_line ActiveYields r e now a b s t h k = (h.7 ∙ sym k.7, h.8 ∙ yield_to r now h.1 k.1 (same_interval h.0 k.0 h.1 k.1 h.2 k.2 (sym h.4 ∙ k.4)) ∙ sym k.8)
same_line ActiveOther r e now a b s t h k = (h.7 ∙ sym k.7, h.8 ∙ sym k.8)
same_line NothingDue r e now a b s t h k = (h.2 ∙ sym k.2, h.3 ∙ sym k.3)

-- no two outcomes are possible
pub one_step : (r : Router) (e : Event) (now : ℕ) (a b : Action) (s t : Router) → IsStep r e now a s → IsStep r e now b t → (a ≡ b) × (s ≡ t)
one_step r e now a b s t h k = same_line h.0 r e now a b s t h.1 (subst (λ (l : Line). Says l r e now b t) (sym (one_line r e now a b s t h.0 k.0 h.1 k.1)) k.1)

-- an outcome is always possible
abbrev Some_step : Router → Event → ℕ → Type 0
Some_step r e now = (a : Action) × (s : Router) × IsStep r e now a s

some_step_in : (state : State) (r : Router) (e : Event) (now : ℕ) → r.state ≡ state → Some_step r e now
some_step_in Initialize r Start now is = (Nothing, _, (InitializeStart, (is, refl, refl, refl)))
some_step_in Initialize r Stop now is = (Nothing, r, (InitializeOther, (is, λ h. absurd (cc), refl, refl)))
some_step_in Initialize r (Heard p i s) now is = (Nothing, r, (InitializeOther, (is, λ h. absurd (cc), refl, refl)))
some_step_in Initialize r Tick now is = (Nothing, r, (InitializeOther, (is, λ h. absurd (cc), refl, refl)))
some_step_in Backup r Start now is = (Nothing, r, (NothingDue, (λ h. absurd (cc), inl refl, refl, refl)))
some_step_in Backup r Stop now is = (Nothing, _, (BackupStop, (is, refl, refl, refl)))
some_step_in Backup r (Heard p i s) now is = elim (zero_or p) [
  | inl none ↦ (Nothing, _, (BackupPriorityZero, (i, s, is, ap (λ x. Heard x i s) none, refl, refl)))
  | inr some ↦
      let above : 0 < p = elim (leb_tells p 0) [ inl holds ↦ absurd (some (let le : p ≤ 0 = holds.1 in omega arith)) | inr fails ↦ fails.1 ] in
      elim (follows_or r p) [
        | inl holds ↦ (Nothing, _, (BackupFollows, (p, i, s, is, refl, above, holds, refl, refl)))
        | inr fails ↦ (Nothing, r, (BackupOther, (p, i, s, is, refl, above, fails, refl, refl)))
      ]
]
some_step_in Backup r Tick now is = elim (due_or r.active_down_timer now) [
  | inl due ↦ (AdvertiseAndArp r.priority, _, (BackupTimer, (is, refl, due, refl, refl)))
  | inr early ↦ (Nothing, r, (NothingDue, (λ h. absurd (cc), inr (refl, subst (λ (x : State). IsDue (timer_of x r) now → ⊥) (sym is) early), refl, refl)))
]
some_step_in Active r Start now is = (Nothing, r, (NothingDue, (λ h. absurd (cc), inl refl, refl, refl)))
some_step_in Active r Stop now is = (Advertise 0, _, (ActiveStop, (is, refl, refl, refl)))
some_step_in Active r (Heard p i s) now is = elim (zero_or p) [
  | inl none ↦ (Advertise r.priority, _, (ActivePriorityZero, (i, s, is, ap (λ x. Heard x i s) none, refl, refl)))
  | inr some ↦
      let above : 0 < p = elim (leb_tells p 0) [ inl holds ↦ absurd (some (let le : p ≤ 0 = holds.1 in omega arith)) | inr fails ↦ fails.1 ] in
      elim (outranks_or r p s) [
        | inl holds ↦ (Nothing, _, (ActiveYields, (p, i, s, is, refl, above, holds, refl, refl)))
        | inr fails ↦ (Advertise r.priority, _, (ActiveOther, (p, i, s, is, refl, above, fails, refl, refl)))
      ]
]
some_step_in Active r Tick now is = elim (due_or r.adver_timer now) [
  | inl due ↦ (Advertise r.priority, _, (ActiveTimer, (is, refl, due, refl, refl)))
  | inr early ↦ (Nothing, r, (NothingDue, (λ h. absurd (cc), inr (refl, subst (λ (x : State). IsDue (timer_of x r) now → ⊥) (sym is) early), refl, refl)))
]

pub some_step : (r : Router) (e : Event) (now : ℕ) → (a : Action) × (s : Router) × IsStep r e now a s
some_step r e now = some_step_in r.state r e now refl
