-- What follows from the table's one line for each event.
use Rattle.std.proofs.Common.{◌≡◌, ℕ, zero, suc, ◌<◌, inl, inr, List, [], ◌∷◌, refl, sym, ap, ◌∙◌, subst, arith}
use Rattle.std.specs.List.{All}
use Rattle.std.proofs.lemmas.List.Elements.{All-nil, All-cons, All-head, All-tail}
use Rattle.vrrp_states.specs.declared.State.{State}
use Rattle.vrrp_states.specs.declared.State.TheVariants.{Initialize, Backup, Active}
use Rattle.vrrp_states.specs.declared.Action.{Action}
use Rattle.vrrp_states.specs.declared.Action.TheVariants.{Nothing, Advertise}
use Rattle.vrrp_states.specs.Table.{Router, Event, Start, Stop, Heard, Outranks, Line, InitializeStart, InitializeOther, BackupStop, BackupTimer, BackupPriorityZero, BackupFollows, BackupOther, ActiveStop, ActiveTimer, ActivePriorityZero, ActiveYields, ActiveOther, NothingDue, Says, IsStep}
use Rattle.vrrp_states.specs.Run.{RouterInput, Runs, hears}
use Rattle.vrrp_states.proofs.Unique.{one_step}

-- an Active router stays Active where an advertisement doesn't outrank it
stays_at : (r s : Router) (priority interval source now : ℕ) (a : Action) → r.state ≡ Active → (Outranks priority source r → ⊥) → IsStep r (Heard priority interval source) now a s → (s.state ≡ Active) × (a ≡ Advertise r.priority)
stays_at r s zero interval source now a is less step =
    let same = one_step r (Heard zero interval source) now a (Advertise r.priority) s _ step (ActivePriorityZero, (interval, source, is, refl, refl, refl)) in
    (ap (λ (x : Router). x.state) same.1 ∙ is, same.0)
stays_at r s (suc p) interval source now a is less step =
    let some : 0 < suc p = omega arith in
    let same = one_step r (Heard (suc p) interval source) now a (Advertise r.priority) s _ step (ActiveOther, (suc p, interval, source, is, refl, some, less, refl, refl)) in
    (ap (λ (x : Router). x.state) same.1 ∙ is, same.0)

-- an Active router yields where an advertisement outranks it
yields_at : (r s : Router) (priority interval source now : ℕ) (a : Action) → r.state ≡ Active → 0 < priority → Outranks priority source r → IsStep r (Heard priority interval source) now a s → (s.state ≡ Backup) × (a ≡ Nothing)
yields_at r s priority interval source now a is some more step =
    let same = one_step r (Heard priority interval source) now a Nothing s _ step (ActiveYields, (priority, interval, source, is, refl, some, more, refl, refl)) in
    (ap (λ (x : Router). x.state) same.1, same.0)

pub higher_stays : (r other s : Router) (now : ℕ) (a : Action) → r.state ≡ Active → other.priority < r.priority → IsStep r (hears other) now a s → (s.state ≡ Active) × (a ≡ Advertise r.priority)
higher_stays r other s now a is lower step = stays_at r s other.priority other.interval other.address now a is (λ h. elim h [
  | inl more ↦ absurd (omega arith)
  | inr equal ↦ let e : other.priority ≡ r.priority = equal.0 in absurd (omega arith)
]) step

pub lower_yields : (r other s : Router) (now : ℕ) (a : Action) → r.state ≡ Active → r.priority < other.priority → IsStep r (hears other) now a s → (s.state ≡ Backup) × (a ≡ Nothing)
lower_yields r other s now a is higher step = let some : 0 < other.priority = omega arith in yields_at r s other.priority other.interval other.address now a is some (inl higher) step

pub greater_stays : (r other s : Router) (now : ℕ) (a : Action) → r.state ≡ Active → other.priority ≡ r.priority → other.address < r.address → IsStep r (hears other) now a s → (s.state ≡ Active) × (a ≡ Advertise r.priority)
greater_stays r other s now a is equal less step = stays_at r s other.priority other.interval other.address now a is (λ h. elim h [
  | inl more ↦ absurd (omega arith)
  | inr greater ↦ let lt : r.address < other.address = greater.1 in absurd (omega arith)
]) step

pub lesser_yields : (r other s : Router) (now : ℕ) (a : Action) → r.state ≡ Active → 0 < r.priority → other.priority ≡ r.priority → r.address < other.address → IsStep r (hears other) now a s → (s.state ≡ Backup) × (a ≡ Nothing)
lesser_yields r other s now a is some equal greater step = let above : 0 < other.priority = omega arith in yields_at r s other.priority other.interval other.address now a is above (inr (equal, greater)) step

stop_at : (state : State) (r s : Router) (now : ℕ) (a : Action) → r.state ≡ state → IsStep r Stop now a s → s.state ≡ Initialize
stop_at Initialize r s now a is step = let same = one_step r Stop now a Nothing s r step (InitializeOther, (is, λ e. absurd (cc), refl, refl)) in ap (λ (x : Router). x.state) same.1 ∙ is
stop_at Backup r s now a is step = let same = one_step r Stop now a Nothing s _ step (BackupStop, (is, refl, refl, refl)) in ap (λ (x : Router). x.state) same.1
stop_at Active r s now a is step = let same = one_step r Stop now a (Advertise 0) s _ step (ActiveStop, (is, refl, refl, refl)) in ap (λ (x : Router). x.state) same.1

pub stopped : (r s : Router) (now : ℕ) (a : Action) → IsStep r Stop now a s → s.state ≡ Initialize
stopped r s now a step = stop_at r.state r s now a refl step

idles : (r s : Router) (e : Event) (now : ℕ) (a : Action) → r.state ≡ Initialize → (e ≡ Start → ⊥) → IsStep r e now a s → (a ≡ Nothing) × (s ≡ r)
idles r s e now a is other step = one_step r e now a Nothing s r step (InitializeOther, (is, other, refl, refl))

pub stays : (r s : Router) (told : List RouterInput) → r.state ≡ Initialize → All (λ (x : RouterInput). x.event ≡ Start → ⊥) told → Runs r told s → s ≡ r
stays r s [] is none run = run
stays r s (x ∷ more) is none run =
    let idle = idles r run.0 x.event x.now x.action is (All-head (λ (y : RouterInput). y.event ≡ Start → ⊥) x more none) run.1 in
    stays r s more is (All-tail (λ (y : RouterInput). y.event ≡ Start → ⊥) x more none) (subst (λ (y : Router). Runs y more s) idle.1 run.2)

pub silent : (r s : Router) (told : List RouterInput) → r.state ≡ Initialize → All (λ (x : RouterInput). x.event ≡ Start → ⊥) told → Runs r told s → All (λ (x : RouterInput). x.action ≡ Nothing) told
silent r s [] is none run = All-nil (λ (x : RouterInput). x.action ≡ Nothing)
silent r s (x ∷ more) is none run =
    let idle = idles r run.0 x.event x.now x.action is (All-head (λ (y : RouterInput). y.event ≡ Start → ⊥) x more none) run.1 in
    All-cons (λ (y : RouterInput). y.action ≡ Nothing) x more idle.0 (silent r s more is (All-tail (λ (y : RouterInput). y.event ≡ Start → ⊥) x more none) (subst (λ (y : Router). Runs y more s) idle.1 run.2))

-- two routers have the same own values
pub record Own (s r : Router) : Type 0 where
  pub priority : s.priority ≡ r.priority
  pub interval : s.interval ≡ r.interval
  pub preempt : s.preempt ≡ r.preempt
  pub address : s.address ≡ r.address

own_of : (s r t : Router) → s ≡ t → Own t r → Own s r
own_of s r t e o = subst (λ (x : Router). Own x r) (sym e) o

own_line : (line : Line) (r s : Router) (e : Event) (now : ℕ) (a : Action) → Says line r e now a s → Own s r
own_line InitializeStart r s e now a h = own_of s r _ h.3 (record { priority = refl; interval = refl; preempt = refl; address = refl })
own_line InitializeOther r s e now a h = own_of s r _ h.3 (record { priority = refl; interval = refl; preempt = refl; address = refl })
own_line BackupStop r s e now a h = own_of s r _ h.3 (record { priority = refl; interval = refl; preempt = refl; address = refl })
own_line BackupTimer r s e now a h = own_of s r _ h.4 (record { priority = refl; interval = refl; preempt = refl; address = refl })
own_line BackupPriorityZero r s e now a h = own_of s r _ h.5 (record { priority = refl; interval = refl; preempt = refl; address = refl })
own_line BackupFollows r s e now a h = own_of s r _ h.8 (record { priority = refl; interval = refl; preempt = refl; address = refl })
own_line BackupOther r s e now a h = own_of s r _ h.8 (record { priority = refl; interval = refl; preempt = refl; address = refl })
own_line ActiveStop r s e now a h = own_of s r _ h.3 (record { priority = refl; interval = refl; preempt = refl; address = refl })
own_line ActiveTimer r s e now a h = own_of s r _ h.4 (record { priority = refl; interval = refl; preempt = refl; address = refl })
own_line ActivePriorityZero r s e now a h = own_of s r _ h.5 (record { priority = refl; interval = refl; preempt = refl; address = refl })
own_line ActiveYields r s e now a h = own_of s r _ h.8 (record { priority = refl; interval = refl; preempt = refl; address = refl })
own_line ActiveOther r s e now a h = own_of s r _ h.8 (record { priority = refl; interval = refl; preempt = refl; address = refl })
own_line NothingDue r s e now a h = own_of s r _ h.3 (record { priority = refl; interval = refl; preempt = refl; address = refl })

pub own_stay : (r s : Router) (e : Event) (now : ℕ) (a : Action) → IsStep r e now a s → Own s r
own_stay r s e now a step = own_line step.0 r s e now a step.1
