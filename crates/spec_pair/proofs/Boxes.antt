-- Boxes that agree in every field are equal.
use Rattle.std.proofs.Common.{◌≡◌, ℕ, Bool, List, Option, ap, ◌∙◌}
use Rattle.nat_types.specs.declared.pairs.Key.{Key}
use Rattle.spec_pair.specs.Box.{AreSame, Box}
use Rattle.spec_pair.specs.Talk.{MachineRecord, Slot}
use mathlib.Core.Path.{fun_ext}

abbrev pub made : Bool → ℕ → Bool → Bool → ℕ → (Key → Slot) → List MachineRecord → ℕ → Bool → (ℕ → Bool) → Bool → ℕ → Option ℕ → Box
made a b c d e f g h i j k l m = record { up = a; boot = b; synced = c; lone = d; peer = e; table = f; sent = g; taken = h; loading = i; owned = j; wants = k; named = l; promised = m }

pub same_boxes : (a b : Box) → AreSame a b → a ≡ b
same_boxes a b s =
    ap (λ (x : Bool). made x a.boot a.synced a.lone a.peer a.table a.sent a.taken a.loading a.owned a.wants a.named a.promised) s.up
    ∙ ap (λ (x : ℕ). made b.up x a.synced a.lone a.peer a.table a.sent a.taken a.loading a.owned a.wants a.named a.promised) s.boot
    ∙ ap (λ (x : Bool). made b.up b.boot x a.lone a.peer a.table a.sent a.taken a.loading a.owned a.wants a.named a.promised) s.synced
    ∙ ap (λ (x : Bool). made b.up b.boot b.synced x a.peer a.table a.sent a.taken a.loading a.owned a.wants a.named a.promised) s.lone
    ∙ ap (λ (x : ℕ). made b.up b.boot b.synced b.lone x a.table a.sent a.taken a.loading a.owned a.wants a.named a.promised) s.peer
    ∙ ap (λ (x : Key → Slot). made b.up b.boot b.synced b.lone b.peer x a.sent a.taken a.loading a.owned a.wants a.named a.promised) (fun_ext s.table)
    ∙ ap (λ (x : List MachineRecord). made b.up b.boot b.synced b.lone b.peer b.table x a.taken a.loading a.owned a.wants a.named a.promised) s.sent
    ∙ ap (λ (x : ℕ). made b.up b.boot b.synced b.lone b.peer b.table b.sent x a.loading a.owned a.wants a.named a.promised) s.taken
    ∙ ap (λ (x : Bool). made b.up b.boot b.synced b.lone b.peer b.table b.sent b.taken x a.owned a.wants a.named a.promised) s.loading
    ∙ ap (λ (x : ℕ → Bool). made b.up b.boot b.synced b.lone b.peer b.table b.sent b.taken b.loading x a.wants a.named a.promised) (fun_ext s.owned)
    ∙ ap (λ (x : Bool). made b.up b.boot b.synced b.lone b.peer b.table b.sent b.taken b.loading b.owned x a.named a.promised) s.wants
    ∙ ap (λ (x : ℕ). made b.up b.boot b.synced b.lone b.peer b.table b.sent b.taken b.loading b.owned b.wants x a.promised) s.named
    ∙ ap (λ (x : Option ℕ). made b.up b.boot b.synced b.lone b.peer b.table b.sent b.taken b.loading b.owned b.wants b.named x) s.promised
