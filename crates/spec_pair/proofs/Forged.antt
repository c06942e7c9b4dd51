-- While its batch is promised, nothing comes to a gateway, and the other took no more than may be sent.
use Rattle.std.proofs.Common.{◌≡◌, ℕ, ◌+◌, ◌≤◌, true, false, inl, inr, List, [], ◌∷◌, ◌++◌, Some, length, sym, ap, ◌∙◌, arith}
use Rattle.std.proofs.lemmas.List.{length-append}
use Rattle.std.proofs.Math.Logic.{∥∥₁_elim}
use Rattle.std.proofs.Props.{props}
use Rattle.nat_types.specs.declared.gateways.GatewayId.{GatewayId}
use Rattle.nat_types.specs.declared.gateways.GatewayId.TheVariants.{Zero, One}
use Rattle.spec_pair.specs.Box.{Letter, In, Parcel, StandsNext}
use Rattle.spec_pair.specs.Ownership.{Ranges, Run}
use Rattle.spec_pair.specs.Talk.{MachineRecord}
use Rattle.spec_pair.specs.World.{IsWorld, Scene, flip, seen_by}
use Rattle.spec_pair.proofs.Acts.{view_of, next_is}
use Rattle.spec_pair.proofs.Invariant.{Inv, Loads, View}
use Rattle.spec_pair.proofs.Mirror.{inv_flip}
use Rattle.spec_pair.proofs.Props.{inv_world}

module _ (r : Ranges) where
  view_in : (i : GatewayId) (s : Scene) → Inv r i s → s.mine.synced ≡ true → s.mine.lone ≡ false → View r i s.mine s.theirs s.their_mail s.trace
  view_in i s v synced together = view_of r i s.mine s.theirs s.my_mail s.their_mail s.trace v.here synced together

  none_next : (i : GatewayId) (s : Scene) (m : ℕ) (l : Letter) (n : ℕ) (q : MachineRecord) → Inv r i s → s.mine.synced ≡ true → s.mine.lone ≡ false → s.mine.promised ≡ Some m → In l s.their_mail → StandsNext s.mine l n q → ⊥
  none_next i s m l n q v synced together promised sent next =
      let view = view_in i s v synced together in
      let some : (rest : List MachineRecord) × (view.inn ≡ q ∷ rest) = next_is r i s.mine s.theirs s.their_mail s.trace view l n q sent next in
      let bad : [] ≡ q ∷ some.0 = sym (view.owes m promised).0 ∙ some.1 in cc

  few_runs : (front back : List Run) (os : List Run) → os ≡ front ++ back → length front ≤ length os
  few_runs front back os whole = let one : length os ≡ length front + length back = ap length whole ∙ length-append front back in omega arith

  few_pairs : (front back : List Parcel) (ps : List Parcel) → ps ≡ front ++ back → length front ≤ length ps
  few_pairs front back ps whole = let one : length ps ≡ length front + length back = ap length whole ∙ length-append front back in omega arith

  none_more : (i : GatewayId) (s : Scene) (m : ℕ) → Inv r i s → s.mine.synced ≡ true → s.mine.lone ≡ false → s.mine.promised ≡ Some m → s.theirs.up ≡ true → s.mine.peer ≡ s.theirs.boot → s.theirs.taken ≤ m
  none_more i s m v synced together promised up of =
      let view = view_in i s v synced together in
      let x : Loads r i s.mine s.theirs view.phase view.owner view.table view.their_owned view.their_want view.gone view.heard view.inn = view.loads (view.owes m promised).1 up of in
      let bar = x.bar m promised in
      elim x.progress [
        | inl f ↦ (let none = f.taken in omega arith)
        | inr y ↦ elim y [
          | inl a ↦ (let few = few_runs a.front a.back x.os a.whole in let taken = a.taken in omega arith)
          | inr b ↦ (let few = few_pairs b.front b.back x.ps b.whole in let taken = b.taken in omega arith)
        ]
      ]

  next_seen : (s : Scene) (i : GatewayId) (m : ℕ) (l : Letter) (n : ℕ) (q : MachineRecord) → Inv r Zero s → (seen_by i s).mine.synced ≡ true → (seen_by i s).mine.lone ≡ false → (seen_by i s).mine.promised ≡ Some m → In l (seen_by i s).their_mail → StandsNext (seen_by i s).mine l n q → ⊥
  next_seen s Zero m l n q v synced together promised sent next = none_next Zero s m l n q v synced together promised sent next
  next_seen s One m l n q v synced together promised sent next = none_next One (flip s) m l n q (inv_flip r Zero s v) synced together promised sent next

  more_seen : (s : Scene) (i : GatewayId) (m : ℕ) → Inv r Zero s → (seen_by i s).mine.synced ≡ true → (seen_by i s).mine.lone ≡ false → (seen_by i s).mine.promised ≡ Some m → (seen_by i s).theirs.up ≡ true → (seen_by i s).mine.peer ≡ (seen_by i s).theirs.boot → (seen_by i s).theirs.taken ≤ m
  more_seen s Zero m v synced together promised up of = none_more Zero s m v synced together promised up of
  more_seen s One m v synced together promised up of = none_more One (flip s) m (inv_flip r Zero s v) synced together promised up of

  pub nothing_comes : (s : Scene) (i : GatewayId) (m : ℕ) (l : Letter) (n : ℕ) (q : MachineRecord) → IsWorld r s → (seen_by i s).mine.synced ≡ true → (seen_by i s).mine.lone ≡ false → (seen_by i s).mine.promised ≡ Some m → In l (seen_by i s).their_mail → StandsNext (seen_by i s).mine l n q → ⊥
  nothing_comes s i m l n q w synced together promised sent next = ∥∥₁_elim (inv_world r s w) (hlevel (props)) (λ v. next_seen s i m l n q v synced together promised sent next)

  pub no_more_taken : (s : Scene) (i : GatewayId) (m : ℕ) → IsWorld r s → (seen_by i s).mine.synced ≡ true → (seen_by i s).mine.lone ≡ false → (seen_by i s).mine.promised ≡ Some m → (seen_by i s).theirs.up ≡ true → (seen_by i s).mine.peer ≡ (seen_by i s).theirs.boot → (seen_by i s).theirs.taken ≤ m
  no_more_taken s i m w synced together promised up of = ∥∥₁_elim (inv_world r s w) (hlevel (props)) (λ v. more_seen s i m v synced together promised up of)
