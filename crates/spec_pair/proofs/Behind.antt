-- An unsynced gateway in a session with a synced one has records of the batch yet to take.
use Rattle.std.proofs.Common.{◌≡◌, suc, ◌+◌, ◌<◌, ◌≤◌, true, false, inl, inr, List, [], ◌∷◌, ◌++◌, length, refl, ap, ◌∙◌, arith}
use Rattle.std.proofs.lemmas.List.{length-append}
use Rattle.std.proofs.Math.Logic.{∥∥₁_elim}
use Rattle.std.proofs.Props.{props}
use Rattle.nat_types.specs.declared.gateways.GatewayId.{GatewayId}
use Rattle.nat_types.specs.declared.gateways.GatewayId.TheVariants.{Zero, One}
use Rattle.spec_pair.specs.Box.{Parcel, batch, owners, puts}
use Rattle.spec_pair.specs.Ownership.{Ranges, Run}
use Rattle.spec_pair.specs.Talk.{MachineRecord, Done}
use Rattle.spec_pair.specs.World.{IsWorld, Scene, flip, seen_by}
use Rattle.spec_pair.proofs.Acts.{view_of}
use Rattle.spec_pair.proofs.Invariant.{Inv, Loads}
use Rattle.spec_pair.proofs.Mirror.{inv_flip}
use Rattle.spec_pair.proofs.Props.{inv_world}

puts-count : (ps : List Parcel) → length (puts ps) ≡ length ps
puts-count [] = refl
puts-count (p ∷ ps) = ap suc (puts-count ps)

owners-count : (os : List Run) (rs : List MachineRecord) → length (owners os rs) ≡ length os + length rs
owners-count [] rs = omega arith
owners-count (o ∷ os) rs = let ih = owners-count os rs in omega (arith, ih)

batch-count : (os : List Run) (ps : List Parcel) → length (batch os ps) ≡ 2 + (length os + length ps)
batch-count os ps =
    let a = owners-count os (puts ps ++ Done ∷ []) in
    let b = length-append (puts ps) (Done ∷ []) in
    let c = puts-count ps in
    omega (arith, a, b, c)

few : {A : Type 0} (front back whole : List A) → whole ≡ front ++ back → length front ≤ length whole
few front back whole h = let one : length whole ≡ length front + length back = ap length h ∙ length-append front back in omega arith

module _ (r : Ranges) where
  pub behind : (i : GatewayId) (s : Scene) → Inv r i s → s.mine.synced ≡ true → s.mine.lone ≡ false → s.theirs.synced ≡ false → s.theirs.up ≡ true → s.mine.peer ≡ s.theirs.boot → s.theirs.taken < length s.mine.sent
  behind i s v synced together unsynced up of =
      let view = view_of r i s.mine s.theirs s.my_mail s.their_mail s.trace v.here synced together in
      let x : Loads r i s.mine s.theirs view.phase view.owner view.table view.their_owned view.their_want view.gone view.heard view.inn = view.loads unsynced up of in
      let all : length s.mine.sent ≡ length view.gone + length view.out = ap length view.sent ∙ length-append view.gone view.out in
      let gone : length view.gone ≡ 2 + (length x.os + length x.ps) = ap length x.batch_is ∙ batch-count x.os x.ps in
      elim x.progress [
        | inl f ↦ (let none = f.taken in omega arith)
        | inr y ↦ elim y [
          | inl a ↦ (let some = few a.front a.back x.os a.whole in let taken = a.taken in omega arith)
          | inr b ↦ (let some = few b.front b.back x.ps b.whole in let taken = b.taken in omega arith)
        ]
      ]

  seen : (s : Scene) (i : GatewayId) → Inv r Zero s → (seen_by i s).mine.synced ≡ true → (seen_by i s).mine.lone ≡ false → (seen_by i s).theirs.synced ≡ false → (seen_by i s).theirs.up ≡ true → (seen_by i s).mine.peer ≡ (seen_by i s).theirs.boot → (seen_by i s).theirs.taken < length (seen_by i s).mine.sent
  seen s Zero v synced together unsynced up of = behind Zero s v synced together unsynced up of
  seen s One v synced together unsynced up of = behind One (flip s) (inv_flip r Zero s v) synced together unsynced up of

  pub is_behind : (s : Scene) (i : GatewayId) → IsWorld r s → (seen_by i s).mine.synced ≡ true → (seen_by i s).mine.lone ≡ false → (seen_by i s).theirs.synced ≡ false → (seen_by i s).theirs.up ≡ true → (seen_by i s).mine.peer ≡ (seen_by i s).theirs.boot → (seen_by i s).theirs.taken < length (seen_by i s).mine.sent
  is_behind s i w synced together unsynced up of = ∥∥₁_elim (inv_world r s w) (hlevel (props)) (λ v. seen s i v synced together unsynced up of)
