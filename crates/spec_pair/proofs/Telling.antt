-- A Tell is never refused: its key is the sender's and has no entry, and its endpoint has no Held pair. And its pair was
-- alone.
use Rattle.std.proofs.Common.{◌≡◌, ℕ, true, false, not, ◌&&◌, ◌+◌, cond, List, [], ◌∷◌, Some, sym, ap, ◌∙◌, inl, inr, arith, IsTrue}
use Rattle.std.proofs.lemmas.Bool.{and_from, both_ways, cases_Bool, not-true}
use Rattle.std.proofs.Math.Logic.{∥∥₁_elim}
use Rattle.std.proofs.Props.{props}
use Rattle.nat_types.specs.Same.{other}
use Rattle.nat_types.specs.declared.gateways.GatewayId.{GatewayId}
use Rattle.nat_types.specs.declared.gateways.GatewayId.TheVariants.{Zero, One}
use Rattle.nat_types.specs.declared.notes.Note.{Note}
use Rattle.nat_types.specs.declared.pairs.Endpoint.{Endpoint}
use Rattle.nat_types.specs.declared.pairs.Key.{Key}
use Rattle.spec_trace.specs.Past.{was_alone}
use Rattle.spec_pair.specs.Box.{Box, In, Letter, StandsNext}
use Rattle.spec_pair.specs.Ownership.{Ranges, keyed}
use Rattle.spec_pair.specs.RecordTable.{AreFacts, Facts, is_free, is_senders, told}
use Rattle.spec_pair.specs.Talk.{Slot, Free, Held, MachineRecord, Tell, Adopt, Decline, IsUnboundOn, held, held_on, on, pair_of}
use Rattle.spec_pair.specs.World.{IsWorld, Scene, flip, seen_by}
use Rattle.spec_pair.proofs.Acts.{view_of, next_is}
use Rattle.spec_pair.proofs.Granting.{bit_true}
use Rattle.spec_pair.proofs.Invariant.{Inv, View, bit, gifts}
use Rattle.spec_pair.proofs.Inversions.{never_held, shared_named, when_tell}
use Rattle.spec_pair.proofs.Mirror.{inv_flip}
use Rattle.spec_pair.proofs.Phase.{owns, Nothing, Told, named, shared, single, slot_at}
use Rattle.spec_pair.proofs.Props.{inv_world}
use Rattle.spec_pair.proofs.Set.{on_here, other-owns, cases_gateway, apart_owns}
use Rattle.spec_pair.proofs.Turned.{self}

held_slot : (s : Slot) (e : Endpoint) → held_on false s ≡ Some e → s ≡ Held e
held_slot (Held n) e h = cc
held_slot s e h = absurd (cc)

module _ (r : Ranges) (i : GatewayId) (a b : Box) (mb : List Letter) (t : List Note) (v : View r i a b mb t) (k : Key) (e : Endpoint) (rest : List MachineRecord) (comes : v.inn ≡ Tell k e ∷ rest) where
  tells : (owns v.owner (other i) k ≡ true) × (v.phase k ≡ Told e) × (on k rest ≡ [])
  tells = when_tell (owns v.owner (other i) k) k (v.phase k) k e (on k rest) (sym (v.talks.there.flights k) ∙ ap (on k) comes ∙ on_here k (Tell k e) rest (self v.owner k))

  was : IsTrue (was_alone (pair_of k e) t)
  was = v.were k e (ap single tells.1)

  not_own : owns v.owner i k ≡ false
  not_own = not-true (owns v.owner i k) (sym (other-owns v.owner i k) ∙ tells.0)

  free : a.table k ≡ Free
  free = v.talks.here.slots k ∙ ap (λ c. slot_at c (v.phase k)) not_own ∙ ap (slot_at false) tells.1

  not_owned : keyed a.owned k ≡ false
  not_owned = elim (cases_Bool (keyed a.owned k)) [
    | inl is ↦ absurd (both_ways (owns v.owner i k) not_own (v.ports.mine_is k is))
    | inr off ↦ off
  ]

  theirs : keyed v.their_owned k ≡ true
  theirs = elim (cases_Bool (keyed v.their_owned k)) [
    | inl is ↦ is
    | inr off ↦ let bad : Told e ≡ Nothing = sym tells.1 ∙ v.ports.nobody k not_owned off in absurd (cc)
  ]

  inside : keyed r.in_ranges k ≡ true
  inside =
      let h : bit (a.owned k.port.0) + (bit (v.their_owned k.port.0) + (gifts k.port.0 v.out + gifts k.port.0 v.inn)) ≡ bit (r.in_ranges k.port.0) = v.ports.places k.port.0 in
      let one : bit (v.their_owned k.port.0) ≡ 1 = ap bit theirs in
      bit_true (r.in_ranges k.port.0) (omega arith)

  unbound : IsUnboundOn false a.table e
  unbound q h =
      let its : a.table q ≡ Held e = held_slot (a.table q) e h in
      let at : slot_at (owns v.owner i q) (v.phase q) ≡ Held e = sym (v.talks.here.slots q) ∙ its in
      elim (cases_Bool (owns v.owner i q)) [
        | inl own ↦ never_held (v.phase q) e (sym (ap (λ c. slot_at c (v.phase q)) own) ∙ at)
        | inr off ↦ elim (cases_gateway (v.owner q) (v.owner k)) [
          | inl alike ↦
              let both : shared (v.phase q) ≡ Some e = ap held (sym (ap (λ c. slot_at c (v.phase q)) off) ∙ at) in
              let qk : q ≡ k = v.talks.one_each q k e alike (shared_named (v.phase q) e both) (ap named tells.1) in
              let bad : Free ≡ Held e = sym free ∙ ap a.table (sym qk) ∙ its in cc
          | inr far ↦ both_ways (owns v.owner i k) not_own (apart_owns v.owner i q k far ∙ ap not off)
        ]
      ]

  is_taken : (f : Facts) → a.synced ≡ true → AreFacts r a (Tell k e) f → ((is_senders r a k && is_free (a.table k)) && f.clear) ≡ true
  is_taken f synced facts =
      and_from (is_senders r a k && is_free (a.table k)) f.clear
      (and_from (is_senders r a k) (is_free (a.table k)) (and_from (keyed r.in_ranges k) (not (keyed a.owned k)) inside (ap not not_owned)) (ap is_free free))
      (facts.1 (λ q h. unbound q (sym (ap (λ c. held_on c (a.table q)) (ap (λ s. not s && keyed a.owned k) synced)) ∙ h)))

module _ (r : Ranges) where
  takes : (i : GatewayId) (s : Scene) (l : Letter) (n : ℕ) (k : Key) (e : Endpoint) (f : Facts) → Inv r i s → s.mine.synced ≡ true → s.mine.lone ≡ false → In l s.their_mail → StandsNext s.mine l n (Tell k e) → AreFacts r s.mine (Tell k e) f
      → ((is_senders r s.mine k && is_free (s.mine.table k)) && f.clear) ≡ true
  takes i s l n k e f v synced together sent next facts =
      let view = view_of r i s.mine s.theirs s.my_mail s.their_mail s.trace v.here synced together in
      let some : (rest : List MachineRecord) × (view.inn ≡ Tell k e ∷ rest) = next_is r i s.mine s.theirs s.their_mail s.trace view l n (Tell k e) sent next in
      is_taken r i s.mine s.theirs s.their_mail s.trace view k e some.0 some.1 f synced facts

  seen : (s : Scene) (i : GatewayId) (l : Letter) (n : ℕ) (k : Key) (e : Endpoint) (f : Facts) → Inv r Zero s → (seen_by i s).mine.synced ≡ true → (seen_by i s).mine.lone ≡ false → In l (seen_by i s).their_mail → StandsNext (seen_by i s).mine l n (Tell k e) → AreFacts r (seen_by i s).mine (Tell k e) f
      → ((is_senders r (seen_by i s).mine k && is_free ((seen_by i s).mine.table k)) && f.clear) ≡ true
  seen s Zero l n k e f v = takes Zero s l n k e f v
  seen s One l n k e f v = takes One (flip s) l n k e f (inv_flip r Zero s v)

  pub tells_are_taken : (s : Scene) (i : GatewayId) (l : Letter) (n : ℕ) (k : Key) (e : Endpoint) (f : Facts) → IsWorld r s → (seen_by i s).mine.synced ≡ true → (seen_by i s).mine.lone ≡ false → In l (seen_by i s).their_mail → StandsNext (seen_by i s).mine l n (Tell k e) → AreFacts r (seen_by i s).mine (Tell k e) f
      → told r (seen_by i s).mine k e f.clear ≡ Adopt k e
  tells_are_taken s i l n k e f w synced together sent next facts =
      let is : ((is_senders r (seen_by i s).mine k && is_free ((seen_by i s).mine.table k)) && f.clear) ≡ true = ∥∥₁_elim (inv_world r s w) (hlevel (props)) (λ v. seen s i l n k e f v synced together sent next facts) in
      ap (λ b. cond b (Adopt k e) (Decline k e)) is

  was_here : (i : GatewayId) (s : Scene) (l : Letter) (n : ℕ) (k : Key) (e : Endpoint) → Inv r i s → s.mine.synced ≡ true → s.mine.lone ≡ false → In l s.their_mail → StandsNext s.mine l n (Tell k e) → IsTrue (was_alone (pair_of k e) s.trace)
  was_here i s l n k e v synced together sent next =
      let view = view_of r i s.mine s.theirs s.my_mail s.their_mail s.trace v.here synced together in
      let some : (rest : List MachineRecord) × (view.inn ≡ Tell k e ∷ rest) = next_is r i s.mine s.theirs s.their_mail s.trace view l n (Tell k e) sent next in
      was r i s.mine s.theirs s.their_mail s.trace view k e some.0 some.1

  was_seen : (s : Scene) (i : GatewayId) (l : Letter) (n : ℕ) (k : Key) (e : Endpoint) → Inv r Zero s → (seen_by i s).mine.synced ≡ true → (seen_by i s).mine.lone ≡ false → In l (seen_by i s).their_mail → StandsNext (seen_by i s).mine l n (Tell k e) → IsTrue (was_alone (pair_of k e) s.trace)
  was_seen s Zero l n k e v = was_here Zero s l n k e v
  was_seen s One l n k e v = was_here One (flip s) l n k e (inv_flip r Zero s v)

  pub tells_were_alone : (s : Scene) (i : GatewayId) (l : Letter) (n : ℕ) (k : Key) (e : Endpoint) → IsWorld r s → (seen_by i s).mine.synced ≡ true → (seen_by i s).mine.lone ≡ false → In l (seen_by i s).their_mail → StandsNext (seen_by i s).mine l n (Tell k e)
      → IsTrue (was_alone (pair_of k e) s.trace)
  tells_were_alone s i l n k e w synced together sent next = ∥∥₁_elim (inv_world r s w) (hlevel (props)) (λ v. was_seen s i l n k e v synced together sent next)
