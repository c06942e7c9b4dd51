-- The invariant after a letter is sent.
use Rattle.std.proofs.Common.{◌≡◌, ℕ, zero, suc, true, false, List, [], ◌∷◌, ◌++◌, ◌<◌, take, drop, ◌≤◌, Some, sym, ap, subst, ◌∙◌, inl, inr, arith, le_refl}
use Rattle.std.proofs.lemmas.Bool.{cases_Bool}
use Rattle.nat_types.specs.Same.{other}
use Rattle.nat_types.specs.declared.gateways.GatewayId.{GatewayId}
use Rattle.spec_pair.specs.Acts.{Send}
use Rattle.spec_pair.specs.Box.{Box, Letter, nth, letter}
use Rattle.spec_pair.proofs.Beside.{view_beside}
use Rattle.spec_pair.proofs.Invariant.{Within, Awaits, Side, Inv}
use Rattle.spec_pair.specs.Ownership.{Ranges}
use Rattle.spec_pair.specs.Talk.{MachineRecord}
use Rattle.spec_pair.specs.World.{Scene, Can, after_act}
use Rattle.spec_pair.proofs.Lists.{nth_take, nth_drop, nil_part}

module _ (r : Ranges) where
  letter_within : (a : Box) (first count : ℕ) → Within (letter a first count) a.sent
  letter_within a first count n r h = nth_drop first a.sent n r (nth_take count (drop first a.sent) n r h)

  letter_empty : (a : Box) (first count : ℕ) → a.sent ≡ [] → (letter a first count).records ≡ []
  letter_empty a first count h = ap (λ x. take count (drop first x)) h ∙ nil_part first count

  empty_within : (l : Letter) (xs : List MachineRecord) → l.records ≡ [] → Within l xs
  empty_within l xs h n r s = let bad : nth [] n ≡ Some r = ap (λ x. nth x n) (sym h) ∙ s in absurd (cc)

  nth_less : (c : ℕ) (xs : List MachineRecord) (n : ℕ) (r : MachineRecord) → nth (take c xs) n ≡ Some r → n < c
  nth_less zero xs n r h = absurd (let bad : nth [] n ≡ Some r = h in cc)
  nth_less (suc c) [] n r h = absurd (let bad : nth [] n ≡ Some r = h in cc)
  nth_less (suc c) (x ∷ xs) zero r h = omega arith
  nth_less (suc c) (x ∷ xs) (suc n) r h = let less : n < c = nth_less c xs n r h in omega arith

  pub inv_send : (moment : ℕ) (i : GatewayId) (s : Scene) (first count : ℕ) → Inv r i s → Can r i s (Send first count) → Inv r i (after_act r i moment s (Send first count))
  inv_send moment i s first count v can =
      let a : Box = s.mine in
      let b : Box = s.theirs in
      let new : Letter = letter s.mine first count in
      let here : Side r i s.mine s.theirs s.my_mail s.their_mail s.trace = v.here in
      let there : Side r (other i) s.theirs s.mine s.their_mail s.my_mail s.trace = v.there in
      record {
        one_port = v.one_port;
        one_endpoint = v.one_endpoint;
        silent = v.silent;
        some_synced = v.some_synced;
        here = record {
          synced_is = here.synced_is;
          up_synced = here.up_synced;
          goes = here.goes;
          private = here.private;
          letters = λ u alone l inside boot to. elim inside [ inl e ↦ subst (λ (x : Letter). Within x s.mine.sent) (sym e) (letter_within s.mine first count) | inr old ↦ here.letters u alone l old boot to ];
          barred = λ m p l inside boot to n q h. elim inside [ inl e ↦ (let c = can.0.1 m p in let less : n < count = nth_less count (drop first s.mine.sent) n q (ap (λ (x : Letter). nth x.records n) (sym e) ∙ h) in let f : l.first ≡ first = ap (λ (x : Letter). x.first) e in omega arith) | inr old ↦ here.barred m p l old boot to n q h ];
          boots = λ l inside. elim inside [ inl e ↦ subst (λ (x : Letter). (x.boot ≤ s.mine.boot) × (x.to ≤ s.theirs.boot)) (sym e) (le_refl s.mine.boot, here.peer_at) | inr old ↦ here.boots l old ];
          known = λ u l inside boot. elim inside [ inl e ↦ subst (λ (x : Letter). x.to ≤ s.mine.peer) (sym e) (le_refl s.mine.peer) | inr old ↦ here.known u l old boot ];
          peer_at = here.peer_at;
          later = here.later;
          quiet = here.quiet;
          state = here.state;
          awaits = here.awaits;
        };
        there = record {
          synced_is = there.synced_is;
          up_synced = there.up_synced;
          goes = there.goes;
          private = there.private;
          letters = there.letters;
          barred = there.barred;
          boots = there.boots;
          known = there.known;
          peer_at = there.peer_at;
          later = λ sb l inside newer. elim inside [
            | inl e ↦ ap (λ (x : Letter). x.records) e ∙ elim (cases_Bool s.mine.synced) [
              | inl sa ↦ elim (there.state sb) [
                | inl x ↦ let bad : true ≡ false = sym sa ∙ x.other_out in absurd (cc)
                | inr x ↦ let p : s.theirs.peer ≡ s.mine.boot = (x.real sa).peer in let q : l.boot ≡ s.mine.boot = ap (λ (x : Letter). x.boot) e in absurd (omega arith)
              ]
              | inr sa ↦ letter_empty s.mine first count (here.quiet sa)
            ]
            | inr old ↦ there.later sb l old newer
          ];
          quiet = there.quiet;
          state = λ sb. elim (there.state sb) [
            | inl x ↦ inl x
            | inr x ↦ inr (view_beside r (other i) s.theirs s.mine _ s.my_mail _ s.trace _ x
                (λ l inside boot to. elim inside [
                  | inl e ↦ subst (λ (y : Letter). Within y (x.heard ++ x.inn)) (sym e) (elim (cases_Bool s.mine.synced) [
                    | inl sa ↦ subst (Within (letter s.mine first count)) (x.real sa).sent (letter_within s.mine first count)
                    | inr sa ↦ empty_within (letter s.mine first count) (x.heard ++ x.inn) (letter_empty s.mine first count (here.quiet sa))
                  ])
                  | inr old ↦ x.letters l old boot to
                ])
                x.covers
                x.lets
                x.were
                x.two
                x.real
                x.owes
                x.loads)
          ];
          awaits = λ sb u. let x : Awaits s.theirs s.mine s.my_mail = there.awaits sb u in record {
            letters = λ l n q inside to h. elim inside [
              | inl e ↦ (ap (λ (y : Letter). y.boot) e, ap (λ (y : Letter). y.to) (sym e) ∙ to)
              | inr old ↦ x.letters l n q old to h
            ];
            fresh = x.fresh;
          };
        };
      }
