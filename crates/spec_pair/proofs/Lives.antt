-- The invariant after a crash, after a boot, and where an unsynced gateway hears a greater boot.
use Rattle.std.proofs.Common.{◌≡◌, ℕ, Bool, true, false, not, cond, List, ◌∷◌, Some, ◌<◌, ◌≤◌, refl, sym, ap, ◌∙◌, inl, inr, arith, zero-le}
use Rattle.std.proofs.lemmas.Bool.{cases_eq, both_ways, cases_Bool, and_from, and_parts, not_from_false, false_from_ne_true}
use Rattle.nat_types.proofs.Offered.{same-self, same-eq}
use Rattle.nat_types.specs.Same.{same, other}
use Rattle.nat_types.specs.declared.gateways.GatewayId.{GatewayId}
use Rattle.nat_types.specs.declared.notes.NoteKind.TheVariants.{Crashed, Booted}
use Rattle.nat_types.specs.declared.notes.Note.{Note}
use Rattle.nat_types.specs.declared.pairs.Key.{Key}
use Rattle.spec_trace.specs.Past.{is_synced, is_open, goes_on, is_private, is_in_use, is_only_at}
use Rattle.spec_pair.specs.Acts.{Crash, Boot, HearAnew}
use Rattle.spec_pair.specs.Box.{Letter, empty, hears_anew}
use Rattle.spec_pair.proofs.Beside.{side_beside, alone_beside, view_beside}
use Rattle.spec_pair.proofs.Invariant.{Fresh, Loads, Real, View, Side, Inv}
use Rattle.spec_pair.proofs.Phase.{owns, Phase, shared, covered, alone_in, owner_slot, other_slot, slot_at}
use Rattle.spec_pair.specs.Ownership.{Ranges}
use Rattle.spec_pair.specs.Talk.{Slot, translated, note}
use Rattle.spec_pair.proofs.Traced.{Covers, LetsGo, PrivateAt}
use Rattle.spec_pair.specs.World.{Scene, Can, after_act}
use Rattle.spec_pair.proofs.Acts.{same-not}
use Rattle.spec_pair.proofs.Covers.{still, goes_quiet, private_quiet}
use Rattle.spec_pair.proofs.Inversions.{covered_cases, covered_shared, covered_single, translated_held, none_some}
use Rattle.spec_pair.proofs.Set.{other-owns}

-- a crash of the other gateway changes nothing in which pairs are private to the one
private_gone : (moment : ℕ) (j i : GatewayId) (table : Key → Slot) (t : List Note) → PrivateAt j table t → PrivateAt j table (note i moment Crashed ∷ t)
private_gone moment j i table t g = g

module _ (owner : Key → GatewayId) where
  lets_crash : (moment : ℕ) (g i : GatewayId) (ph : Key → Phase) (t : List Note) → LetsGo owner g ph t → LetsGo owner g ph (note i moment Crashed ∷ t)
  lets_crash moment g i ph t l s k e own cl = l (still (same g i) (is_synced g t) s) k e own cl

  -- a boot of a gateway that isn't synced changes nothing in what may be open
  covers_boot : (moment : ℕ) (i : GatewayId) (n : ℕ) (ph : Key → Phase) (t : List Note) → is_synced i t ≡ false → Covers owner ph t → Covers owner ph (note i moment (Booted n) ∷ t)
  covers_boot moment i n ph t off c p o = ap (λ b. covered b (ph p.key)) (same_after (same (owner p.key) i) refl) ∙ c p o
    where
      same_after : (b : Bool) → same (owner p.key) i ≡ b → cond (same (owner p.key) i) false (is_synced (owner p.key) t) ≡ is_synced (owner p.key) t
      same_after true e = ap (λ b. cond b false (is_synced (owner p.key) t)) e ∙ sym (ap (λ g. is_synced g t) (same-eq (owner p.key) i e) ∙ off)
      same_after false e = ap (λ b. cond b false (is_synced (owner p.key) t)) e

  lets_boot : (moment : ℕ) (g i : GatewayId) (n : ℕ) (ph : Key → Phase) (t : List Note) → LetsGo owner g ph t → LetsGo owner g ph (note i moment (Booted n) ∷ t)
  lets_boot moment g i n ph t l s k e own cl = l (still (same g i) (is_synced g t) s) k e own cl

module _ (r : Ranges) where
  -- where one gateway isn't synced, the other is
  pub other_synced : (i : GatewayId) (s : Scene) → Inv r i s → s.mine.synced ≡ false → s.theirs.synced ≡ true
  other_synced i s v h = elim v.some_synced [ inl x ↦ let bad : true ≡ false = sym x ∙ h in absurd (cc) | inr x ↦ x ]

  absurd_flag : {A : Type 0} (b : Bool) → b ≡ true → b ≡ false → A
  absurd_flag b h g = absurd (both_ways b g h)

  -- where the owner of a pair crashes that is open and not held by the other, the pair is lost
  covers_crash : (moment : ℕ) (i : GatewayId) (s : Scene) → Inv r i s → s.theirs.synced ≡ true → (y : View r (other i) s.theirs s.mine s.my_mail s.trace) → Covers y.owner y.phase (note i moment Crashed ∷ s.trace)
  covers_crash moment i s v sb y p o =
      let here : Side r i s.mine s.theirs s.my_mail s.their_mail s.trace = v.here in
      let there : Side r (other i) s.theirs s.mine s.their_mail s.my_mail s.trace = v.there in
      let t : List Note = s.trace in
      let g : GatewayId = y.owner p.key in
      let x : Phase = y.phase p.key in
      let later : Bool = cond (same (y.owner p.key) i) false (is_synced (y.owner p.key) s.trace) in
      let was : is_open p s.trace ≡ true = still (is_only_at i p s.trace) (is_open p s.trace) o in
      elim (covered_cases (is_synced (y.owner p.key) s.trace) (y.phase p.key) p.endpoint (y.covers p was)) [
        | inl both ↦ covered_shared (cond (same (y.owner p.key) i) false (is_synced (y.owner p.key) s.trace)) (y.phase p.key) p.endpoint both
        | inr one ↦ elim (cases_Bool (same (y.owner p.key) i)) [
          | inr ne ↦ covered_single (cond (same (y.owner p.key) i) false (is_synced (y.owner p.key) s.trace)) (y.phase p.key) p.endpoint (ap (λ b. cond b false (is_synced (y.owner p.key) s.trace)) ne ∙ one.1) one.2
          | inl eq ↦
              let gi : y.owner p.key ≡ i = same-eq (y.owner p.key) i eq in
              let sa : s.mine.synced ≡ true = sym here.synced_is ∙ ap (λ z. is_synced z s.trace) (sym gi) ∙ one.1 in
              let n : Real s.theirs s.mine y.table y.their_owned y.their_want y.gone y.heard y.inn = y.real sa in
              let theirs_not : owns y.owner (other i) p.key ≡ false = ap (same (other i)) gi ∙ same-not i in
              let mine_own : owns y.owner (other (other i)) p.key ≡ true = other-owns y.owner (other i) p.key ∙ ap not theirs_not in
              let mine_at : s.mine.table p.key ≡ owner_slot (y.phase p.key) = n.table_is p.key ∙ y.talks.there.slots p.key ∙ ap (λ c. slot_at c (y.phase p.key)) mine_own in
              let theirs_at : s.theirs.table p.key ≡ other_slot (y.phase p.key) = y.talks.here.slots p.key ∙ ap (λ c. slot_at c (y.phase p.key)) theirs_not in
              let private : is_private i p s.trace ≡ true = (here.private (here.up_synced sa) p).1 (ap alone_in mine_at ∙ one.2) in
              let unused : is_in_use (other i) p s.trace ≡ false = false_from_ne_true (is_in_use (other i) p s.trace) (λ u.
              let goes : goes_on (other i) p s.trace ≡ true = (and_parts (is_synced (other i) s.trace) (goes_on (other i) p s.trace) u).1 in
              let bad : shared (y.phase p.key) ≡ Some p.endpoint = translated_held (other_slot (y.phase p.key)) p.endpoint (ap translated (sym theirs_at) ∙ (there.goes (there.up_synced sb) p).0 goes) in
              none_some (shared (y.phase p.key)) p.endpoint one.0 bad) in
              let lost : is_only_at i p s.trace ≡ true = and_from (is_private i p s.trace) (not (is_in_use (other i) p s.trace)) private (not_from_false (is_in_use (other i) p s.trace) unused) in
              absurd (both_ways (is_open p (note i moment Crashed ∷ s.trace)) (ap (λ b. cond b false (is_open p s.trace)) lost) o)
        ]
      ]

  pub inv_crash : (moment : ℕ) (i : GatewayId) (s : Scene) → Inv r i s → Can r i s Crash → Inv r i (after_act r i moment s Crash)
  inv_crash moment i s v can =
      let here : Side r i s.mine s.theirs s.my_mail s.their_mail s.trace = v.here in
      let there : Side r (other i) s.theirs s.mine s.their_mail s.my_mail s.trace = v.there in
      let sb : s.theirs.synced ≡ true = elim (cases_Bool s.mine.synced) [ inl x ↦ can.2 x | inr x ↦ other_synced i s v x ] in
      record {
        one_port = (tt, v.one_port);
        one_endpoint = (tt, v.one_endpoint);
        silent = (tt, v.silent);
        some_synced = inr sb;
        here = record {
          synced_is = ap (λ b. cond b false (is_synced i s.trace)) (same-self i);
          up_synced = λ x. absurd (cc);
          goes = λ x. absurd (cc);
          private = λ x. absurd (cc);
          letters = λ x. absurd (cc);
          barred = λ m p. absurd (cc);
          boots = here.boots;
          known = λ x. absurd (cc);
          peer_at = zero-le;
          later = λ x. absurd (cc);
          quiet = λ x. refl;
          state = λ x. absurd (cc);
          awaits = λ x y. absurd (cc);
        };
        there = side_beside r (other i) s.theirs s.mine _ s.their_mail s.my_mail s.trace _ there refl
            (ap (λ b. cond b false (is_synced (other i) s.trace)) (same-not i) ∙ there.synced_is)
            there.goes
            (λ u. private_gone moment (other i) i s.theirs.table s.trace (there.private u))
            (λ x. elim (there.state x) [
              | inl y ↦ inl (alone_beside r (other i) s.theirs s.mine _ s.trace _ y refl (λ p o. still (is_only_at i p s.trace) (is_open p s.trace) o) (λ u. absurd (cc)) (λ p q h. h))
              | inr y ↦ inr (view_beside r (other i) s.theirs s.mine _ s.my_mail _ s.trace _ y
                  y.letters
                  (covers_crash moment i s v sb y)
                  (λ g. lets_crash y.owner moment g i y.phase s.trace (y.lets g))
                  y.were
                  y.two
                  (λ z. absurd (cc))
                  (λ m p. ((y.owes m p).0, refl))
                  (λ z u. absurd (cc)))
            ])
            (λ x u. absurd_flag s.theirs.synced sb x);
      }

  pub inv_boot : (moment : ℕ) (i : GatewayId) (s : Scene) (n : ℕ) → Inv r i s → Can r i s (Boot n) → Inv r i (after_act r i moment s (Boot n))
  inv_boot moment i s n v can =
      let here : Side r i s.mine s.theirs s.my_mail s.their_mail s.trace = v.here in
      let there : Side r (other i) s.theirs s.mine s.their_mail s.my_mail s.trace = v.there in
      let newer : s.mine.boot < n = can.0.1 in
      let sa : s.mine.synced ≡ false = elim (cases_Bool s.mine.synced) [ inl x ↦ absurd_flag s.mine.up (here.up_synced x) can.0.0 | inr x ↦ x ] in
      let sb : s.theirs.synced ≡ true = other_synced i s v sa in
      record {
        one_port = (tt, v.one_port);
        one_endpoint = (tt, v.one_endpoint);
        silent = (tt, v.silent);
        some_synced = inr sb;
        here = record {
          synced_is = ap (λ b. cond b false (is_synced i s.trace)) (same-self i);
          up_synced = λ x. absurd (cc);
          goes = λ x p. (λ h. absurd (both_ways (goes_on i p (note i moment (Booted n) ∷ s.trace)) (ap (λ b. cond b false (goes_on i p s.trace)) (same-self i)) h), λ h. absurd (cc));
          private = λ x p. (λ h. absurd (both_ways (is_private i p (note i moment (Booted n) ∷ s.trace)) (ap (λ b. cond b false (is_private i p s.trace)) (same-self i)) h), λ h. absurd (cc));
          letters = λ x alone l inside boot. let le : l.boot ≤ s.mine.boot = (here.boots l inside).0 in absurd (omega arith);
          barred = λ m p. absurd (cc);
          boots = λ l inside. let le : l.boot ≤ s.mine.boot = (here.boots l inside).0 in (omega arith, (here.boots l inside).1);
          known = λ x l inside boot. let le : l.boot ≤ s.mine.boot = (here.boots l inside).0 in absurd (omega arith);
          peer_at = zero-le;
          later = λ x. absurd (cc);
          quiet = λ x. refl;
          state = λ x. absurd (cc);
          awaits = λ x u. record {
            letters = λ l m q inside to h. let le : l.to ≤ s.mine.boot = (there.boots l inside).1 in absurd (omega arith);
            fresh = λ z. record { table = λ q. refl; taken = refl; loading = refl; wants = refl };
          };
        };
        there = record {
          synced_is = ap (λ b. cond b false (is_synced (other i) s.trace)) (same-not i) ∙ there.synced_is;
          up_synced = there.up_synced;
          goes = λ u p. (λ h. (there.goes u p).0 (ap (λ b. cond b false (goes_on (other i) p s.trace)) (sym (same-not i)) ∙ h), λ h. ap (λ b. cond b false (goes_on (other i) p s.trace)) (same-not i) ∙ (there.goes u p).1 h);
          private = λ u p. (λ h. (there.private u p).0 (ap (λ b. cond b false (is_private (other i) p s.trace)) (sym (same-not i)) ∙ h), λ h. ap (λ b. cond b false (is_private (other i) p s.trace)) (same-not i) ∙ (there.private u p).1 h);
          letters = there.letters;
          barred = there.barred;
          boots = λ l inside. let le : l.to ≤ s.mine.boot = (there.boots l inside).1 in ((there.boots l inside).0, omega arith);
          known = there.known;
          peer_at = (let le : s.theirs.peer ≤ s.mine.boot = there.peer_at in omega arith);
          later = there.later;
          quiet = there.quiet;
          state = λ x. elim (there.state x) [
            | inl y ↦ inl (alone_beside r (other i) s.theirs s.mine _ s.trace _ y refl (λ p o. o) (λ u p. let le : s.theirs.peer ≤ s.mine.boot = there.peer_at in omega arith) (λ p q h. h))
            | inr y ↦ inr (view_beside r (other i) s.theirs s.mine _ s.my_mail _ s.trace _ y
                y.letters
                (covers_boot y.owner moment i n y.phase s.trace (here.synced_is ∙ sa) y.covers)
                (λ g. lets_boot y.owner moment g i n y.phase s.trace (y.lets g))
                y.were
                y.two
                (λ z. absurd (cc))
                (λ m p. ((y.owes m p).0, refl))
                (λ z u p. let le : s.theirs.peer ≤ s.mine.boot = there.peer_at in absurd (omega arith)))
          ];
          awaits = λ x u. absurd_flag s.theirs.synced sb x;
        };
      }

  -- an unsynced gateway that doesn't know the other's boot has loaded nothing
  pub idle : (i : GatewayId) (s : Scene) → Inv r i s → s.mine.up ≡ true → s.mine.synced ≡ false → (s.mine.peer ≡ s.theirs.boot → ⊥) → Fresh s.mine
  idle i s v up sa no_peer =
      let there : Side r (other i) s.theirs s.mine s.their_mail s.my_mail s.trace = v.there in
      elim (cases_eq s.theirs.peer s.mine.boot) [
        | inl p ↦ elim (there.state (other_synced i s v sa)) [
          | inl y ↦ absurd (y.unheard up p)
          | inr y ↦ elim (y.loads sa up p).progress [ inl f ↦ f | inr g ↦ elim g [ inl h ↦ absurd (no_peer h.peer) | inr h ↦ absurd (no_peer h.peer) ] ]
        ]
        | inr p ↦ (v.here.awaits sa up).fresh p
      ]

  pub inv_hear_anew : (moment : ℕ) (i : GatewayId) (s : Scene) (l : Letter) → Inv r i s → Can r i s (HearAnew l) → Inv r i (after_act r i moment s (HearAnew l))
  inv_hear_anew moment i s l v can =
      let here : Side r i s.mine s.theirs s.my_mail s.their_mail s.trace = v.here in
      let there : Side r (other i) s.theirs s.mine s.their_mail s.my_mail s.trace = v.there in
      let sa : s.mine.synced ≡ false = can.0.1 in
      let sb : s.theirs.synced ≡ true = other_synced i s v sa in
      let newer : s.mine.peer < l.boot = can.0.2 in
      let at_most : l.boot ≤ s.theirs.boot = (there.boots l (can.1 l (inl refl))).0 in
      let f : Fresh s.mine = idle i s v can.0.0 sa (λ p. omega arith) in
      let now : Fresh (hears_anew s.mine l.boot) = record { table = λ q. refl; taken = refl; loading = refl; wants = refl } in
      record {
        one_port = v.one_port;
        one_endpoint = v.one_endpoint;
        silent = v.silent;
        some_synced = inr sb;
        here = record {
          synced_is = here.synced_is;
          up_synced = here.up_synced;
          goes = λ u. goes_quiet i s.mine.table empty s.trace (here.goes u) (λ q. ap translated (sym (f.table q)));
          private = λ u. private_quiet i s.mine.table empty s.trace (here.private u) (λ q. ap alone_in (sym (f.table q)));
          letters = λ u alone m inside boot to. let le : m.to ≤ s.mine.peer = here.known u m inside boot in absurd (omega arith);
          barred = λ m p. absurd (cc);
          boots = here.boots;
          known = λ u m inside boot. let le : m.to ≤ s.mine.peer = here.known u m inside boot in omega arith;
          peer_at = at_most;
          later = λ x. absurd_flag s.mine.synced x sa;
          quiet = λ x. refl;
          state = λ x. absurd_flag s.mine.synced x sa;
          awaits = λ x u. record { letters = (here.awaits sa u).letters; fresh = λ z. now };
        };
        there = side_beside r (other i) s.theirs s.mine _ s.their_mail s.my_mail s.trace _ there refl
            there.synced_is
            there.goes
            there.private
            (λ x. elim (there.state x) [
              | inl y ↦ inl (alone_beside r (other i) s.theirs s.mine _ s.trace _ y y.other_out (λ p o. o) y.unheard (λ p q h. h))
              | inr y ↦ inr (view_beside r (other i) s.theirs s.mine _ s.my_mail _ s.trace _ y
                  y.letters
                  y.covers
                  y.lets
                  y.were
                  y.two
                  (λ z. absurd_flag s.mine.synced z sa)
                  (λ m p. ((y.owes m p).0, sa))
                  (λ z u p. let x : Loads r (other i) s.theirs s.mine y.phase y.owner y.table y.their_owned y.their_want y.gone y.heard y.inn = y.loads z u p in
                  record { os = x.os; ps = x.ps; rising = x.rising; owned_is = x.owned_is; want_is = x.want_is; batch_is = x.batch_is; heard_is = x.heard_is; inn_is = x.inn_is; are_new = x.are_new; bar = x.bar; table_is = x.table_is; none_closing = x.none_closing; progress = inl now }))
            ])
            (λ x u. absurd_flag s.theirs.synced sb x);
      }
