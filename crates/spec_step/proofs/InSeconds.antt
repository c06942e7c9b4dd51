-- In one second of a life no more answers and complaints are sent at a side than may be.
use Rattle.std.proofs.Common.{◌≡◌, ◌≢◌, ◌≤◌, ◌<◌, ◌+◌, ◌==◌, ℕ, Bool, true, false, cond, not, ◌&&◌, List, [], ◌∷◌, refl, sym, ap, subst, ◌∙◌, arith}
use Rattle.std.proofs.lemmas.Bool.Decides.{nat_tests}
use Rattle.std.proofs.lemmas.List.Sums.{sum_by-cons}
use Rattle.nat_types.specs.declared.gateways.Side.{Side}
use Rattle.nat_types.specs.declared.gateways.Side.TheVariants.{Inside, Outside}
use Rattle.interfaces.specs.declared.tallies.Tally.{Tally}
use Rattle.interfaces.specs.declared.tallies.TheConstants.{MOST_REPLIES, MOST_ERRORS}
use Rattle.interfaces.specs.Stations.{same_side}
use Rattle.interfaces.specs.Tallies.{IsWithin, at_moment, none_in, second_of}
use Rattle.spec_step.specs.OwnAnswers.{Answers, AreWithin, Complains, OwnFrame, Purpose, counted_for, tallied}
use Rattle.spec_step.specs.Seconds.{AreStepsSaying, IsStepSaying, StepOwn, answers_at, complaints_at, in_second, is_answer}
use Rattle.spec_step.specs.Shown.{Shown, scene, station_on}
use Rattle.spec_step.specs.Truly.{IsSetUp}
use Rattle.spec_step.proofs.Sending.{Frames}
use Rattle.spec_step.proofs.Truths.{step-told}

-- ---- a tally at a time

same-test : (m n : ℕ) → m ≡ n → (m == n) ≡ true
same-test m n e = grind (arith, nat_tests)

test-same : (m n : ℕ) → (m == n) ≡ true → m ≡ n
test-same m n e = grind (arith, nat_tests)

test-other : (m n : ℕ) → (m == n) ≡ false → m ≢ n
test-other m n e = grind (arith, nat_tests)

other-test : (m n : ℕ) → m ≢ n → (m == n) ≡ false
other-test m n e = grind (arith, nat_tests)

at-second : (now : ℕ) (t : Tally) → (at_moment now t).second ≡ second_of now
unfolding at_moment
at-second now t = at (t.second == second_of now) refl
  where
    at : (b : Bool) → (t.second == second_of now) ≡ b → (let x : Tally = cond b t (none_in (second_of now)) in x.second) ≡ second_of now
    at true is = test-same t.second (second_of now) is
    at false is = refl

at-same : (now : ℕ) (t : Tally) → t.second ≡ second_of now → at_moment now t ≡ t
unfolding at_moment
at-same now t is = ap (λ (b : Bool). cond b t (none_in (second_of now))) (same-test t.second (second_of now) is)

at-by : (m n : ℕ) (t : Tally) → second_of m ≡ second_of n → at_moment m t ≡ at_moment n t
unfolding at_moment
at-by m n t same = ap (λ (q : ℕ). cond (t.second == q) t (none_in q)) same

pub none-within : (q : ℕ) → IsWithin (none_in q)
none-within q = record { replies = omega arith; errors = omega arith }

within-at : (now : ℕ) (t : Tally) → IsWithin t → IsWithin (at_moment now t)
unfolding at_moment
within-at now t is = at (t.second == second_of now)
  where
    at : (b : Bool) → IsWithin (let x : Tally = cond b t (none_in (second_of now)) in x)
    at true = is
    at false = none-within (second_of now)

counted-at : (purpose : Purpose) (now : ℕ) (t : Tally) → at_moment now (counted_for purpose now t) ≡ counted_for purpose now t
counted-at Answers now t = at-same now (counted_for Answers now t) (at-second now t)
counted-at (Complains reason exit) now t = at-same now (counted_for (Complains reason exit) now t) (at-second now t)

-- ---- after own frames, one by one

module _ (now : ℕ) (side : Side) where
  abbrev after-one : OwnFrame → Tally → Tally
  after-one o t = cond (same_side o.packet.side side) (counted_for o.purpose now t) t

  one-replies : (o : OwnFrame) (t : Tally) → (at_moment now (after-one o t)).replies ≡ (at_moment now t).replies + cond (same_side o.packet.side side && is_answer o.purpose) 1 0
  one-replies o t = at (same_side o.packet.side side) o.purpose
    where
      at : (b : Bool) (purpose : Purpose) → (at_moment now (let x : Tally = cond b (counted_for purpose now t) t in x)).replies ≡ (at_moment now t).replies + cond (b && is_answer purpose) 1 0
      at true Answers = ap (λ (x : Tally). x.replies) (counted-at Answers now t)
      at true (Complains reason exit) = let same = ap (λ (x : Tally). x.replies) (counted-at (Complains reason exit) now t) in omega (arith, same)
      at false purpose = omega arith

  one-errors : (o : OwnFrame) (t : Tally) → (at_moment now (after-one o t)).errors ≡ (at_moment now t).errors + cond (same_side o.packet.side side && not (is_answer o.purpose)) 1 0
  one-errors o t = at (same_side o.packet.side side) o.purpose
    where
      at : (b : Bool) (purpose : Purpose) → (at_moment now (let x : Tally = cond b (counted_for purpose now t) t in x)).errors ≡ (at_moment now t).errors + cond (b && not (is_answer purpose)) 1 0
      at true Answers = let same = ap (λ (x : Tally). x.errors) (counted-at Answers now t) in omega (arith, same)
      at true (Complains reason exit) = ap (λ (x : Tally). x.errors) (counted-at (Complains reason exit) now t)
      at false purpose = omega arith

  tallied-replies : (os : List OwnFrame) (t : Tally) → (at_moment now (tallied now side os t)).replies ≡ (at_moment now t).replies + answers_at side os
  tallied-replies [] t = omega arith
  tallied-replies (o ∷ os) t =
      let rest = tallied-replies os (after-one o t) in
      let first = one-replies o t in
      let more = sum_by-cons (λ (x : OwnFrame). cond (same_side x.packet.side side && is_answer x.purpose) 1 0) o os in
      omega (arith, rest, first, more)

  tallied-errors : (os : List OwnFrame) (t : Tally) → (at_moment now (tallied now side os t)).errors ≡ (at_moment now t).errors + complaints_at side os
  tallied-errors [] t = omega arith
  tallied-errors (o ∷ os) t =
      let rest = tallied-errors os (after-one o t) in
      let first = one-errors o t in
      let more = sum_by-cons (λ (x : OwnFrame). cond (same_side x.packet.side side && not (is_answer x.purpose)) 1 0) o os in
      omega (arith, rest, first, more)

-- ---- a life

module _ (p : Tally → ℕ) (most : ℕ) (count : List OwnFrame → ℕ) (side : Side) (limit : (t : Tally) → IsWithin t → p t ≤ most) where
  abbrev said : Shown → Tally
  said g = (station_on g side).said

  -- what a step does to the number that is counted
  record IsLink (g : Shown) (x : StepOwn) (new : Shown) : Type 0 where
    grows : p (at_moment x.moment (said new)) ≡ p (at_moment x.moment (said g)) + count x.own
    later : g.moment ≤ x.moment
    moment_is : x.moment ≡ new.moment
    within : IsWithin (said new)

  abbrev Chain : Shown → List StepOwn → Type 0
  Chain g [] = Unit {0}
  Chain g (x ∷ xs) = (new : Shown) × (IsLink g x new × Chain new xs)

  -- the later steps of a life send nothing in an earlier second
  none-before : (q : ℕ) (g : Shown) (xs : List StepOwn) → Chain g xs → q < second_of g.moment → in_second count q xs ≡ 0
  none-before q g [] chain past = refl
  none-before q g (x ∷ xs) chain past =
      let link = chain.1.0 in
      let after : q < second_of x.moment = omega (arith, past, link.later) in
      let rest = none-before q chain.0 xs chain.1.1 (omega (arith, after, link.moment_is)) in
      rw (other-test (second_of x.moment) q (λ e. omega (arith, after, e))) (omega (arith, rest))

  bounded : (q : ℕ) (g : Shown) (xs : List StepOwn) → IsWithin (said g) → Chain g xs → in_second count q xs + cond (second_of g.moment == q) (p (at_moment g.moment (said g))) 0 ≤ most
  bounded q g [] is chain = at (second_of g.moment == q)
    where
      at : (b : Bool) → 0 + cond b (p (at_moment g.moment (said g))) 0 ≤ most
      at true = omega (arith, limit (at_moment g.moment (said g)) (within-at g.moment (said g) is))
      at false = omega arith
  bounded q g (x ∷ xs) is chain = at (second_of x.moment == q) refl (second_of g.moment == q) refl (here (bounded q chain.0 xs chain.1.0.within chain.1.1))
    where
      new : Shown
      new = chain.0

      link : IsLink g x new
      link = chain.1.0

      here : in_second count q xs + cond (second_of new.moment == q) (p (at_moment new.moment (said new))) 0 ≤ most → in_second count q xs + cond (second_of x.moment == q) (p (at_moment x.moment (said new))) 0 ≤ most
      here rest = subst (λ (m : ℕ). in_second count q xs + cond (second_of m == q) (p (at_moment m (said new))) 0 ≤ most) (sym link.moment_is) rest

      at : (b : Bool) → (second_of x.moment == q) ≡ b → (c : Bool) → (second_of g.moment == q) ≡ c → in_second count q xs + cond b (p (at_moment x.moment (said new))) 0 ≤ most
          → (cond b (count x.own) 0 + in_second count q xs) + cond c (p (at_moment g.moment (said g))) 0 ≤ most
      at true now true before ih =
          let same = ap p (at-by g.moment x.moment (said g) (test-same (second_of g.moment) q before ∙ sym (test-same (second_of x.moment) q now))) in
          omega (arith, ih, same, link.grows)
      at true now false before ih = omega (arith, ih, link.grows)
      at false now true before ih =
          let is_q = test-same (second_of g.moment) q before in
          let other = test-other (second_of x.moment) q now in
          let past : q < second_of new.moment = omega (arith, is_q, other, link.later, link.moment_is) in
          omega (arith, none-before q new xs chain.1.1 past, limit (at_moment g.moment (said g)) (within-at g.moment (said g) is))
      at false now false before ih = omega (arith, ih)

-- each side counts exactly the own frames that a step sends there
counted-on : (g new : Shown) (x : StepOwn) → IsStepSaying g x new → (side : Side) → (station_on new side).said ≡ tallied x.moment side x.own (station_on g side).said
counted-on g new x s side = subst (λ (own : List OwnFrame). (station_on new side).said ≡ tallied x.moment side own (station_on g side).said) (sym s.own_is)
    (subst (λ (m : ℕ). (station_on new side).said ≡ tallied m side s.tells.own (station_on g side).said) (sym s.moment_is) (at side))
  where
    at : (side : Side) → (station_on new side).said ≡ tallied new.moment side s.tells.own (station_on g side).said
    at Inside = s.tells.counted_inside
    at Outside = s.tells.counted_outside

within-on : (g : Shown) (side : Side) → AreWithin g → IsWithin (station_on g side).said
within-on g Inside is = is.0
within-on g Outside is = is.1

module _ (frames : Frames) (side : Side) where
  replies-chain : (g : Shown) (xs : List StepOwn) (g2 : Shown) → IsSetUp g → AreWithin g → AreStepsSaying g xs g2 → Chain (λ t. t.replies) MOST_REPLIES (answers_at side) side (λ t is. is.replies) g xs
  replies-chain g [] g2 w is steps = tt
  replies-chain g (x ∷ xs) g2 w is steps =
      let new = steps.0 in
      let s = steps.1.0 in
      let told = step-told frames (scene g s.before) s.event (scene new s.after) s.step s.bytes (record { book = s.book; kept = s.kept }) w in
      let within = told.0.within is in (
        new,
        (
          record {
            grows = ap (λ (t : Tally). (at_moment x.moment t).replies) (counted-on g new x s side) ∙ tallied-replies x.moment side x.own (station_on g side).said;
            later = omega (arith, told.0.later, s.moment_is);
            moment_is = s.moment_is;
            within = within-on new side within;
          },
          replies-chain new xs g2 told.1 within steps.1.1,
        ),
      )

  errors-chain : (g : Shown) (xs : List StepOwn) (g2 : Shown) → IsSetUp g → AreWithin g → AreStepsSaying g xs g2 → Chain (λ t. t.errors) MOST_ERRORS (complaints_at side) side (λ t is. is.errors) g xs
  errors-chain g [] g2 w is steps = tt
  errors-chain g (x ∷ xs) g2 w is steps =
      let new = steps.0 in
      let s = steps.1.0 in
      let told = step-told frames (scene g s.before) s.event (scene new s.after) s.step s.bytes (record { book = s.book; kept = s.kept }) w in
      let within = told.0.within is in (
        new,
        (
          record {
            grows = ap (λ (t : Tally). (at_moment x.moment t).errors) (counted-on g new x s side) ∙ tallied-errors x.moment side x.own (station_on g side).said;
            later = omega (arith, told.0.later, s.moment_is);
            moment_is = s.moment_is;
            within = within-on new side within;
          },
          errors-chain new xs g2 told.1 within steps.1.1,
        ),
      )

  pub few-answers : (g : Shown) (xs : List StepOwn) (g2 : Shown) → IsSetUp g → AreWithin g → AreStepsSaying g xs g2 → (second : ℕ) → in_second (answers_at side) second xs ≤ MOST_REPLIES
  few-answers g xs g2 w is steps second =
      let all = bounded (λ t. t.replies) MOST_REPLIES (answers_at side) side (λ t is. is.replies) second g xs (within-on g side is) (replies-chain g xs g2 w is steps) in
      omega (arith, all)

  pub few-complaints : (g : Shown) (xs : List StepOwn) (g2 : Shown) → IsSetUp g → AreWithin g → AreStepsSaying g xs g2 → (second : ℕ) → in_second (complaints_at side) second xs ≤ MOST_ERRORS
  few-complaints g xs g2 w is steps second =
      let all = bounded (λ t. t.errors) MOST_ERRORS (complaints_at side) side (λ t is. is.errors) second g xs (within-on g side is) (errors-chain g xs g2 w is steps) in
      omega (arith, all)
