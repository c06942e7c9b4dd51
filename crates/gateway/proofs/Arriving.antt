-- What comes of an event, and what holds once it was taken.
use Rattle.std.specs.Borrow.{Bor}
use Rattle.std.proofs.Common.{◌≡◌, ◌≤◌, inr, ℕ, true, Option, Some, List, length, refl, sym, ap, subst, ◌∙◌, arith}
use Rattle.std.proofs.lemmas.Bool.{false≢true}
use Rattle.nat_types.specs.declared.gateways.Side.{Side}
use Rattle.output.specs.Output.{Output, Paged}
use Rattle.packet_rules.specs.declared.reasons.Reason.{Reason}
use Rattle.fragments.specs.Gathered.{Gathered, there_of}
use Rattle.spec_step.specs.declared.events.Event.{Event}
use Rattle.spec_step.specs.declared.events.Event.TheVariants.{Frame}
use Rattle.spec_step.specs.declared.events.Outcome.{Outcome}
use Rattle.spec_step.specs.declared.events.Outcome.TheVariants.{Dropped}
use Rattle.spec_step.specs.Shown.{Shown, scene}
use Rattle.spec_step.specs.Steps.{IsStepOn, outcome_on}
use Rattle.spec_gateway.specs.State.{GatewayState}
use Rattle.spec_gateway.specs.Arrivals.{Arrival as Brings, arrival, frame_arrives, nothing_arrives}
use Rattle.spec_gateway.specs.Steps.{Takes, frame_event, gathered_after, outcome_of, whole_event}
use Rattle.gateway.specs.declared.gathers.Arrival.{Arrival}
use Rattle.gateway.specs.declared.gathers.Arrival.TheVariants.{Plain, Whole, Ended}
use Rattle.gateway.specs.Arrivals.{ComesTo, IsEnded, IsFrameOf, IsPlain, IsWhole, StandsFor, after_event, clock_by, lent_event}
use Rattle.gateway.specs.Gateway.{GoesOn, IsTaken}
use Rattle.gateway.specs.Lacks.{LacksMemory, LacksStep, LacksWhole}
use Rattle.gateway.specs.Rooms.{is_of_side}
use Rattle.gateway.proofs.Lasting.{step-moment}
use Rattle.gateway.proofs.Lending.{lend-lacks, lend-outcome, lend-step}

-- ---- what comes of an event, where these fragments are there
module _ (shown : Shown) (g : Gathered) (n : ℕ) where
  abbrev s : GatewayState
  s = record { shown = shown; gathered = there_of g; numbered = n }

  -- a frame that is taken as it came
  pub frame-plain : (side : Side) (b : Bor (List ℕ)) → length b.now ≤ 1514 → arrival s side b.now ≡ frame_arrives s side b.now → IsPlain s (Frame side b) g
  frame-plain side b short is = record {
    short = omega (arith, short);
    whole = ap (λ (a : Brings). frame_event side a.frame) is;
    outcome_is = ap (λ (a : Brings). a.outcome) is;
    stays = refl;
    left = ap (λ (a : Brings). a.gathered) is;
  }

  -- a frame that is dropped
  pub frame-ended : (side : Side) (b : Bor (List ℕ)) (reason : Reason) → arrival s side b.now ≡ nothing_arrives s reason → IsEnded s (Frame side b) g (Dropped reason)
  frame-ended side b reason is = record {
    whole = ap (λ (a : Brings). frame_event side a.frame) is;
    outcome_is = ap (λ (a : Brings). a.outcome) is;
    left = ap (λ (a : Brings). a.gathered) is;
  }

-- ---- what is taken
module _ (s : GatewayState) (event : Event) (g : Gathered) where
  -- an event goes on to be taken as this one
  pub record Goes (arrival : Arrival) (whole : Event) : Type 0 where
    pub whole_is : whole_event s event ≡ Some (lent_event whole)
    pub outcome_is : outcome_of s event ≡ outcome_on s.shown whole
    pub stays : there_of g ≡ s.gathered
    pub left : (moment : ℕ) → moment ≡ clock_by s.shown.moment whole → gathered_after s event ≡ there_of (after_event moment event arrival g)
    pub plugged : is_of_side event ≡ true → is_of_side whole ≡ true

  goes-plain : (whole : Event) → IsPlain s event g → whole ≡ event → Goes Plain whole
  goes-plain whole plain same = record {
    whole_is = plain.whole ∙ ap (λ (e : Event). let o : Option Event = Some (lent_event e) in o) (sym same);
    outcome_is = plain.outcome_is ∙ ap (outcome_on s.shown) (sym same);
    stays = plain.stays;
    left = λ moment is. plain.left ∙ ap (λ (m : ℕ). there_of (after_event m event Plain g)) (ap (clock_by s.shown.moment) (sym same) ∙ sym is);
    plugged = λ is. ap is_of_side same ∙ is;
  }

  goes-whole : (side : Side) (whole : Event) → IsWhole s event g side → IsFrameOf side g.whole whole → Goes (Whole side) whole
  goes-whole side whole comes lent = record {
    whole_is = comes.whole ∙ ap (λ (e : Event). let o : Option Event = Some e in o) (sym lent.same);
    outcome_is = comes.outcome_is ∙ (ap (outcome_on s.shown) (sym lent.same) ∙ lend-outcome s.shown whole);
    stays = comes.stays;
    left = λ moment is. comes.left ∙ ap (λ (e : Event). there_of (after_event moment e (Whole side) g)) (sym comes.event_is);
    plugged = λ is. absurd (false≢true (ap is_of_side (sym comes.event_is) ∙ is));
  }

  pub goes : (arrival : Arrival) (whole : Event) → ((outcome : Outcome) → arrival ≡ Ended outcome → ⊥) → ComesTo s event g arrival → StandsFor event g arrival whole → Goes arrival whole
  goes Plain whole on comes stands = goes-plain whole comes stands
  goes (Whole side) whole on comes stands = goes-whole side whole comes stands
  goes (Ended outcome) whole on comes stands = absurd (on outcome refl)

  -- what was taken was the event
  pub goes-taken : (arrival : Arrival) (whole : Event) (told : Output) (shown2 : Shown) (g2 : Gathered) (told2 : Output) → Goes arrival whole → IsStepOn (scene s.shown told) whole (scene shown2 told2) → GoesOn s.shown told shown2 told2
      → g2 ≡ after_event shown2.moment event arrival g
      → IsTaken s told (whole_event s event) (gathered_after s event) (record { shown = shown2; gathered = there_of g2; numbered = s.numbered }) told2
  goes-taken arrival whole told shown2 g2 told2 goes step goes_on left = record {
    takes = subst (λ (o : Option Event). Takes s.shown told o shown2 told2) (sym goes.whole_is) (lend-step (scene s.shown told) whole (scene shown2 told2) step);
    gathered_is = ap there_of left ∙ sym (goes.left shown2.moment (step-moment (scene s.shown told) whole (scene shown2 told2) step));
    numbered_is = refl;
    goes_on = goes_on;
  }

  pub goes-lacks : (arrival : Arrival) (whole : Event) (page : Paged) → Goes arrival whole → LacksStep s.shown page whole → LacksMemory s page event
  goes-lacks arrival whole page goes lacks =
      inr (subst (λ (o : Option Event). LacksWhole s.shown page o) (sym goes.whole_is) (lend-lacks s.shown page whole lacks))
