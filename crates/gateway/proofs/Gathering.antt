-- What comes of a frame that comes in, by how it is read, and of a fragment beside those that are there.
use Rattle.std.proofs.Common.{◌≡◌, ◌≤◌, ◌<◌, ℕ, Bool, true, false, cond, nat_lt, Option, Some, None, unwrap_or, List, [], length, refl, sym, ap, ◌∙◌, arith}
use Rattle.std.proofs.lemmas.Bool.Decides.{nat_tests}
use Rattle.frames.specs.declared.ethernet.TheConstants.{LONGEST}
use Rattle.nat_types.specs.declared.gateways.Side.{Side}
use Rattle.nat_types.specs.declared.gateways.Side.TheVariants.{Inside, Outside}
use Rattle.packet_rules.specs.declared.reasons.Reason.TheVariants.{Fragment, ShortFrame}
use Rattle.fragments.specs.declared.gatherings.Came.{Came}
use Rattle.fragments.specs.declared.gatherings.Came.TheVariants.{Refused, Held, Whole}
use Rattle.fragments.specs.Gathered.{Datagram, Gathered, Taking, after, after_end, after_join, ended, left_by, of_side, taken, there_of}
use Rattle.fragments.proofs.Offered.{held-none, refused-none, whole-makes}
use Rattle.spec_step.specs.declared.events.Outcome.TheVariants.{Dropped, Waiting}
use Rattle.spec_step.specs.Shown.{Shown}
use Rattle.spec_step.specs.Verdict.{reading_on, verdict}
use Rattle.spec_gateway.specs.State.{GatewayState}
use Rattle.spec_gateway.specs.Arrivals.{Arrival, arrival, fragment_arrives, frame_arrives, is_gathered, is_part, nothing_arrives, outcome_part, part_arrives}
use Rattle.spec_gateway.specs.Steps.{frame_event}
use Rattle.spec_step.specs.declared.events.Event.TheVariants.{Frame}
use Rattle.gateway.specs.Arrivals.{IsEnded, IsWhole}
use Rattle.gateway.specs.Gateway.{part_of}
use Rattle.fragments.specs.Fragment.{IsFragment}
use Rattle.std.specs.Borrow.{Bor}

-- ---- a frame that comes in, by its length and by how it is read
over : (n : ℕ) → 1514 < n → nat_lt LONGEST n ≡ true
over n long = grind (arith, nat_tests)

within : (n : ℕ) → n ≤ 1514 → nat_lt LONGEST n ≡ false
within n short = grind (arith, nat_tests)

pub arrival-long : (s : GatewayState) (side : Side) (bytes : List ℕ) → 1514 < length bytes → arrival s side bytes ≡ nothing_arrives s ShortFrame
unfolding arrival
arrival-long s side bytes long =
    ap (λ (b : Bool). cond b (nothing_arrives s ShortFrame) (cond (is_part (reading_on s.shown side bytes)) (part_of s side bytes) (frame_arrives s side bytes))) (over (length bytes) long)

arrival-short : (s : GatewayState) (side : Side) (bytes : List ℕ) → length bytes ≤ 1514
    → arrival s side bytes ≡ cond (is_part (reading_on s.shown side bytes)) (part_of s side bytes) (frame_arrives s side bytes)
unfolding arrival
arrival-short s side bytes short =
    ap (λ (b : Bool). cond b (nothing_arrives s ShortFrame) (cond (is_part (reading_on s.shown side bytes)) (part_of s side bytes) (frame_arrives s side bytes))) (within (length bytes) short)

arrival-part : (s : GatewayState) (side : Side) (bytes : List ℕ) → length bytes ≤ 1514 → is_part (reading_on s.shown side bytes) ≡ true → arrival s side bytes ≡ part_of s side bytes
arrival-part s side bytes short part =
    arrival-short s side bytes short ∙ ap (λ (b : Bool). cond b (part_of s side bytes) (frame_arrives s side bytes)) part

pub arrival-whole : (s : GatewayState) (side : Side) (bytes : List ℕ) → length bytes ≤ 1514 → is_part (reading_on s.shown side bytes) ≡ false → arrival s side bytes ≡ frame_arrives s side bytes
arrival-whole s side bytes short whole =
    arrival-short s side bytes short ∙ ap (λ (b : Bool). cond b (part_of s side bytes) (frame_arrives s side bytes)) whole

-- a fragment that isn't gathered is dropped
pub arrival-dropped : (s : GatewayState) (side : Side) (bytes : List ℕ) → length bytes ≤ 1514 → is_part (reading_on s.shown side bytes) ≡ true → is_gathered s.shown side bytes ≡ false → arrival s side bytes ≡ nothing_arrives s Fragment
arrival-dropped s side bytes short part drops = arrival-part s side bytes short part ∙ ap (fragment_arrives s side bytes) drops

-- ---- what is there afterwards
of-there : (side : Side) (g : Gathered) → of_side side (there_of g) ≡ of_side side g
of-there Inside g = refl
of-there Outside g = refl

after-quiet : (side : Side) (t : Taking) (g : Gathered) → t.made ≡ None → there_of (after_join side t g) ≡ there_of (after side t (there_of g))
after-quiet Inside t g none = ap (λ (o : Option (List ℕ)). let x : Gathered = record { inside = left_by o t.left g.inside; outside = g.outside; whole = []; lost = None } in x) none
after-quiet Outside t g none = ap (λ (o : Option (List ℕ)). let x : Gathered = record { inside = g.inside; outside = left_by o t.left g.outside; whole = []; lost = None } in x) none

-- where a whole frame is made, the fragments that were there stay at first
join-stays : (side : Side) (t : Taking) (g : Gathered) (whole : List ℕ) → t.made ≡ Some whole → there_of (after_join side t g) ≡ there_of g
join-stays Inside t g whole made = ap (λ (o : Option (List ℕ)). let x : Gathered = record { inside = left_by o t.left g.inside; outside = g.outside; whole = []; lost = None } in x) made
join-stays Outside t g whole made = ap (λ (o : Option (List ℕ)). let x : Gathered = record { inside = g.inside; outside = left_by o t.left g.outside; whole = []; lost = None } in x) made

after-whole : (side : Side) (frame : List ℕ) (t : Taking) (g : Gathered) (whole : List ℕ) → t.made ≡ Some whole → t.left ≡ ended frame (of_side side g)
    → there_of (after_end side frame (after_join side t g)) ≡ there_of (after side t (there_of g))
after-whole Inside frame t g whole made left =
    ap (λ (o : Option (List ℕ)). let x : Gathered = record { inside = ended frame (left_by o t.left g.inside); outside = g.outside; whole = []; lost = None } in x) made
    ∙ ap (λ (ds : List Datagram). let x : Gathered = record { inside = ds; outside = g.outside; whole = []; lost = None } in x) (sym left)
after-whole Outside frame t g whole made left =
    ap (λ (o : Option (List ℕ)). let x : Gathered = record { inside = g.inside; outside = ended frame (left_by o t.left g.outside); whole = []; lost = None } in x) made
    ∙ ap (λ (ds : List Datagram). let x : Gathered = record { inside = g.inside; outside = ds; whole = []; lost = None } in x) (sym left)

-- ---- a fragment that is gathered
module _ (shown : Shown) (g : Gathered) (n : ℕ) (side : Side) (b : Bor (List ℕ)) where
  abbrev s : GatewayState
  s = record { shown = shown; gathered = there_of g; numbered = n }

  abbrev t : Taking
  t = taken shown.moment b.now (of_side side g)

  -- it brings what comes of it
  abbrev BringsPart : Type 0
  BringsPart = arrival s side b.now ≡ part_arrives s side t

  pub part-brings : length b.now ≤ 1514 → is_part (reading_on shown side b.now) ≡ true → is_gathered shown side b.now ≡ true → BringsPart
  part-brings short is gathers =
      arrival-part s side b.now short is
      ∙ ap (fragment_arrives s side b.now) gathers
      ∙ ap (λ (ds : List Datagram). part_arrives s side (taken shown.moment b.now ds)) (of-there side g)

  quiet-ended : (came : Came) → BringsPart → came ≡ t.came → t.made ≡ None → IsEnded s (Frame side b) (after_join side t g) (outcome_part shown side came None)
  quiet-ended came brings is none = record {
    whole = ap (λ (a : Arrival). frame_event side a.frame) brings ∙ ap (frame_event side) none;
    outcome_is = ap (λ (a : Arrival). a.outcome) brings
        ∙ ap (λ (o : Option (List ℕ)). outcome_part shown side t.came o) none
        ∙ ap (λ (c : Came). outcome_part shown side c None) (sym is);
    left = ap (λ (a : Arrival). a.gathered) brings ∙ sym (after-quiet side t g none);
  }

  pub refused-ended : BringsPart → Refused ≡ t.came → IsEnded s (Frame side b) (after_join side t g) (Dropped Fragment)
  refused-ended brings is = quiet-ended Refused brings is (refused-none shown.moment b.now (of_side side g) is)

  pub held-ended : BringsPart → Held ≡ t.came → IsEnded s (Frame side b) (after_join side t g) Waiting
  held-ended brings is = quiet-ended Held brings is (held-none shown.moment b.now (of_side side g) is)

  pub whole-comes : BringsPart → Whole ≡ t.came → IsFragment b.now → IsWhole s (Frame side b) (after_join side t g) side
  whole-comes brings is fragment =
      let makes = whole-makes shown.moment b.now (of_side side g) is in
      record {
        bytes = b;
        event_is = refl;
        part = fragment;
        whole = ap (λ (a : Arrival). frame_event side a.frame) brings
            ∙ ap (frame_event side) makes.made
            ∙ ap (λ (o : Option (List ℕ)). frame_event side (Some (unwrap_or o g.whole))) (sym makes.made);
        outcome_is = ap (λ (a : Arrival). a.outcome) brings
            ∙ ap (λ (o : Option (List ℕ)). outcome_part shown side t.came o) makes.made
            ∙ ap (λ (c : Came). outcome_part shown side c (Some makes.whole)) (sym is)
            ∙ ap (λ (o : Option (List ℕ)). verdict shown side (unwrap_or o g.whole)) (sym makes.made);
        stays = join-stays side t g makes.whole makes.made;
        left = ap (λ (a : Arrival). a.gathered) brings ∙ sym (after-whole side b.now t g makes.whole makes.made makes.left);
      }
