use Rattle.std.proofs.Common.{◌≡◌, ℕ, false, true, ap, subst, sym, ◌∙◌, arith}
use Rattle.fragments.specs.declared.gatherings.Came.TheVariants.{Refused, Held, Whole}
use Rattle.fragments.specs.Gathered.{Gathered, Taking, of_side, taken}
use Rattle.spec_step.specs.declared.events.Event.TheVariants.{Frame}
use Rattle.spec_step.specs.declared.events.Outcome.TheVariants.{Dropped, Waiting}
use Rattle.packet_rules.specs.declared.reasons.Reason.TheVariants.{Fragment}
use Rattle.spec_step.specs.Shown.{Shown}
use Rattle.spec_gateway.specs.State.{GatewayState}
use Rattle.spec_gateway.specs.Arrivals.{is_gathered}
use Rattle.forwarder.specs.Forwarder.{shown_of}
use Rattle.gateway.specs.declared.gathers.Fragments.{Fragments}
use Rattle.gateway.specs.Arrivals.{IsEnded, IsWhole}
use Rattle.gateway.specs.Gateway.{state_of}
use Rattle.gateway.proofs.Gathering.{arrival-dropped, held-ended, part-brings, refused-ended, whole-comes}
use Rattle.gateway.proofs.Arriving.{frame-ended}
use Rattle.gateway.proofs.gathers.join_part.Goals as goal

pub returns-then-not-is_gathered-clause-arrival : goal.returns-then-not-is_gathered-clause-arrival
returns-then-not-is_gathered-clause-arrival c =
    let shown : Shown = shown_of c.args.forwarder.now in
    let g : Gathered = c.args.fragments.now.gathering in
    let n : ℕ = c.args.fragments.now.numbered in
    let side = c.args.frame.side in
    let s : GatewayState = state_of c.args.forwarder.now c.args.fragments.now in
    let drops : is_gathered shown side c.args.frame.bytes.now ≡ false = grind (arith, c.is_gathered.ensures, c.if-not-is_gathered.true) in
    frame-ended shown g n side c.args.frame.bytes Fragment (arrival-dropped s side c.args.frame.bytes.now c.requires.short c.requires.part drops)

pub returns-in-Refused-clause-arrival : goal.returns-in-Refused-clause-arrival
returns-in-Refused-clause-arrival c =
    let shown : Shown = shown_of c.args.forwarder.now in
    let g : Gathered = c.args.fragments.now.gathering in
    let n : ℕ = c.args.fragments.now.numbered in
    let side = c.args.frame.side in
    let b = c.args.frame.bytes in
    let t : Taking = taken shown.moment b.now (of_side side g) in
    let s : GatewayState = state_of c.args.forwarder.now c.args.fragments.now in
    let gathers : is_gathered shown side b.now ≡ true = grind (arith, c.is_gathered.ensures, c.if-not-is_gathered.false) in
    let came = c.in_ok-join.ensures.came in
    let at = c.in-Refused.is in
    let is : Refused ≡ t.came = cc in
    let same = ap (λ (f : Fragments). f.gathering) c.count_part.ensures ∙ c.in_ok-join.ensures.after in
    subst (λ (x : Gathered). IsEnded s (Frame side b) x (Dropped Fragment)) (sym same)
    (refused-ended shown g n side b (part-brings shown g n side b c.requires.short c.requires.part gathers) is)

pub returns-in-Held-clause-arrival : goal.returns-in-Held-clause-arrival
returns-in-Held-clause-arrival c =
    let shown : Shown = shown_of c.args.forwarder.now in
    let g : Gathered = c.args.fragments.now.gathering in
    let n : ℕ = c.args.fragments.now.numbered in
    let side = c.args.frame.side in
    let b = c.args.frame.bytes in
    let t : Taking = taken shown.moment b.now (of_side side g) in
    let s : GatewayState = state_of c.args.forwarder.now c.args.fragments.now in
    let gathers : is_gathered shown side b.now ≡ true = grind (arith, c.is_gathered.ensures, c.if-not-is_gathered.false) in
    let came = c.in_ok-join.ensures.came in
    let at = c.in-Held.is in
    let is : Held ≡ t.came = cc in
    let same = ap (λ (f : Fragments). f.gathering) c.count_part-in-Held.ensures ∙ c.in_ok-join.ensures.after in
    subst (λ (x : Gathered). IsEnded s (Frame side b) x Waiting) (sym same)
    (held-ended shown g n side b (part-brings shown g n side b c.requires.short c.requires.part gathers) is)

pub returns-in-Whole-clause-arrival : goal.returns-in-Whole-clause-arrival
returns-in-Whole-clause-arrival c =
    let shown : Shown = shown_of c.args.forwarder.now in
    let g : Gathered = c.args.fragments.now.gathering in
    let n : ℕ = c.args.fragments.now.numbered in
    let side = c.args.frame.side in
    let b = c.args.frame.bytes in
    let t : Taking = taken shown.moment b.now (of_side side g) in
    let s : GatewayState = state_of c.args.forwarder.now c.args.fragments.now in
    let gathers : is_gathered shown side b.now ≡ true = grind (arith, c.is_gathered.ensures, c.if-not-is_gathered.false) in
    let came = c.in_ok-join.ensures.came in
    let at = c.in-Whole.is in
    let is : Whole ≡ t.came = cc in
    subst (λ (x : Gathered). IsWhole s (Frame side b) x side) (sym c.in_ok-join.ensures.after)
    (whole-comes shown g n side b (part-brings shown g n side b c.requires.short c.requires.part gathers) is (c.recall_part.ensures.part c.requires.part))
