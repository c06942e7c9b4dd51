use Rattle.std.proofs.Common.{◌≡◌, List, None, ap, ℕ, refl, sym, subst}
use Rattle.nat_types.specs.declared.events.WorldEvent.{WorldEvent}
use Rattle.frame_sim.specs.World.{state_at}
use Rattle.nat_types.specs.declared.events.WorldEvent.TheVariants.{Stray}
use Rattle.frame_sim.specs.declared.events.WorldFault.TheVariants.{PremiseBroken}
use Rattle.frame_sim.specs.Events.{Does, Strays, may_stray, refusal, unless}
use Rattle.frame_sim.specs.Lacks.{IsUnheard}
use Rattle.frame_sim.specs.Runs.{Answers}
use Rattle.frame_sim.proofs.Lending.{takes-lent}
use Rattle.frame_sim.proofs.Strays.{stray-answers}
use Rattle.frame_sim.proofs.worlds.World.apply.Goals as goal

pub returns-in_ok-hand-in-Frame : goal.returns-in_ok-hand-in-Frame
returns-in_ok-hand-in-Frame c =
    let w = c.args.self.now in
    subst (λ (e : WorldEvent). (refusal w e ≡ None) × Does w e c.args.out.now c.in_ok-hand-in-Frame.field-0 c.hand.new.out c.hand.new.self) (sym c.in-Frame.is)
    (refl, takes-lent w c.in-Frame.id (state_at w c.in-Frame.id) c.in-Frame.side c.as_slice.result c.in-Frame.bytes.items c.args.out.now c.in_ok-hand-in-Frame.field-0 c.hand.new.out c.hand.new.self c.as_slice.ensures.value c.in_ok-hand-in-Frame.ensures.takes)

pub returns-in-Stray : goal.returns-in-Stray
returns-in-Stray c =
    let w = c.args.self.now in
    let i = c.in-Stray.id in
    let same = c.as_slice-in-Stray.ensures.value in
    let e = c.stray.ensures in
    subst (λ (x : WorldEvent). Answers w x c.args.out.now c.stray.result c.stray.new.out c.stray.new.self) (sym c.in-Stray.is)
    (stray-answers w i (Stray i c.in-Stray.bytes) c.as_slice-in-Stray.result.now c.args.out.now c.stray.new.out c.stray.new.self
    (ap (λ (x : List ℕ). unless (may_stray w x) PremiseBroken) (sym same))
    (λ o t. subst (λ (x : List ℕ). Strays w i x c.args.out.now o c.stray.new.out c.stray.new.self) same t)
    (λ l. subst (λ (x : List ℕ). IsUnheard (state_at w i) x) same l)
    c.stray.result e.stray e.takes e.fault e.short e.err e.untold)
