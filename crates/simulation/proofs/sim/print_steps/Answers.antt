use Rattle.std.proofs.Common.{◌≡◌, ◌∙◌, ◌++◌, ◌+◌, ◌∷◌, [], List, length, ap, refl, sym, drop}
use Rattle.std.proofs.lemmas.List.{drop_all, drop_more}
use Rattle.nat_types.specs.declared.events.WorldEvent.{WorldEvent}
use Rattle.frame_sim.specs.declared.events.Step.{Step}
use Rattle.simulation.specs.Lines.{BothNetworks, counts_after, step_lines}
use Rattle.simulation.specs.Runs.{steps_lines}
use Rattle.simulation.specs.declared.lines.Counts.{Counts}
use Rattle.simulation.proofs.Parts.{part_more, part_none, part_whole}
use Rattle.simulation.proofs.sim.print_steps.Goals as goal

-- the lines of an event and its step come first
next : (both : BothNetworks) (counts : Counts) (es es2 : List WorldEvent) (ss ss2 : List Step) (e : WorldEvent) (s : Step) → es ≡ e ∷ es2 → ss ≡ s ∷ ss2
    → steps_lines both counts es ss ≡ step_lines both counts e s ++ steps_lines both (counts_after counts e s) es2 ss2
next both counts es es2 ss ss2 e s events steps = rw (events, steps) refl

-- none is left
empty : (ss : List Step) → length ss ≡ 0 → ss ≡ []
empty [] is = refl
empty (s ∷ ss) is = cc

-- no step is left
none : (both : BothNetworks) (counts : Counts) (es : List WorldEvent) (ss : List Step) → ss ≡ [] → steps_lines both counts es ss ≡ []
none both counts [] ss is = refl
none both counts (e ∷ es) ss is = rw is refl

pub loop-event-init : goal.loop-event-init
loop-event-init g c = rw c.new-counts.ensures (part_none (g.W.Write.contents c.args.output.now) _)

pub loop-event-preserved : goal.loop-event-preserved
loop-event-preserved g c =
    let l = c.loop-event in
    let e = c.event-item.result in
    let events = drop_more c.args.events.now l.event-index e c.loop-event-test.true ∙ ap (λ x. x ∷ drop (l.event-index + 1) c.args.events.now) (sym c.event-item.is) in
    rw c.in_ok-print_step.ensures.counted
    (part_more _ _ _ _ _ _ _ l.invariant (next c.args.cutter.now l.counts _ _ l.rest.now _ e _ events c.in-Some.ensures.cases.0) c.in_ok-print_step.ensures.printed)

pub returns-in_default : goal.returns-in_default
returns-in_default g c = part_whole _ _ _ _ c.loop-event.invariant (none _ _ _ _ (empty _ c.in_default.ensures.cases))

pub returns : goal.returns
returns g c =
    let none_left = drop_all c.loop-event.event-index c.args.events.now c.loop-event-test.false in
    part_whole _ _ _ _ c.loop-event.invariant (rw none_left refl)
