use Rattle.std.proofs.Common.{◌++◌, ◌∙◌, ◌∷◌, [], List, ap, subst, sym, take}
use Rattle.std.proofs.lemmas.List.{take_more}
use Rattle.nat_types.specs.declared.events.WorldEvent.{WorldEvent}
use Rattle.simulation.specs.Runs.{HaveTurned}
use Rattle.simulation.proofs.Turning.{all_turned, none_turned, one_turned}
use Rattle.simulation.proofs.looped.take_turns.Goals as goal

pub loop-event-init : goal.loop-event-init
loop-event-init g c = none_turned g.W.Write.contents _ _ _ c.new-counts.ensures

pub loop-event-preserved : goal.loop-event-preserved
loop-event-preserved g c =
    let l = c.loop-event in
    let events = c.as_slice-events.result.now in
    let e = c.event-item.result in
    let more = take_more events l.event-index e c.loop-event-test.true ∙ ap (λ (x : WorldEvent). take l.event-index events ++ x ∷ []) (sym c.event-item.is) in
    rw (more, c.has_refused-refused.ensures) (one_turned g.W.Write.contents _ (take l.event-index events) l.world _ _ l.refused l.counts e
    c.turn-step.result _ _ _ l.invariant c.turn-step.ensures (rw (c.of-cutter.ensures) at c.in_ok-print_turn.ensures.printed) c.in_ok-print_turn.ensures.counted)

pub returns : goal.returns
returns g c =
    let l = c.loop-event in
    let events = c.as_slice-events.result.now in
    subst (λ (es : List WorldEvent). HaveTurned g.W.Write.contents c.args.world.now es l.world c.args.output.now l.output l.refused) c.as_slice-events.ensures.value
    (all_turned g.W.Write.contents _ events l.event-index l.world _ _ l.refused l.counts c.loop-event-test.false l.invariant)
