use Rattle.std.proofs.Common.{◌∙◌, ap, refl}
use Rattle.simulation.specs.Lines.{one_more}
use Rattle.simulation.specs.declared.lines.Counts.{Counts}
use Rattle.simulation.proofs.Splits.{events_kept, step_split}
use Rattle.simulation.proofs.Parts.{part_more, part_none, part_rest}
use Rattle.simulation.proofs.lines.print_step.Goals as goal

pub returns-clause-printed : goal.returns-clause-printed
returns-clause-printed g c =
    let number = c.next_event-number.ensures.number ∙ ap (λ (s : Counts). one_more s.events) c.set_sent.ensures
    ∙ ap one_more (events_kept c.gateway_of-id.result c.print_output.new.sent c.args.counts.now) in
    let split = step_split c.args.cutter.now c.args.counts.now c.args.event.now c.args.step.now _ _ _ c.gateway_of-id.ensures c.sent_by-sent.ensures number in
    part_rest c.print_answer.result _ _ _ _ _
    (part_more _ _ _ _ _ _ _ (part_none (g.W.Write.contents c.args.output.now) _) split c.in_ok-print_output.ensures.printed) c.print_answer.ensures
