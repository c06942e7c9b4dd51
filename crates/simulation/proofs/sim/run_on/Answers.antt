use Rattle.std.proofs.Common.{◌∙◌, Bool, List, ap, subst, if◌then◌else◌}
use Rattle.std.specs.Io.KnownBytes.{Appends}
use Rattle.std.proofs.KnownBytes.{Appends-trans}
use Rattle.nat_types.specs.declared.events.WorldEvent.{WorldEvent}
use Rattle.frame_sim.specs.Status.{has_refusal}
use Rattle.frame_sim.specs.declared.events.Step.{Step}
use Rattle.simulation.specs.Lines.{networks_in}
use Rattle.simulation.specs.Runs.{IsPlayed, run_lines}
use Rattle.simulation.proofs.sim.run_on.Goals as goal

pub returns : goal.returns
returns g c =
    let events = c.as_slice-events.ensures.value in
    let all = c.as_slice-steps.ensures.value in
    subst (λ (es : List WorldEvent). IsPlayed g.W.Write.contents c.args.world.now es c.args.output.now c.print_world.new.output c.status_of.result) events
    (record {
      run = record {
        steps = c.in_ok-steps.steps.items;
        world = c.steps_of.new.world;
        answers = c.in_ok-steps.ensures;
        refusals = c.status_of.ensures ∙ ap (λ (b : Bool). if b then 3 else 0) (c.has_refusal.ensures ∙ ap has_refusal all);
      };
      text = subst (λ (ss : List Step). Appends (g.W.Write.contents c.args.output.now) (g.W.Write.contents c.print_world.new.output) (run_lines (networks_in c.args.world.now) c.as_slice-events.result.now ss c.steps_of.new.world))
          all (Appends-trans _ _ _ _ _ (rw (c.of-cutter.ensures) at c.in_ok-print_steps.ensures) c.in_ok-print_world.ensures);
    })
