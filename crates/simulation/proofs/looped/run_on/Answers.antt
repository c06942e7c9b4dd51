use Rattle.std.proofs.Common.{◌∙◌, Bool, ap, if◌then◌else◌}
use Rattle.std.proofs.KnownBytes.{Appends-trans}
use Rattle.simulation.proofs.looped.run_on.Goals as goal

pub returns : goal.returns
returns g c =
    let had = c.in_ok-refused.ensures in
    record {
      turns = had.turns;
      last = c.take_turns.new.world;
      taken = had.taken;
      text = Appends-trans _ _ _ _ _ had.text c.in_ok-print_world.ensures;
      is = c.status_of.ensures ∙ ap (λ (b : Bool). if b then 3 else 0) had.refusals;
    }
