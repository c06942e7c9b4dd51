use Rattle.std.proofs.Common.{Bool, is_err, rules, tests}
use Rattle.std.proofs.lemmas.Iterator.{YieldsList-from_slice}
use Rattle.std.proofs.lemmas.Iterator.Search.{any_from_yields_List}
use Rattle.frame_sim.specs.declared.events.Step.{Step}
use Rattle.simulation.proofs.sim.has_refusal.Goals as goal

pub returns : goal.returns
returns c =
    let test : Step → Bool = λ s. is_err s.answer in
    any_from_yields_List test _ _ _ c.any.ensures.ran (YieldsList-from_slice c.args.steps.now cc) (λ x b q k. search (rules, tests))
