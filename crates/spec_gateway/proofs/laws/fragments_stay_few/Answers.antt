use Rattle.std.proofs.Common.{◌≡◌, true, sym, subst}
use Rattle.std.specs.List.{AllByRecursion}
use Rattle.fragments.specs.Gathered.{Gathered, is_young, of_side}
use Rattle.spec_step.specs.Steps.{clock_after}
use Rattle.spec_gateway.proofs.Keeping.{kept-step}
use Rattle.spec_gateway.proofs.laws.fragments_stay_few.Goals as goal

pub returns-clause-few : goal.returns-clause-few
returns-clause-few c = kept-step c.fragment_grammar.ensures

pub returns-clause-young : goal.returns-clause-young
returns-clause-young c = λ s told now s2 told2 side step.
    subst (λ (g : Gathered). AllByRecursion (λ d. is_young (clock_after s.shown.moment now) d ≡ true) (of_side side g)) (sym step.gathered_is)
    (c.bounded.ensures.young side (clock_after s.shown.moment now) s.gathered)
