use Rattle.std.proofs.Common.{List, ℕ}
use Rattle.fragments.specs.Cut.{cut}
use Rattle.fragments.proofs.Cutting.{again, complete-cut}
use Rattle.fragments.proofs.Orders.{among-from, among-to}
use Rattle.fragments.proofs.laws.whole_again.Goals as goal

pub returns-clause-complete : goal.returns-clause-complete
returns-clause-complete c = complete-cut

pub returns-clause-whole : goal.returns-clause-whole
returns-clause-whole c = λ (mtu identification : ℕ) (frame : List ℕ) (others : List (List ℕ)) is same.
    again mtu identification frame others is
    (λ (f : List ℕ). (
      (λ there. among-from others f ((same f).0 (among-to (cut mtu identification frame) f there))),
      λ there. among-from (cut mtu identification frame) f ((same f).1 (among-to others f there)),
    ))
