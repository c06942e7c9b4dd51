use Rattle.std.proofs.Common.{List, ℕ}
use Rattle.fragments.proofs.Orders.{among-from, among-to, same-whole}
use Rattle.fragments.proofs.laws.order_law.Goals as goal

pub returns : goal.returns
returns c = λ (fragments others : List (List ℕ)) whole same. same-whole fragments others
    (λ (f : List ℕ). (
      (λ there. among-from others f ((same f).0 (among-to fragments f there))),
      λ there. among-from fragments f ((same f).1 (among-to others f there)),
    ))
    whole
