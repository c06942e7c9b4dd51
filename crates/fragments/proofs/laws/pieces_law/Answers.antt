use Rattle.std.proofs.Common.{List, ℕ}
use Rattle.fragments.specs.Cut.{pieces}
use Rattle.fragments.proofs.Longs.{long-again, long-complete, long-few, long-short}
use Rattle.fragments.proofs.Orders.{among-from, among-to}
use Rattle.fragments.proofs.laws.pieces_law.Goals as goal

pub returns-clause-complete : goal.returns-clause-complete
returns-clause-complete c = long-complete

pub returns-clause-whole : goal.returns-clause-whole
returns-clause-whole c = λ (mtu : ℕ) (frame : List ℕ) (others : List (List ℕ)) limits bytes long same.
    long-again mtu frame others limits bytes long
    (λ (f : List ℕ). (
      (λ there. among-from others f ((same f).0 (among-to (pieces mtu frame) f there))),
      λ there. among-from (pieces mtu frame) f ((same f).1 (among-to others f there)),
    ))

pub returns-clause-short : goal.returns-clause-short
returns-clause-short c = long-short

pub returns-clause-few : goal.returns-clause-few
returns-clause-few c = long-few
