use Rattle.bindings.proofs.Owning.{four-bits}
use Rattle.bindings.proofs.ports.Ports.spare_word.Goals as goal

pub returns : goal.returns
returns c = λ i low.
    four-bits c.owned_word.result c.free_word.result c.free_word-2.result c.free_word-3.result i _ _ _ _
    (c.owned_word.ensures i low) (c.free_word.ensures i low) (c.free_word-2.ensures i low) (c.free_word-3.ensures i low)
