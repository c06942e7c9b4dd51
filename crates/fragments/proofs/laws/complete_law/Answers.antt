use Rattle.std.proofs.Common.{List, ℕ}
use Rattle.fragments.proofs.Counting.{complete-whole, whole-complete}
use Rattle.fragments.proofs.laws.complete_law.Goals as goal

pub returns : goal.returns
returns c = λ (fragments : List (List ℕ)) apart fine. (whole-complete fragments apart fine, complete-whole fragments fine)
