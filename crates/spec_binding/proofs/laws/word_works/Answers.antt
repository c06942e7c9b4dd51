use Rattle.spec_binding.proofs.Restarting.{word-works}
use Rattle.spec_binding.proofs.laws.word_works.Goals as goal

pub returns : goal.returns
returns c = word-works
