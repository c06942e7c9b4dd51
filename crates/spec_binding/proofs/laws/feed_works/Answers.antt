use Rattle.spec_binding.proofs.Parts.{feed-works}
use Rattle.spec_binding.proofs.laws.feed_works.Goals as goal

pub returns : goal.returns
returns c = feed-works
