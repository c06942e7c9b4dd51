use Rattle.spec_pair.proofs.Telling as laws
use Rattle.spec_pair.proofs.laws.tells_are_taken.Goals as goal

pub returns : goal.returns
returns c = record { taken = laws.tells_are_taken; alone = laws.tells_were_alone }
