use Rattle.spec_pair.proofs.Props as laws
use Rattle.spec_pair.proofs.laws.promises_without_alone.Goals as goal

pub returns : goal.returns
returns c = record { fits = laws.fits_in_order; kept = laws.plain_in_order }
