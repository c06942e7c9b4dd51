use Rattle.spec_gateway.proofs.Numbers.{short-stay}
use Rattle.spec_gateway.proofs.laws.short_frames_stay.Goals as goal

pub returns : goal.returns
returns c = λ networks id n frames short.
    let stay = short-stay networks id n frames short in
    (stay.same, stay.none, stay.whole)
