use Rattle.spec_step.proofs.Marking.{hairpin-marked, hairpin-segment-marked, inward-marked, outward-marked, reset-marked, segment-marked, taken-marked}
use Rattle.spec_step.proofs.laws.uses_are_marked.Goals as goal

pub returns-clause-taken : goal.returns-clause-taken
returns-clause-taken c = taken-marked

pub returns-clause-outward : goal.returns-clause-outward
returns-clause-outward c = outward-marked

pub returns-clause-reset : goal.returns-clause-reset
returns-clause-reset c = reset-marked

pub returns-clause-inward : goal.returns-clause-inward
returns-clause-inward c = inward-marked

pub returns-clause-segment : goal.returns-clause-segment
returns-clause-segment c = segment-marked

pub returns-clause-hairpin : goal.returns-clause-hairpin
returns-clause-hairpin c = λ s flow flags own other one two owns others plain no. hairpin-marked s flow flags own other one two owns others plain no

pub returns-clause-hairpin_segment : goal.returns-clause-hairpin_segment
returns-clause-hairpin_segment c = λ s flow flags own other one two owns others apart plain tcp. hairpin-segment-marked s flow flags own other one two owns others plain apart tcp
