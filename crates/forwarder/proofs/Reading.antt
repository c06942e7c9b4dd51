-- No frame is refused as too long when it is read.
use Rattle.std.proofs.Common.{◌≢◌, Result, Ok, Err, IfErr}
use Rattle.packet_rules.specs.declared.readings.Reading.{Reading}
use Rattle.packet_rules.specs.declared.reasons.Reason.{Reason}
use Rattle.packet_rules.specs.declared.reasons.Reason.TheVariants.{TooLong}

-- a frame that was read is refused for another reason
pub reading-is-short : (r : Result Reading Reason) → r ≢ Err TooLong → IfErr r (λ reason. reason ≢ TooLong)
reading-is-short (Ok reading) short = tt
reading-is-short (Err reason) short = λ is. short cc
