-- The lemmas that proofs of other crates may cite.

-- A list of the table's pairs, loaded at the other, gives the mirrored table.
pub use Rattle.spec_pair.proofs.Batches.{batch_new, batch_mirrored}
-- Where the runs are the owned ports, what is left to the other is the rest of the ranges.
pub use Rattle.spec_pair.proofs.Batches.{runs_leave}
-- Boxes that agree in every field are equal.
pub use Rattle.spec_pair.proofs.Boxes.{same_boxes}
-- Steps of a gateway: two joined into one, set after other notes and letters, and of one act or
-- none.
pub use Rattle.spec_pair.proofs.StepLaws.{steps_join, rests, steps_anywhere, more_is_handed}
-- Whatever record is at the next number, the act that the record table names takes it.
pub use Rattle.spec_pair.proofs.Taking.{got}
