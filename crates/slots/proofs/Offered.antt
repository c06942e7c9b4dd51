-- The lemmas that proofs of other crates may cite.

-- The rows after one cell was written.
pub use Rattle.slots.proofs.Edits.{with-absent}
-- Cells and keys: each cell has a key of its own, and their order is that of the cells.

-- the places of later cells are greater
pub use Rattle.slots.proofs.Places.{places_rise}
