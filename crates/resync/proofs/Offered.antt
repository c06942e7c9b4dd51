-- The lemmas that proofs of other crates may cite.

-- The settled pairs after a key, in the order of a table.
pub use Rattle.resync.proofs.Behind.{table-strict, found-sent, place-on, place-small}
-- entries in strict order: each is after the one before it, and the first is not below this place
pub use Rattle.resync.proofs.Behind.{IsStrict}
-- A batch is no longer than twice the keys of both ranges, and two more.
-- a batch of the table's owned ports and of any entries that fit in the table has at most 2 * capacity + 2 records
pub use Rattle.resync.proofs.Few.{few-of}
