-- The lemmas that proofs of other crates may cite.

-- A crash after a sync, or after a read, leaves nothing that it couldn't leave before.
pub use Rattle.boot_store.proofs.Leaves.{synced_leaves, still_leaves, read_keeps}
-- A call that left what was kept, after a sync, leaves what was kept before it.
pub use Rattle.boot_store.proofs.Leaves.{synced_still}
pub use Rattle.boot_store.proofs.Crashes.{same_still}
-- A statement about an Err, whatever a call answers.
pub use Rattle.boot_store.proofs.Joins.{on_err}
