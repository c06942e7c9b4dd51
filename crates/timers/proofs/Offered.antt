-- The lemmas that proofs of other crates may cite.

-- Which slots are found due.
-- a due slot is listed
pub use Rattle.timers.proofs.Found.{listed-due}
-- What the links of a chain say of its slots.
pub use Rattle.timers.proofs.Leading.{here}
