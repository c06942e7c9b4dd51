-- The lemmas that proofs of other crates may cite.

-- What is asked for behind a change leaves places of the link.
pub use Rattle.forwarder.proofs.Wishing.{ahead-leaves}
