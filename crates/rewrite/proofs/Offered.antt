-- The lemmas that proofs of other crates may cite.
pub use Rattle.rewrite.proofs.Begins.{Begins, passed-begins, payload-first, query-begins}
