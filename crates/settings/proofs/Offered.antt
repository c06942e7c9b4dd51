-- The lemmas that proofs of other crates may cite.

-- the test of whether two have each value alike is true exactly where both are equal
pub use Rattle.settings.proofs.Alike.{values-same, values-self}
