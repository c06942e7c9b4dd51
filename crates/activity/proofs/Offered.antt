-- The lemmas that proofs of other crates may cite.

-- A pair is idle from its due moment on.
-- a pair is idle exactly from its due moment on
pub use Rattle.activity.proofs.Due.{idle-from}
-- What is kept of a life agrees with its past.
-- what is kept agrees with the past as a pair comes into a table, as its life begins anew, and after a packet
pub use Rattle.activity.proofs.Pasts.{agrees-came, agrees-renewed, agrees-carried}
-- a segment is loose, and a use counts, by what is kept where it does by the past
pub use Rattle.activity.proofs.Pasts.{loose-is, counts-is}
-- a life that agrees with a past is idle where the past is
pub use Rattle.activity.proofs.Pasts.{looks-is}
-- An idle pair has rested since each use.
pub use Rattle.activity.proofs.Resting.{accounts-came, accounts-renewed, accounts-anew, accounts-later, accounts-more, accounts-kept, accounts-idle, accounts-unused, rested-later}
