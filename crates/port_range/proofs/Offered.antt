-- The lemmas that proofs of other crates may cite.

-- The port that is chosen.
pub use Rattle.port_range.proofs.Choice.{chosen-same}
-- each port that may be given out lies between the two
pub use Rattle.port_range.proofs.Choice.{Between}
-- a chosen port is one that `IsChosen` allows
pub use Rattle.port_range.proofs.Choice.{chosen-is}
-- where no port is chosen, no port may be given out
pub use Rattle.port_range.proofs.Choice.{chosen-none}
-- A bit of two words' conjunction.
pub use Rattle.port_range.proofs.Bits.{is_set-and}
-- The port that is drawn.
-- each port that may be given out is owned
pub use Rattle.port_range.proofs.Drawing.{AreOwned}
-- each port that may be given out is a port
pub use Rattle.port_range.proofs.Drawing.{ArePorts}
-- a drawn port is one that `IsLike` allows
pub use Rattle.port_range.proofs.Drawing.{drawn-is}
-- where no port is drawn, no port may be given out
pub use Rattle.port_range.proofs.Drawing.{drawn-none}
-- tests that agree draw the same port
pub use Rattle.port_range.proofs.Drawing.{drawn-same}
