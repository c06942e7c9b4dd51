-- The lemmas that proofs of other crates may cite.

-- The invariant of the list of waiting packets.
-- one more packet is kept, where it has a place
pub use Rattle.waiting.proofs.Places.{kept-push}
-- a packet for a next hop is dropped to make a place
pub use Rattle.waiting.proofs.Places.{room-kept}
-- some of the packets are taken off
pub use Rattle.waiting.proofs.Places.{kept-filter}
-- a packet's next hop was asked for again
pub use Rattle.waiting.proofs.Asked.{kept-asked, apart-asked}
-- Noting that a next hop was asked for changes the time of one packet alone.
-- what ignores that time, of one packet and of all, is unchanged
pub use Rattle.waiting.proofs.Asked.{Ignores, same-packet, map-asked, filter-asked, length-asked}
-- the packets whose wait is over, the others, and the young ones, once one was asked for
pub use Rattle.waiting.proofs.Asked.{ended-asked, left-asked, young-asked}
-- What holds of each packet holds still, where one was asked for, and where one was dropped.
pub use Rattle.waiting.proofs.Asked.{all-asked, all-room}
