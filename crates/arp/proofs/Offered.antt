-- The lemmas that proofs of other crates may cite.

-- Known hardware addresses have six bytes.
pub use Rattle.arp.proofs.Wholes.{near-six}
-- they still do after an ARP packet
pub use Rattle.arp.proofs.Wholes.{taught-six}
-- they still do after a packet was sent to a neighbour
pub use Rattle.arp.proofs.Sent.{sent-six}
-- An address has an entry after an ARP packet of it where it had one, or where the packet was for the interface.
pub use Rattle.arp.proofs.Teaching.{has-taught}
-- A packet that is sent changes no hardware address that is found.
pub use Rattle.arp.proofs.Sent.{mac-sent}
-- the neighbours without what a packet that is sent changes of them
pub use Rattle.arp.proofs.Sent.{forgetful, forgetful-sent, mac-forgetful}
-- A request becomes due, at a moment, for the sender of an ARP packet alone: not where a packet is sent, and for no other
-- address where an ARP packet comes. Behind a packet at most one request is due at a moment.
pub use Rattle.arp.proofs.Due.{asks-sent, asks-taught, asks-once}
