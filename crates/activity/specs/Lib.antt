pub mod Packets
pub mod Sessions
pub mod Places
pub mod Kept
pub mod Lives
pub mod Rests
pub mod Dues
pub mod Packed
