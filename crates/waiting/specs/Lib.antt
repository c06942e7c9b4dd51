pub mod Memory
pub mod Packets
pub mod Waits
