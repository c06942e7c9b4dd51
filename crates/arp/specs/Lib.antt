pub mod Healing
pub mod Log
pub mod Macs
pub mod Memory
pub mod Neighbours
pub mod Packet
