pub mod Cables
pub mod Memory
pub mod Stations
pub mod Tallies
