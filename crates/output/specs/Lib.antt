pub mod Memory
pub mod Piles
pub mod Readers
pub mod Output
