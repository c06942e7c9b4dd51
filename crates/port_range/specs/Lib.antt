pub mod Counts
pub mod Drawn
pub mod Marks
pub mod Memory
pub mod Ports
pub mod Searches
pub mod Words
