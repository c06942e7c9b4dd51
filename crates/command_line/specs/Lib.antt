pub mod Line
pub mod Values
pub mod Filters
pub mod Tasks
pub mod Faults
pub mod Arguments
