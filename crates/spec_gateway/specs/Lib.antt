pub mod State
pub mod Arrivals
pub mod Sendings
pub mod Steps
pub mod Inner
pub mod Without
