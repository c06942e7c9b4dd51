mod Naming
mod Putting
mod Slotted
mod Ahead
mod Behind
mod Drawing
mod Giving
mod Holding
mod Steady
mod Seconds
mod Few
pub mod Offered
