mod Bits
mod Choice
mod Counting
mod Drawing
mod Keeping
mod Listed
mod Picking
mod Ranging
mod Searching
mod Summing
mod Writing
pub mod Offered
