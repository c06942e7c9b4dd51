mod Answered
mod Crashes
mod Joins
mod Leaves
mod Loops
mod Numbers
mod Runs
mod Stored
mod Torn
pub mod Offered
