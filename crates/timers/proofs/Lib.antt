mod Found
mod Leading
mod Writing
mod Standing
mod Packing
mod Unlinking
mod Linking
mod Counting
mod Changing
mod Taking
mod Walking
mod Turning
mod Fresh
mod CallerLemmas
pub mod Offered
