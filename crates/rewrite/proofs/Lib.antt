mod Begins
mod Moved
mod Parts
mod Rights
mod Shows
pub mod Offered
