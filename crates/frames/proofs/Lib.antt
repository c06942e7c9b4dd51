mod Puts
mod Frames
pub mod Offered
