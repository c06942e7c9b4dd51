mod Items
mod Packing
mod Segments
mod Pasts
mod Resting
mod Strangers
mod Due
pub mod Offered
