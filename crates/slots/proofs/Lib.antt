mod Rare
mod Places
mod Rows
mod Edits
mod Stored
mod LookUps
mod Summed
mod Counted
mod Held
mod Due
pub mod Offered
