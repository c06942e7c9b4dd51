mod Due
mod Healing
mod Indexed
mod Logs
mod Reading
mod Sending
mod Sent
mod Shifts
mod Spelling
mod Spelt
mod Tallies
mod Teaching
mod Wholes
pub mod Offered
