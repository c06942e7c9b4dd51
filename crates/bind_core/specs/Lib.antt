pub mod Changes
pub mod Cores
pub mod View
pub mod Grants
pub mod Memory
pub mod Looks
