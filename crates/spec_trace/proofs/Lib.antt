mod Places
mod Box
mod Sentences
mod ByPosition
mod Lists
mod Notes
mod Exact
mod Rows
mod Growth
mod Plain
pub mod Offered
