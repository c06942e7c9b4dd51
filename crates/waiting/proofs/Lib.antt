mod Asked
mod Moving
mod Octets
mod Places
mod Singles
pub mod Offered
