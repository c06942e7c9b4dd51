mod Alike
pub mod Offered
