mod Grammar
mod Routes
pub mod Offered
