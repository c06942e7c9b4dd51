pub mod Forwarder
pub mod Plans
pub mod Room
