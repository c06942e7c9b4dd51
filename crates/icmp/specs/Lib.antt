pub mod Ask
pub mod Error
pub mod Own
pub mod Packet
pub mod Query
pub mod Quoted
