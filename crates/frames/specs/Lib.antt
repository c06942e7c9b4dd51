pub mod Bytes
pub mod Frame
pub mod Lending
