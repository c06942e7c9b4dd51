pub mod Carried
pub mod Datagram
pub mod Flow
pub mod Header
pub mod Options
pub mod Order
pub mod Segment
