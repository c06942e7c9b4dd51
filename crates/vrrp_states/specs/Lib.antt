pub mod Table
pub mod Fields
pub mod Run
