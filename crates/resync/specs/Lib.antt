pub mod Batch
pub mod Cursor
pub mod Loading
pub mod Whole
