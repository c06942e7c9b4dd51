pub mod Printed
pub mod Lines
pub mod Runs
