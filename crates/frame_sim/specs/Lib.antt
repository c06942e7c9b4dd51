pub mod World
pub mod Events
pub mod Halves
pub mod Lacks
pub mod Scene
pub mod Runs
pub mod Status
pub mod Texts
