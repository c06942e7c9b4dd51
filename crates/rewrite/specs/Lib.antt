pub mod PassedOn
pub mod Sums
pub mod Translated
