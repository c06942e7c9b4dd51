mod Lines
mod Unique
mod Truths
mod Rows
