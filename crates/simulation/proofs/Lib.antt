mod Parts
mod Splits
mod Steps
mod Turning
