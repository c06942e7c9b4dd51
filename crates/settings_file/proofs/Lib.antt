mod Agree
mod Apart
mod Cuts
mod Lists
mod Loops
