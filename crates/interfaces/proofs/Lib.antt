mod Listing
mod Starting
mod Telling
