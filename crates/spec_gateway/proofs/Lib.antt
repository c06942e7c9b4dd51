mod Reading
mod Renumbered
mod Keeping
mod Numbers
mod Inside
mod Planning
mod Doing
mod Switching
