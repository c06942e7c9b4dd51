mod Grammar
mod Putting
mod Quoting
mod Saying
mod Told
