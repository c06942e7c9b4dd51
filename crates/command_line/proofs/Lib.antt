mod Arguments
mod Entering
mod Judged
mod Numbers
mod Passing
mod Readings
mod Texts
