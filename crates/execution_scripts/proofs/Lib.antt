pub mod Counted
mod Ended
mod Going
mod Judging
mod Loops
mod Moving
mod Numbers
mod Opened
mod Reading
mod Stepped
mod Stepping
mod Ways
