pub mod Numerals
pub mod Laws
pub mod Whole
pub mod Loops
pub mod Written
pub mod WordLoops
mod Doing
mod NamedTurns
mod Steps
