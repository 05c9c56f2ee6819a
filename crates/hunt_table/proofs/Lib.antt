pub mod EndingsAgain
pub mod Lines
pub mod Loops
pub mod Numbers
pub mod Quotes
pub mod Repeats
pub mod Whole
pub mod Slices
