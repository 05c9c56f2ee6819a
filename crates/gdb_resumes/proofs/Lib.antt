pub mod Passing
pub mod Passed
pub mod Come
