pub mod Putting
pub mod Written
pub mod Answered
