pub mod Choices
pub mod Kept
pub mod Opening
pub mod Readings
pub mod Touched
