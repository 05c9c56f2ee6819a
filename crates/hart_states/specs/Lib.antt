pub mod Choices
pub mod Following
pub mod Opening
pub mod Readings
pub mod States
