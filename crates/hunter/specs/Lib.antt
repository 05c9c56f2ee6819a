pub mod Finding
pub mod Hunts
pub mod Refusals
