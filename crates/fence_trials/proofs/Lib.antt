pub mod Judged
pub mod Slots
