pub mod Confirmed
pub mod Told
