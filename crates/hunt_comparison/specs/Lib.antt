pub mod Twins
pub mod Text
pub mod Status
pub mod Unlikes
pub mod Compares
