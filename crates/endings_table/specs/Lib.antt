pub mod Endings
pub mod Text
