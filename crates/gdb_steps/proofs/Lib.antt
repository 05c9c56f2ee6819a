pub mod Arriving
pub mod Further
