pub mod Counts
pub mod Stood
