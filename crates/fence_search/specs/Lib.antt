pub mod Counting
pub mod Gathered
pub mod Places
pub mod Searching
