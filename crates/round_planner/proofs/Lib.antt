pub mod Checks
pub mod Found
pub mod Texts
pub mod Told
pub mod Unique
pub mod Rows
pub mod Good
