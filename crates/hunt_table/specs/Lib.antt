pub mod Names
pub mod Text
pub mod Reading
pub mod Told
pub mod Merging
pub mod Refusals
pub mod Programs
pub mod Ranges
