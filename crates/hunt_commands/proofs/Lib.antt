pub mod Ranges
pub mod Refused
pub mod TableFiles
pub mod Tables
