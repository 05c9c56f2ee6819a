pub mod Bounds
pub mod Operations
pub mod Touched
