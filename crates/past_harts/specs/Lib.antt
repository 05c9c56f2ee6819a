pub mod Moments
pub mod Points
pub mod Begun
