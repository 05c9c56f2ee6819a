pub mod Bounds
pub mod Constants
pub mod Following
pub mod Found
pub mod Spots
pub mod Walks
