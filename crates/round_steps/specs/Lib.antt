pub mod Places
pub mod TurnsNoted
pub mod Points
pub mod Stopping
pub mod Searching
