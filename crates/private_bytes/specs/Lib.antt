pub mod Ahead
pub mod LaterLoads
pub mod Owners
pub mod PrivateMoves
pub mod PrivateTimes
pub mod PrivateWalks
