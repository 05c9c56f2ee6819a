pub mod Told
pub mod Begun
pub mod Failing
pub mod NextRound
pub mod Unprinted
pub mod Places
