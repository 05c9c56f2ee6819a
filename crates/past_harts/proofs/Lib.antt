pub mod NextRounds
pub mod Begun
