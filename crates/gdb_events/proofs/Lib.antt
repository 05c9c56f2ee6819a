pub mod Rounds
pub mod Behind
