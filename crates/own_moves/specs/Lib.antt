pub mod Moves
pub mod Owned
pub mod Private
