pub mod Closed
pub mod Effects
pub mod Runs
pub mod TurnStates
