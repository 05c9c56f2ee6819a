pub mod Departing
pub mod Well
pub mod Trials
