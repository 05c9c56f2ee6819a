pub mod Branching
pub mod LateRuns
pub mod LateSpots
pub mod Onward
