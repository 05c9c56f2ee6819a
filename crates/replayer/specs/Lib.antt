pub mod Replayed
pub mod Refusals
pub mod Past
pub mod Checkpoints
pub mod Visits
