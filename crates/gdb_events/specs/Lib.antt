pub mod Saying
pub mod Stops
pub mod Output
pub mod Buffers
pub mod Rounds
pub mod Events
pub mod Reserved
