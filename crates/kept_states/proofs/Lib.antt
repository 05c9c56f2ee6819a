pub mod SeenOf
pub mod Checkpoint
pub mod Ranges
