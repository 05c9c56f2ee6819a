pub mod Noting
pub mod Sorting
pub mod Stopping
pub mod Timing
pub mod Rising
pub mod Showing
mod Finding
