pub mod Asking
pub mod Saying
pub mod Serving
pub mod Stops
pub mod Told
