pub mod Sessions
pub mod Moving
pub mod Threads
pub mod Answers
pub mod Serving
pub mod Opening
