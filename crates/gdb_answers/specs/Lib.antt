pub mod Files
pub mod Stores
pub mod Answers
pub mod Commands
