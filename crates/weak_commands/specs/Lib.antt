pub mod Status
pub mod Places
pub mod Saved
pub mod Asked
pub mod AskedExecutions
pub mod Relations
