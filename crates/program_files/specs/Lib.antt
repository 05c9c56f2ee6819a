pub mod Asked
pub mod Failures
pub mod Naming
pub mod Needed
pub mod Relations
pub mod Spurious
pub mod Status
