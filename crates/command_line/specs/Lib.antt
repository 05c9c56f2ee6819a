pub mod Asking
pub mod Faults
pub mod Names
pub mod Reading
