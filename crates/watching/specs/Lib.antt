pub mod Watches
pub mod Saved
pub mod Events
