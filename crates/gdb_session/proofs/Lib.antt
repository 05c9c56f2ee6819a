pub mod Arriving
pub mod Refusing
pub mod Resuming
pub mod Wanting
