mod Following
mod Going
pub mod Naming
pub mod Sourcing
