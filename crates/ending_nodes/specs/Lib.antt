pub mod KeptNodes
pub mod Memories
pub mod Raising
