pub mod Nodes
pub mod Owning
pub mod Tables
