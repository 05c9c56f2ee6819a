pub mod KnownBytes
pub mod Operations
