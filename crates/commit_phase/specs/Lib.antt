pub mod Commit
pub mod Writing
pub mod Shards
