pub mod Writing
pub mod Parts
pub mod Orders
mod InBlocks
