pub mod Pending
pub mod Report
pub mod Order
pub mod Shown
pub mod Blocks
pub mod RunStates
