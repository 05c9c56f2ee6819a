pub mod InOrder
pub mod Ordered
