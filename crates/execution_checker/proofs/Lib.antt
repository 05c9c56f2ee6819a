pub mod Followed
pub mod Formed
pub mod RunOrders
pub mod StoresOf
