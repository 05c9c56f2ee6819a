pub mod Allowed
pub mod RunOrders
