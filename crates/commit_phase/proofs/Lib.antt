pub mod Breaking
pub mod Writing
pub mod HartOrder
pub mod Lined
pub mod Sharding
