pub mod Sights
pub mod Moves
pub mod Laws
pub mod Bytes
pub mod Stops
pub mod Hits
pub mod Pcs
pub mod Quiet
