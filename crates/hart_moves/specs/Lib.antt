pub mod Choosing
pub mod Moves
pub mod Offers
pub mod Stops
