pub mod ApartMoves
pub mod Covering
pub mod KeptLists
mod LaterLoads
pub mod Mirroring
pub mod OwnStores
mod PrivateTimes
pub mod SharedLists
pub mod SpotMoves
pub mod Together
