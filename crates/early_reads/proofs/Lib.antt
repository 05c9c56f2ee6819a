pub mod Accesses
pub mod Behind
pub mod Bounds
mod Exits
mod LateBehind
mod LeftOut
pub mod Loads
pub mod Moves
mod Numbers
pub mod Points
pub mod StoresListed
