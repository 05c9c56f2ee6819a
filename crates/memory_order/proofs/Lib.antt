pub mod Facts
pub mod RoundOrders
pub mod Meeting
pub mod Placing
pub mod Sorting
pub mod Sources
pub mod Fewer
pub mod Steps
pub mod Wider
mod Atomicity
mod Forms
mod Pairing
mod Preserving
mod ProgramBounds
mod Raising
mod Ranking
mod WordRaising
mod WordReading
pub mod Bounding
pub mod Composing
pub mod Harts
pub mod Sourcing
pub mod Valuing
