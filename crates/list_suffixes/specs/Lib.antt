pub mod ApartRuns
pub mod CurrentRuns
pub mod KeptMoves
pub mod LateDebts
pub mod NodeWalks
pub mod Serving
pub mod SettledWalks
pub mod Staying
