pub mod Current
mod Following
mod Joining
mod KeptMoves
pub mod KeptRuns
pub mod LateDebts
mod Nodes
mod Past
mod Placed
mod Serving
mod Settled
mod Shorter
mod Staying
