mod Bare
mod Blocking
pub mod Closing
pub mod DecodedRegisters
pub mod Determined
pub mod Earlier
mod Effects
mod Endings
pub mod Factors
mod Following
mod Halting
mod Judging
mod LoadMoves
pub mod Locality
pub mod Lowering
mod Memories
pub mod Moves
mod Offers
mod OwnSteps
mod Pairs
pub mod Placing
pub mod PlainMoves
mod Seen
pub mod SourceRegisters
pub mod Sources
mod Starting
pub mod StepTimes
mod Stopping
mod StoreLists
mod StoreMoves
pub mod Tables
pub mod Times
pub mod Walking
