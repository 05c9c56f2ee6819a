mod Counted
mod KeptBytes
mod KnownMoves
mod KnownStates
mod LostPlaces
mod SettledSpots
mod Sooner
mod Times
