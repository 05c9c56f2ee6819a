pub mod AskedTurns
pub mod Asked
pub mod NumbersAsked
pub mod TurnHartsReserving
pub mod TurnHartsAsked
pub mod TurnHartsFound
pub mod HalfRounds
