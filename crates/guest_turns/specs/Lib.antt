pub mod Asked
pub mod NumberAsked
pub mod TurnHarts
pub mod ReservingTurnHarts
