pub mod Drawn
pub mod DrawnRounds
