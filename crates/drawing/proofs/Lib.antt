pub mod Telling
pub mod Stages
pub mod DrawnSoFar
