pub mod Sessions
pub mod Wanted
pub mod Ways
pub mod Standings
