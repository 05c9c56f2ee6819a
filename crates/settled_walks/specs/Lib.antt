pub mod Kept
pub mod KnownWalks
pub mod SettledPlaces
pub mod Within
