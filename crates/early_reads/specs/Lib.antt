pub mod Checking
pub mod EarlyMaps
pub mod Flows
pub mod Laws
pub mod Windows
