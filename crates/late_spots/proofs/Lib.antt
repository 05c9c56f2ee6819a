mod Branches
mod LateRuns
mod LateSpots
mod Operations
mod OwnStores
mod Settling
