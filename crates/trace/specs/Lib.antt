pub mod Briefs
pub mod LastPlaces
pub mod LentLogs
pub mod Logs
pub mod Chunks
pub mod Pieces
pub mod Runs
pub mod Traced
