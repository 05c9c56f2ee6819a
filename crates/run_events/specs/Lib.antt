pub mod Pcs
pub mod Parts
pub mod Hits
pub mod Watched
