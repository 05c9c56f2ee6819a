pub mod Settings
pub mod Asked
pub mod Merges
pub mod Plans
pub mod Shrinks
pub mod Status
pub mod Relations
