pub mod Views
pub mod Drawings
