pub mod Covered
pub mod Held
pub mod Laws
pub mod LineMaps
pub mod Lines
pub mod Slots
