pub mod Taken
pub mod Given
pub mod RunErrors
pub mod Writes
