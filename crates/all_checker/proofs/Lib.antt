pub mod Bytes
pub mod Looked
pub mod Nobodys
pub mod Taken
pub mod Walked
