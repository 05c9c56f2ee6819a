pub mod KeptNodes
pub mod Laid
pub mod Memories
pub mod Raised
pub mod Same
pub mod Told
