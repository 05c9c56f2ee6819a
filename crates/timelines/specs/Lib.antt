pub mod Shown
pub mod OwnParts
pub mod Timelines
