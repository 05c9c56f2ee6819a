pub mod Finds
pub mod MissingFences
pub mod Telling
