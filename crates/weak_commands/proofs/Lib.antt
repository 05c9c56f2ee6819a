mod Numerals
pub mod NamedWords
pub mod Saved
pub mod Ended
