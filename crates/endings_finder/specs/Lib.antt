pub mod AllEndings
pub mod Checked
pub mod Fences
