pub mod Sources
pub mod Phases
pub mod Repeats
pub mod Marks
pub mod Laws
pub mod Touching
