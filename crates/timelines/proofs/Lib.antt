pub mod ShownThere
pub mod OwnPartsDone
pub mod Stretches
