pub mod Runs
pub mod Within
pub mod Harts
pub mod Recording
pub mod Finding
