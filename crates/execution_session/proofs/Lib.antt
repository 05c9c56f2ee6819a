pub mod Arriving
pub mod Texts
mod OpenedAs
