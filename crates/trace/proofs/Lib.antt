pub mod RunForms
pub mod Growing
pub mod Lasting
pub mod Openings
mod Dropping
mod Chunking
