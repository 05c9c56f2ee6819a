pub mod Choosing
pub mod Told
