pub mod Hunted
pub mod Tabled
mod AllowedFiles
