pub mod Chains
pub mod Growing
pub mod Tops
pub mod Rowed
pub mod Shown
