pub mod Drawn
pub mod Misnamed
