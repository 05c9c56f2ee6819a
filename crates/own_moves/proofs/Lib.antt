pub mod Apart
pub mod Kept
pub mod Numbers
pub mod Recalled
pub mod Strays
