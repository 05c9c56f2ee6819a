pub mod Units
pub mod Ended
pub mod Told
pub mod Framing
pub mod Going
pub mod Pieces
pub mod Written
pub mod Spelled
