pub mod Further
pub mod Noting
pub mod Positions
pub mod Seeing
