pub mod Asking
pub mod HitsLeft
pub mod Printing
pub mod Refusals
pub mod SightsBefore
