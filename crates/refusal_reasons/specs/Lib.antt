pub mod Listing
pub mod Reasons
