pub mod Addresses
pub mod Firsts
pub mod Valuing
pub mod Sourcing
pub mod Repeated
pub mod Overwritten
