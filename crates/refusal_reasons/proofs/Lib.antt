pub mod Breaking
pub mod Once
pub mod Tearing
