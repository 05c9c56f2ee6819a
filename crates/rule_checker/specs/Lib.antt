pub mod Bytes
pub mod CarriedBounds
pub mod Kinds
pub mod Violations
