pub mod Fields
pub mod Recorded
pub mod Grammar
pub mod Views
pub mod Refusals
