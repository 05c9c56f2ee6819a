pub mod WeakHunts
pub mod Refusals
pub mod WeakExecutions
