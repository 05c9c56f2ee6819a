pub mod Going
pub mod Killing
mod Unchanged
