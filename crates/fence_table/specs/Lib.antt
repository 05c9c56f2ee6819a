pub mod Counting
pub mod Text
pub mod Accepting
