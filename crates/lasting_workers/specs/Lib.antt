pub mod Borrowed
pub mod Sharing
